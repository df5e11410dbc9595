-- What the parser's methods say.
use Rattle.std.specs.Prelude.{◌≡◌, ℕ, ◌<◌, Bool, true, false, cond, ◌&&◌, ◌||◌, List, [], ◌∷◌, ◌++◌, length, Some, None, Ok, Err, Option, Result, ◌≢◌}
use Rattle.words.specs.declared.kind.Kind.{Kind}
use Rattle.words.specs.declared.kind.Kind.TheVariants as kind
use Rattle.words.specs.declared.cursor.Cursor.{Cursor}
use Rattle.words.specs.declared.cursor.Word.{Word}
use Rattle.words.specs.Kinds.{is}
use Rattle.words.specs.Words.{Token, told, unread}
use Rattle.grammar.specs.declared.parser.Parser.{Parser}
use Rattle.grammar.specs.declared.parser.reading.Unexpected.{Unexpected}
use Rattle.grammar.specs.declared.parser.items.Found.{Found}
use Rattle.grammar.specs.declared.parser.items.Found.TheVariants as found
use Rattle.grammar.specs.declared.parser.items.Item.{Item}
use Rattle.grammar.specs.declared.parser.items.Part.{Part}
use Rattle.grammar.specs.declared.parser.items.Part.TheVariants as part
use Rattle.grammar.specs.declared.event.Literal.{Literal as Value}
use Rattle.grammar.specs.declared.event.Literal.TheVariants as value
use Rattle.grammar.specs.declared.event.Pairing.{Pairing as Doing}
use Rattle.grammar.specs.declared.event.Pairing.TheVariants as doing
use Rattle.grammar.specs.declared.event.End.{End as Side}
use Rattle.grammar.specs.declared.event.End.TheVariants as side
use Rattle.grammar.specs.declared.event.Event.{Event}
use Rattle.grammar.specs.declared.event.Event.TheVariants as event
use Rattle.grammar.specs.Events.{events, fed, first_item, first_action}
use Rattle.grammar.specs.Machine.{Sym, word, start, more, dotted, named, runs, Use, whole, Form, bare, inner, done, plain, literal_word}
use Rattle.grammar.specs.Trees.{Mark, tok, Tree, expr, item, place, action, inside, spell}

abbrev pub from_word : Option Word → Cursor → List Token
from_word None c = []
from_word (Some w) c = told w ∷ unread c

-- the words that a parser has still to pass
abbrev pub rest : Parser → List Token
rest p = from_word p.word p.cursor

abbrev pub kind_at : List Token → Option Kind
kind_at [] = None
kind_at (w ∷ ws) = Some w.kind

-- whether the first word is of kind k
abbrev pub seen : Kind → List Token → Bool
seen k [] = false
seen k (w ∷ ws) = is k w.kind

-- whether a variable is declared next: a keyword begins its type, or two names come
abbrev pub variable_begins : List Token → Bool
variable_begins [] = false
variable_begins (w ∷ ws) = is kind.Boolean w.kind || (is kind.Set w.kind || (is kind.Name w.kind && seen kind.Name ws))

abbrev pub type_begins : List Token → Bool
type_begins ws = seen kind.Boolean ws || (seen kind.Set ws || seen kind.Name ws)

-- whether a word of kind k begins a statement
abbrev pub statement_word : Kind → Bool
statement_word k = is kind.If k || (is kind.Name k || (literal_word k || (is kind.New k || is kind.OpenParen k)))

abbrev pub statement_begins : List Token → Bool
statement_begins [] = false
statement_begins (w ∷ ws) = statement_word w.kind

-- the place of the first word, or of the end
abbrev pub place_at : ℕ → List Token → ℕ
place_at n [] = n
place_at n (w ∷ ws) = w.place

-- the next word is passed
pub record Passed (p q : Parser) : Type 0 where
  pub rest_is : (w : Token) (ws : List Token) → rest p ≡ w ∷ ws → rest q ≡ ws
  pub end_is : q.end ≡ p.end

-- whatever is expected after γ, the words from some word on cannot come, and e is the place of the first of them
pub record Fails (p : Parser) (γ : Sym) (e : Unexpected) : Type 0 where
  pub from : List Token
  pub stuck : (α : List Sym) → runs (γ ∷ α) (rest p) ≡ Some from
  pub place_is : e.place ≡ place_at p.end from

-- a word of kind k is passed
pub record Took (k : Kind) (p q : Parser) (at : ℕ) : Type 0 where
  pub mark : Mark
  pub words : rest p ≡ tok k mark ∷ rest q
  pub place_is : at ≡ mark.place
  pub end_is : q.end ≡ p.end

abbrev pub Takes : Kind → Parser → Result ℕ Unexpected → Parser → Type 0
Takes k p (Ok at) q = Took k p q at
Takes k p (Err e) q = Fails p (word k) e

-- γ at p leads to δ at q
abbrev pub Leads : Parser → Sym → Parser → (List Sym → List Sym) → Type 0
Leads p γ q δ = (α : List Sym) → runs (γ ∷ α) (rest p) ≡ runs (δ α) (rest q)

-- from p to q the words ws are passed, and the events es take the sink from l to m, where `after` says what each does
pub record Walk {X : Type 0} (after : X → Event → X) (p : Parser) (l : X) (q : Parser) (m : X) (ws : List Token) (es : List Event) : Type 0 where
  pub words : rest p ≡ ws ++ rest q
  pub log : m ≡ fed after l es
  pub end_is : q.end ≡ p.end
  pub shorter : length (rest q) < length (rest p)

-- an expression is read
pub record ReadExpr {X : Type 0} (after : X → Event → X) (p : Parser) (l : X) (q : Parser) (m : X) : Type 0 where
  pub tree : Tree expr
  pub walk : Walk after p l q m (spell tree) (events 0 tree)
  pub leads : Leads p (start whole) q (λ α. α)

abbrev pub GivesExpr : {X : Type 0} → (X → Event → X) → Parser → X → Result (Unit {0}) Unexpected → Parser → X → Type 0
GivesExpr after p l (Ok _) q m = ReadExpr after p l q m
GivesExpr after p l (Err e) q m = Fails p (start whole) e

-- an item of some form is read
pub record ReadItem {X : Type 0} (after : X → Event → X) (p : Parser) (l : X) (q : Parser) (m : X) (at : ℕ) (f : Form) : Type 0 where
  pub tree : Tree item
  pub walk : Walk after p l q m (spell tree) (events 0 tree)
  pub first_is : first_item tree ≡ at
  pub leads : (u : Use) → Leads p (start u) q (λ α. more u f ∷ α)

-- a place is read, and neither its value nor that it is a target is reported yet
pub record HeldBare {X : Type 0} (after : X → Event → X) (p : Parser) (l : X) (q : Parser) (m : X) (at : ℕ) : Type 0 where
  pub mark : Mark
  pub walk : Walk after p l q m (tok kind.Name mark ∷ []) []
  pub first_is : mark.place ≡ at
  pub leads : (u : Use) → Leads p (start u) q (λ α. more u bare ∷ α)

pub record HeldInner {X : Type 0} (after : X → Event → X) (p : Parser) (l : X) (q : Parser) (m : X) (at n : ℕ) : Type 0 where
  pub tree : Tree item
  pub dot : Mark
  pub name : Mark
  pub walk : Walk after p l q m (spell (inside tree dot name)) (events 0 tree)
  pub name_is : name.place ≡ n
  pub first_is : first_item tree ≡ at
  pub leads : (u : Use) → Leads p (start u) q (λ α. more u inner ∷ α)

-- what may stand as an action by itself
pub record ReadDone {X : Type 0} (after : X → Event → X) (p : Parser) (l : X) (q : Parser) (m : X) (at : ℕ) : Type 0 where
  pub item : ReadItem after p l q m at done
  pub doing : Tree action
  pub spells : spell doing ≡ spell item.tree
  pub reports : events 0 doing ≡ events 0 item.tree
  pub first_is : first_action doing ≡ at

abbrev pub Finds : {X : Type 0} → (X → Event → X) → Parser → X → ℕ → Found → Parser → X → Type 0
Finds after p l at found.Bare q m = HeldBare after p l q m at
Finds after p l at (found.Inner n) q m = HeldInner after p l q m at n
Finds after p l at found.Done q m = ReadDone after p l q m at
Finds after p l at found.Plain q m = ReadItem after p l q m at plain

abbrev pub FailsItem : Parser → Unexpected → Type 0
FailsItem p e = (u : Use) → Fails p (start u) e

abbrev pub GivesItem : {X : Type 0} → (X → Event → X) → Parser → X → ℕ → Result Found Unexpected → Parser → X → Type 0
GivesItem after p l at (Ok f) q m = Finds after p l at f q m
GivesItem after p l at (Err e) q m = FailsItem p e

-- the same, with the place of its first word
abbrev pub GivesWhole : {X : Type 0} → (X → Event → X) → Parser → X → Result Item Unexpected → Parser → X → Type 0
GivesWhole after p l (Ok i) q m = Finds after p l i.place i.found q m
GivesWhole after p l (Err e) q m = FailsItem p e

-- the words that end an item
abbrev pub Ended : {A : Type 0} → Result A Unexpected → Parser → Type 0
Ended (Ok f) q = (kind_at (rest q) ≢ Some kind.Dot) × (kind_at (rest q) ≢ Some kind.Colon)
Ended (Err e) q = Unit {0}

-- no word goes on with an item
pub record Settled (p : Parser) : Type 0 where
  pub no_dot : kind_at (rest p) ≡ Some kind.Dot → ⊥
  pub no_colon : kind_at (rest p) ≡ Some kind.Colon → ⊥

-- words are passed
pub record Gone (p q : Parser) : Type 0 where
  pub end_is : q.end ≡ p.end
  pub shorter : length (rest q) < length (rest p)

abbrev pub Goes : {A : Type 0} → Parser → Result A Unexpected → Parser → Type 0
Goes p (Ok f) q = Gone p q
Goes p (Err e) q = Unit {0}

-- what is reported where the value of an item is wanted
abbrev pub reads_of : Found → ℕ → List Event
reads_of found.Bare at = event.Variable at ∷ []
reads_of (found.Inner n) at = event.Member n at ∷ []
reads_of found.Done at = []
reads_of found.Plain at = []

-- what is reported where an item is a target, if it can be one
abbrev pub target_of : Found → ℕ → Option Event
target_of found.Bare at = Some (event.ToVariable at)
target_of (found.Inner n) at = Some (event.ToMember n at)
target_of found.Done at = None
target_of found.Plain at = None

abbrev pub form_of : Found → Form
form_of found.Bare = bare
form_of (found.Inner n) = inner
form_of found.Done = done
form_of found.Plain = plain

-- an item and its dot are read; `b` says that the item is a name alone, and then no `add` or `rem` comes
pub record AfterDot {X : Type 0} (after : X → Event → X) (p : Parser) (l : X) (q : Parser) (m : X) (at : ℕ) : Type 0 where
  pub tree : Tree item
  pub dot : Mark
  pub walk : Walk after p l q m (spell tree ++ tok kind.Dot dot ∷ []) (events 0 tree)
  pub first_is : first_item tree ≡ at
  pub b : Bool
  pub leads : (u : Use) → Leads p (start u) q (λ α. dotted u b ∷ α)
  pub no_pair : b ≡ true → (kind_at (rest q) ≢ Some kind.Add) × (kind_at (rest q) ≢ Some kind.Rem)

-- an item, a dot and a name are read
pub record Named {X : Type 0} (after : X → Event → X) (p : Parser) (l : X) (q : Parser) (m : X) (at n : ℕ) : Type 0 where
  pub tree : Tree item
  pub dot : Mark
  pub name : Mark
  pub walk : Walk after p l q m (spell (inside tree dot name)) (events 0 tree)
  pub name_is : name.place ≡ n
  pub first_is : first_item tree ≡ at
  pub leads : (u : Use) → Leads p (start u) q (λ α. named u ∷ α)

-- a name alone and its dot are read
pub record DottedBare {X : Type 0} (after : X → Event → X) (p : Parser) (l : X) (q : Parser) (m : X) (at : ℕ) : Type 0 where
  pub mark : Mark
  pub dot : Mark
  pub walk : Walk after p l q m (tok kind.Name mark ∷ tok kind.Dot dot ∷ []) []
  pub first_is : mark.place ≡ at
  pub leads : (u : Use) → Leads p (start u) q (λ α. dotted u true ∷ α)

-- a place and `=` are read, and reported as a target
pub record ReadTarget {X : Type 0} (after : X → Event → X) (p : Parser) (l : X) (q : Parser) (m : X) : Type 0 where
  pub tree : Tree place
  pub mark : Mark
  pub walk : Walk after p l q m (spell tree ++ tok kind.Assign mark ∷ []) (events 0 tree)
  pub leads : Leads p (start whole) q (λ α. start whole ∷ α)

-- a part of an expression is read: a target, after which more comes, or the rest
abbrev pub GivesPart : {X : Type 0} → (X → Event → X) → Parser → X → Result Part Unexpected → Parser → X → Type 0
GivesPart after p l (Ok part.Target) q m = ReadTarget after p l q m
GivesPart after p l (Ok part.Last) q m = ReadExpr after p l q m
GivesPart after p l (Err e) q m = Fails p (start whole) e

-- which of the two may come after a name alone and its dot
abbrev pub pairing_at : Found → List Token → Option Doing
pairing_at found.Bare ws = cond (seen kind.Add ws) (Some doing.Add) (cond (seen kind.Rem ws) (Some doing.Rem) None)
pairing_at (found.Inner n) ws = None
pairing_at found.Done ws = None
pairing_at found.Plain ws = None

-- which end the first word names
abbrev pub end_at : List Token → Option Side
end_at ws = cond (seen kind.From ws) (Some side.From) (cond (seen kind.To ws) (Some side.To) None)

abbrev pub doing_kind : Doing → Kind
doing_kind doing.Add = kind.Add
doing_kind doing.Rem = kind.Rem

abbrev pub literal_at : Kind → Option Value
literal_at k =
    cond (is kind.True k) (Some value.True) (cond (is kind.False k) (Some value.False)
    (cond (is kind.Null k) (Some value.Null) (cond (is kind.This k) (Some value.This) None)))
