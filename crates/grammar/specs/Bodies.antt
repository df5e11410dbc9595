-- What the parser's methods say of types, statements and declarations.
use Rattle.std.specs.Prelude.{◌≡◌, ℕ, ◌<◌, Bool, true, false, List, [], ◌∷◌, ◌++◌, length, Some, Ok, Err, Result}
use Rattle.words.specs.declared.kind.Kind.TheVariants as kind
use Rattle.words.specs.Words.{Token}
use Rattle.grammar.specs.declared.event.TypeWord.{TypeWord}
use Rattle.grammar.specs.declared.event.Event.{Event}
use Rattle.grammar.specs.declared.parser.Parser.{Parser}
use Rattle.grammar.specs.declared.parser.declarations.Ends.{Ends}
use Rattle.grammar.specs.declared.parser.declarations.Heading.{Heading}
use Rattle.grammar.specs.declared.parser.declarations.Section.{Section}
use Rattle.grammar.specs.declared.parser.declarations.Section.TheVariants as section
use Rattle.grammar.specs.declared.parser.reading.Unexpected.{Unexpected}
use Rattle.grammar.specs.Events.{events, fed, first_place, first_action, type_of}
use Rattle.grammar.specs.Machine.{Sym, word, start, typed as type-symbol, decls, members, member, body, stmts, acting, whole, runs}
use Rattle.grammar.specs.Told.{rest, place_at, Leads, Fails}
use Rattle.grammar.specs.Trees.{Mark, tok, Sort, Tree, place, many, action, stmt, typed, variable, method, Program, spell}

-- from p to q the words ws are passed, and the events es take the sink from l to m, where `after` says what each does
pub record Path {X : Type 0} (after : X → Event → X) (p : Parser) (l : X) (q : Parser) (m : X) (ws : List Token) (es : List Event) : Type 0 where
  pub words : rest p ≡ ws ++ rest q
  pub log : m ≡ fed after l es
  pub end_is : q.end ≡ p.end

-- whatever comes after what δ expects, the words from some word on cannot come
pub record FailsAll (p : Parser) (δ : List Sym → List Sym) (e : Unexpected) : Type 0 where
  pub from : List Token
  pub stuck : (α : List Sym) → runs (δ α) (rest p) ≡ Some from
  pub place_is : e.place ≡ place_at p.end from

pub record ReadType (p q : Parser) (w : TypeWord) : Type 0 where
  pub tree : Tree typed
  pub words : rest p ≡ spell tree ++ rest q
  pub is : type_of tree ≡ w
  pub end_is : q.end ≡ p.end
  pub leads : Leads p type-symbol q (λ α. α)

abbrev pub GivesType : Parser → Result TypeWord Unexpected → Parser → Type 0
GivesType p (Ok w) q = ReadType p q w
GivesType p (Err e) q = Fails p type-symbol e

-- a tree of sort s is read where γ is expected, and δ is expected then
pub record ReadTree {X : Type 0} (after : X → Event → X) (s : Sort) (p : Parser) (l : X) (q : Parser) (m : X) (γ : Sym) (δ : List Sym → List Sym) : Type 0 where
  pub tree : Tree s
  pub path : Path after p l q m (spell tree) (events 0 tree)
  pub leads : Leads p γ q δ

-- the same, or a word that cannot come
abbrev pub GivesTree : {X : Type 0} → (X → Event → X) → Sort → Parser → X → Result (Unit {0}) Unexpected → Parser → X → Sym → (List Sym → List Sym) → Type 0
GivesTree after s p l (Ok _) q m γ δ = ReadTree after s p l q m γ δ
GivesTree after s p l (Err e) q m γ δ = Fails p γ e

-- a place is read that an action assigns to, and `=` is expected; e will report it
pub record HeldPlace {X : Type 0} (after : X → Event → X) (s : Parser) (l : X) (p : Parser) (m : X) (at : ℕ) (e : Event) : Type 0 where
  pub tree : Tree place
  pub es : List Event
  pub path : Path after s l p m (spell tree) es
  pub events_are : es ++ e ∷ [] ≡ events 0 tree
  pub first_is : first_place tree ≡ at
  pub leads : (α : List Sym) → runs (start acting ∷ α) (rest s) ≡ runs (word kind.Assign ∷ start whole ∷ α) (rest p)

-- an action is read, and its semicolon is expected
pub record ReadAction {X : Type 0} (after : X → Event → X) (p : Parser) (l : X) (q : Parser) (m : X) (at : ℕ) : Type 0 where
  pub tree : Tree action
  pub path : Path after p l q m (spell tree) (events 0 tree)
  pub first_is : first_action tree ≡ at
  pub leads : (α : List Sym) → runs (start acting ∷ word kind.Semicolon ∷ α) (rest p) ≡ runs (word kind.Semicolon ∷ α) (rest q)

abbrev pub GivesAction : {X : Type 0} → (X → Event → X) → Parser → X → ℕ → Result (Unit {0}) Unexpected → Parser → X → Type 0
GivesAction after p l at (Ok _) q m = ReadAction after p l q m at
GivesAction after p l at (Err e) q m = FailsAll p (λ α. start acting ∷ word kind.Semicolon ∷ α) e

-- a block's braces and statements
pub record ReadBlock {X : Type 0} (after : X → Event → X) (p : Parser) (l : X) (q : Parser) (m : X) : Type 0 where
  pub begin : Mark
  pub tree : Tree (many stmt)
  pub end : Mark
  pub path : Path after p l q m (tok kind.OpenBrace begin ∷ (spell tree ++ tok kind.CloseBrace end ∷ [])) (events 0 tree)
  pub leads : (α : List Sym) → runs (word kind.OpenBrace ∷ stmts ∷ word kind.CloseBrace ∷ α) (rest p) ≡ runs α (rest q)

abbrev pub GivesBlock : {X : Type 0} → (X → Event → X) → Parser → X → Result (Unit {0}) Unexpected → Parser → X → Type 0
GivesBlock after p l (Ok _) q m = ReadBlock after p l q m
GivesBlock after p l (Err e) q m = FailsAll p (λ α. word kind.OpenBrace ∷ stmts ∷ word kind.CloseBrace ∷ α) e

-- a method's variables and statements
pub record ReadBody {X : Type 0} (after : X → Event → X) (p : Parser) (l : X) (q : Parser) (m : X) : Type 0 where
  pub variables : Tree (many variable)
  pub statements : Tree (many stmt)
  pub path : Path after p l q m (spell variables ++ spell statements) (events 0 variables ++ events 0 statements)
  pub leads : Leads p body q (λ α. α)

abbrev pub GivesBody : {X : Type 0} → (X → Event → X) → Parser → X → Result (Unit {0}) Unexpected → Parser → X → Type 0
GivesBody after p l (Ok _) q m = ReadBody after p l q m
GivesBody after p l (Err e) q m = Fails p body e

-- the type and the name of a field or method are read; `b` says whether a field may still come
pub record Headed {X : Type 0} (after : X → Event → X) (p : Parser) (l : X) (q : Parser) (m : X) (w : TypeWord) (n : ℕ) (b : Bool) : Type 0 where
  pub tree : Tree typed
  pub mark : Mark
  pub path : Path after p l q m (spell tree ++ tok kind.Name mark ∷ []) []
  pub type_is : type_of tree ≡ w
  pub name_is : mark.place ≡ n
  pub leads : Leads p (members b) q (λ α. member b ∷ α)

-- fields and methods are read
pub record ReadMembers {X : Type 0} (after : X → Event → X) (p : Parser) (l : X) (q : Parser) (m : X) : Type 0 where
  pub fields : Tree (many variable)
  pub methods : Tree (many method)
  pub path : Path after p l q m (spell fields ++ spell methods) (events 0 fields ++ events 0 methods)
  pub leads : Leads p (members true) q (λ α. α)

abbrev pub GivesMembers : {X : Type 0} → (X → Event → X) → Parser → X → Result (Unit {0}) Unexpected → Parser → X → Type 0
GivesMembers after p l (Ok _) q m = ReadMembers after p l q m
GivesMembers after p l (Err e) q m = Fails p (members true) e

-- a name, `extends` and the parent's name are read
pub record ReadHeading (p q : Parser) (n parent : ℕ) : Type 0 where
  pub name : Mark
  pub extends : Mark
  pub parent_name : Mark
  pub words : rest p ≡ tok kind.Name name ∷ tok kind.Extends extends ∷ tok kind.Name parent_name ∷ rest q
  pub end_is : q.end ≡ p.end
  pub name_is : name.place ≡ n
  pub parent_is : parent_name.place ≡ parent
  pub leads : (α : List Sym) → runs (word kind.Name ∷ word kind.Extends ∷ word kind.Name ∷ α) (rest p) ≡ runs α (rest q)

abbrev pub GivesHeading : Parser → Result Heading Unexpected → Parser → Type 0
GivesHeading p (Ok x) q = ReadHeading p q x.name x.parent
GivesHeading p (Err e) q = FailsAll p (λ α. word kind.Name ∷ word kind.Extends ∷ word kind.Name ∷ α) e

-- the names of two ends in brackets are read
pub record ReadEnds (p q : Parser) (first second : ℕ) : Type 0 where
  pub left : Mark
  pub one : Mark
  pub comma : Mark
  pub two : Mark
  pub right : Mark
  pub words : rest p ≡ tok kind.OpenParen left ∷ tok kind.Name one ∷ tok kind.Comma comma ∷ tok kind.Name two ∷ tok kind.CloseParen right ∷ rest q
  pub end_is : q.end ≡ p.end
  pub one_is : one.place ≡ first
  pub two_is : two.place ≡ second
  pub leads : (α : List Sym) → runs (word kind.OpenParen ∷ word kind.Name ∷ word kind.Comma ∷ word kind.Name ∷ word kind.CloseParen ∷ α) (rest p) ≡ runs α (rest q)

abbrev pub GivesEnds : Parser → Result Ends Unexpected → Parser → Type 0
GivesEnds p (Ok x) q = ReadEnds p q x.first x.second
GivesEnds p (Err e) q = FailsAll p (λ α. word kind.OpenParen ∷ word kind.Name ∷ word kind.Comma ∷ word kind.Name ∷ word kind.CloseParen ∷ α) e

-- a declaration's braces, fields and methods
pub record ReadInside {X : Type 0} (after : X → Event → X) (p : Parser) (l : X) (q : Parser) (m : X) : Type 0 where
  pub begin : Mark
  pub fields : Tree (many variable)
  pub methods : Tree (many method)
  pub end : Mark
  pub path : Path after p l q m (tok kind.OpenBrace begin ∷ (spell fields ++ (spell methods ++ tok kind.CloseBrace end ∷ []))) (events 0 fields ++ events 0 methods)
  pub leads : (α : List Sym) → runs (word kind.OpenBrace ∷ members true ∷ word kind.CloseBrace ∷ α) (rest p) ≡ runs α (rest q)

abbrev pub GivesInside : {X : Type 0} → (X → Event → X) → Parser → X → Result (Unit {0}) Unexpected → Parser → X → Type 0
GivesInside after p l (Ok _) q m = ReadInside after p l q m
GivesInside after p l (Err e) q m = FailsAll p (λ α. word kind.OpenBrace ∷ members true ∷ word kind.CloseBrace ∷ α) e

-- fields and then methods are read, and methods may still come
pub record ReadBoth {X : Type 0} (after : X → Event → X) (p : Parser) (l : X) (q : Parser) (m : X) : Type 0 where
  pub fields : Tree (many variable)
  pub methods : Tree (many method)
  pub path : Path after p l q m (spell fields ++ spell methods) (events 0 fields ++ events 0 methods)
  pub leads : Leads p (members true) q (λ α. members false ∷ α)

-- whether a field may come
abbrev pub fields_in : Section → Bool
fields_in section.Fields = true
fields_in section.Methods = false

-- fields alone are read, and fields may still come; or fields and then methods
abbrev pub Gathered : {X : Type 0} → (X → Event → X) → Section → Parser → X → Parser → X → Type 0
Gathered after section.Fields p l q m = ReadTree after (many variable) p l q m (members true) (λ α. members true ∷ α)
Gathered after section.Methods p l q m = ReadBoth after p l q m

abbrev pub GivesMember : {X : Type 0} → (X → Event → X) → Parser → X → Result Section Unexpected → Parser → X → Type 0
GivesMember after p l (Ok x) q m = Gathered after x p l q m
GivesMember after p l (Err e) q m = Fails p (members true) e

abbrev pub Falls : {A : Type 0} → Parser → Result A Unexpected → Parser → Type 0
Falls p (Ok x) q = length (rest q) < length (rest p)
Falls p (Err e) q = Unit {0}

-- no word is left, or a word that cannot come
abbrev pub Finished : Parser → Result (Unit {0}) Unexpected → Type 0
Finished p (Ok _) = rest p ≡ []
Finished p (Err e) = (w : Token) × (ws : List Token) × (rest p ≡ w ∷ ws) × (e.place ≡ w.place)

-- all words are read, and they are a program's; or some word cannot come
pub record ReadProgram {X : Type 0} (after : X → Event → X) (p : Parser) (l : X) (m : X) : Type 0 where
  pub tree : Program
  pub words : rest p ≡ spell tree
  pub log : m ≡ fed after l (events 0 tree)

pub record FailsProgram (p : Parser) (e : Unexpected) : Type 0 where
  pub from : List Token
  pub stuck : runs (decls ∷ []) (rest p) ≡ Some from
  pub place_is : e.place ≡ place_at p.end from

abbrev pub GivesProgram : {X : Type 0} → (X → Event → X) → Parser → X → Result (Unit {0}) Unexpected → X → Type 0
GivesProgram after p l (Ok _) m = ReadProgram after p l m
GivesProgram after p l (Err e) m = FailsProgram p e
