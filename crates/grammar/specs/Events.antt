-- What is reported of a tree: parts before the whole, from the left.
use Rattle.std.specs.Prelude.{ℕ, List, [], ◌∷◌, ◌++◌}
use Rattle.grammar.specs.declared.event.Literal.{Literal as Value}
use Rattle.grammar.specs.declared.event.Literal.TheVariants as value
use Rattle.grammar.specs.declared.event.Pairing.{Pairing as Doing}
use Rattle.grammar.specs.declared.event.Pairing.TheVariants as doing
use Rattle.grammar.specs.declared.event.End.{End as Side}
use Rattle.grammar.specs.declared.event.End.TheVariants as side
use Rattle.grammar.specs.declared.event.TypeWord.{TypeWord}
use Rattle.grammar.specs.declared.event.TypeWord.TheVariants as type-word
use Rattle.grammar.specs.declared.event.Event.{Event}
use Rattle.grammar.specs.declared.event.Event.TheVariants as event
use Rattle.grammar.specs.Trees.{Literal, Pairing, End, Sort, atom, creation, item, place, action, typed, Tree, none, more, name, literal, paren, made, new, pair, member, call, instances, end, chain, bare, inside, alone, equal, assign, assigns, calls, creates, act, branch, boolean, set_of, row, declares, method_of, class, relationship}
use Rattle.grammar.specs.Trees as tree

abbrev pub value_of : Literal → Value
value_of tree.true = value.True
value_of tree.false = value.False
value_of tree.null = value.Null
value_of tree.this = value.This

abbrev pub doing_of : Pairing → Doing
doing_of tree.add = doing.Add
doing_of tree.rem = doing.Rem

abbrev pub side_of : End → Side
side_of tree.from = side.From
side_of tree.to = side.To

-- the place of the first word
abbrev pub first_creation : Tree creation → ℕ
first_creation (new w n o c) = w.place
first_creation (pair x n d w o a m b c) = n.place

abbrev pub first_atom : Tree atom → ℕ
first_atom (name n) = n.place
first_atom (literal l w) = w.place
first_atom (paren o e c) = o.place
first_atom (made c) = first_creation c

abbrev pub first_item : Tree item → ℕ
first_item (chain a ss) = first_atom a

abbrev pub first_place : Tree place → ℕ
first_place (bare n) = n.place
first_place (inside i d n) = first_item i

abbrev pub first_action : Tree action → ℕ
first_action (assigns x q e) = first_place x
first_action (calls i d n o e c) = first_item i
first_action (creates c) = first_creation c

-- a type as it is written
abbrev pub type_of : Tree typed → TypeWord
type_of (boolean w) = type-word.Boolean
type_of (set_of w l n g) = type-word.SetOf n.place
type_of (row n) = type-word.Row n.place

-- the events of a tree; the suffixes of an item report the place p of its first word
unfoldable pub events : {s : Sort} → ℕ → Tree s → List Event
events p none = []
events p (more t ts) = events p t ++ events p ts
events p (name n) = event.Variable n.place ∷ []
events p (literal l w) = event.Literal (value_of l) w.place ∷ []
events p (paren o e c) = events 0 e ++ event.Bracket ∷ []
events p (made c) = events 0 c
events p (new w n o c) = event.New n.place w.place ∷ []
events p (pair x n d w o a m b c) = events 0 a ++ (events 0 b ++ event.Pair (doing_of x) n.place ∷ [])
events p (member d n) = event.Member n.place p ∷ []
events p (call d n o e c) = events 0 e ++ event.Call n.place p ∷ []
events p (instances c n) = event.Instances n.place p ∷ []
events p (end f d w) = event.End (side_of f) p ∷ []
events p (chain a ss) = events 0 a ++ events (first_atom a) ss
events p (bare n) = event.ToVariable n.place ∷ []
events p (inside i d n) = events 0 i ++ event.ToMember n.place (first_item i) ∷ []
events p (alone i) = events 0 i
events p (equal i q j) = events 0 i ++ (events 0 j ++ event.Equal (first_item i) ∷ [])
events p (assign x q e) = events 0 x ++ (events 0 e ++ event.Assigned ∷ [])
events p (assigns x q e) = events 0 x ++ (events 0 e ++ event.Assigned ∷ [])
events p (calls i d n o e c) = events 0 i ++ (events 0 e ++ event.Call n.place (first_item i) ∷ [])
events p (creates c) = events 0 c
events p (act a s) = events 0 a ++ event.Acted (first_action a) ∷ []
events p (branch i o e c b ss f l g us h s) = events 0 e ++ event.Branch i.place ∷ (events 0 ss ++ event.Otherwise ∷ (events 0 us ++ event.Joined ∷ []))
events p (boolean w) = []
events p (set_of w l n g) = []
events p (row n) = []
events p (declares t n s) = event.Declared (type_of t) n.place ∷ []
events p (method_of t n o u v c b vs ss r e s f) =
    event.Method (type_of t) n.place (type_of u) v.place ∷ (events 0 vs ++ (events 0 ss ++ (events 0 e ++ event.Return r.place ∷ [])))
events p (class w n x q b vs ms f) = event.Class n.place q.place ∷ (events 0 vs ++ events 0 ms)
events p (relationship w n x q o y m z c b vs ms f) = event.Relationship n.place q.place y.place z.place ∷ (events 0 vs ++ events 0 ms)

-- the state of a sink after some events, where `after` says what each does to it
abbrev pub fed : {X : Type 0} → (X → Event → X) → X → List Event → X
fed after x [] = x
fed after x (e ∷ es) = fed after (after x e) es
