-- A program's tables while its events come in.
use Rattle.std.specs.Prelude.{ℕ, ◌+◌, min, max, cond, List, [], ◌∷◌, Some, None, Option}
use Rattle.grammar.specs.declared.event.Literal.{Literal}
use Rattle.grammar.specs.declared.event.Literal.TheVariants as value
use Rattle.grammar.specs.declared.event.Pairing.{Pairing}
use Rattle.grammar.specs.declared.event.Pairing.TheVariants as doing
use Rattle.grammar.specs.declared.event.End.{End}
use Rattle.grammar.specs.declared.event.End.TheVariants as side
use Rattle.grammar.specs.declared.event.TypeWord.{TypeWord}
use Rattle.grammar.specs.declared.event.Event.{Event}
use Rattle.grammar.specs.declared.event.Event.TheVariants as event
use Rattle.outline.specs.declared.entry.Shape.{Shape}
use Rattle.outline.specs.declared.entry.Shape.TheVariants as shape
use Rattle.outline.specs.declared.builder.pending.Pending.{Pending}
use Rattle.outline.specs.declared.builder.pending.Pending.TheVariants as pending
use Rattle.outline.specs.declared.builder.pending.Open.{Open}
use Rattle.outline.specs.Layout.{Layout, add_class, add_relationship, add_declared, add_method, add_node, add_block, next}

-- The tables; what is not complete yet, newest first; how many nodes there are, an assignment counted from its place on;
-- the greatest height of a statement that stands in no branch that is still open; the variables of the method at hand,
-- and the most of a method. Heights end at 255.
pub record Draft : Type 0 where
  pub layout : Layout
  pub opened : List Open
  pub count : ℕ
  pub tallest : ℕ
  pub locals : ℕ
  pub most : ℕ

abbrev pub draft : Layout → List Open → ℕ → ℕ → ℕ → ℕ → Draft
draft l o c k v w = record { layout = l; opened = o; count = c; tallest = k; locals = v; most = w }

-- one more, as far as eight bits tell
abbrev pub raised : ℕ → ℕ
raised h = min (h + 1) 255

-- the value of a node
abbrev pub held : ℕ → ℕ → Open
held n h = record { pending = pending.Value n; height = h }

-- the node of a value
abbrev pub value_of : Pending → Option ℕ
value_of (pending.Value n) = Some n
value_of x = None

-- an assignment to a variable, and to a member of an object
abbrev pub to_variable : ℕ → Open
to_variable p = record { pending = pending.Assignment (shape.SetVariable p) p None; height = 0 }

abbrev pub to_member : ℕ → ℕ → Open → Open
to_member n p x = record { pending = pending.Assignment (shape.SetMember n) p (value_of x.pending); height = x.height }

abbrev pub heighten : ℕ → Open → Open
heighten h x = record { pending = x.pending; height = h }

-- a branch in its first block
abbrev pub in_first : ℕ → ℕ → Open
in_first n h = record { pending = pending.First n; height = h }

-- the second block of a branch begins at node n
abbrev pub second_from : ℕ → Pending → Pending
second_from n (pending.First b) = pending.Second b n
second_from n x = x

abbrev pub parted : ℕ → Open → Open
parted n x = record { pending = second_from n x.pending; height = x.height }

abbrev pub top : List Open → Open
top [] = held 0 0
top (x ∷ xs) = x

abbrev pub below : List Open → List Open
below [] = []
below (x ∷ xs) = xs

abbrev pub on_top : (Open → Open) → List Open → List Open
on_top f [] = []
on_top f (x ∷ xs) = f x ∷ xs

-- a node without parts
abbrev pub leaf : Shape → ℕ → Draft → Draft
leaf s p d = draft (add_node s p None None d.layout) (held (next d.layout) 1 ∷ d.opened) (d.count + 1) d.tallest d.locals d.most

-- a node with one part
abbrev pub unary : Shape → ℕ → Draft → Draft
unary s p d =
    draft (add_node s p (value_of (top d.opened).pending) None d.layout) (held (next d.layout) (raised (top d.opened).height) ∷ below d.opened) (d.count + 1)
    d.tallest d.locals d.most

-- a node with two parts
abbrev pub binary : Shape → ℕ → Draft → Draft
binary s p d =
    draft (add_node s p (value_of (top (below d.opened)).pending) (value_of (top d.opened).pending) d.layout)
    (held (next d.layout) (raised (max (top (below d.opened)).height (top d.opened).height)) ∷ below (below d.opened)) (d.count + 1)
    d.tallest d.locals d.most

abbrev pub with_opened : List Open → ℕ → Draft → Draft
with_opened o c d = draft d.layout o c d.tallest d.locals d.most

-- the value e of an assignment to a target of height h is complete
abbrev pub assigned_to : Pending → ℕ → Open → List Open → Draft → Draft
assigned_to (pending.Assignment s p a) h e o d =
    draft (add_node s p a (value_of e.pending) d.layout) (held (next d.layout) (raised (max h e.height)) ∷ o) d.count d.tallest d.locals d.most
assigned_to x h e o d = with_opened o d.count d

abbrev pub assigned : Draft → Draft
assigned d =
    assigned_to (top (below d.opened)).pending (top (below d.opened)).height (top d.opened) (below (below d.opened)) d

-- a statement of this height is complete: a part of the branch that is open, if any is
abbrev pub settled_in : List Open → ℕ → Draft → Draft
settled_in [] h d = draft d.layout [] d.count (max d.tallest h) d.locals d.most
settled_in (x ∷ o) h d = with_opened (heighten (max x.height h) x ∷ o) d.count d

-- a node that is a statement, its expression complete
abbrev pub statement : Shape → ℕ → Draft → Draft
statement s p d =
    settled_in (below d.opened) (raised (top d.opened).height)
    (draft (add_node s p (value_of (top d.opened).pending) None d.layout) (below d.opened) (d.count + 1) d.tallest d.locals d.most)

-- a branch, its condition complete
abbrev pub branching : ℕ → Draft → Draft
branching p d =
    draft (add_node shape.Branch p (value_of (top d.opened).pending) None d.layout) (in_first (next d.layout) (top d.opened).height ∷ below d.opened)
    (d.count + 1) d.tallest d.locals d.most

-- the second block of a branch is complete
abbrev pub joining_to : Pending → ℕ → List Open → Draft → Draft
joining_to (pending.Second b n) h o d =
    settled_in o (raised h) (draft (add_block b n (next d.layout) d.layout) o d.count d.tallest d.locals d.most)
joining_to x h o d = with_opened o d.count d

abbrev pub joining : Draft → Draft
joining d = joining_to (top d.opened).pending (top d.opened).height (below d.opened) d

abbrev pub declaring : TypeWord → ℕ → Draft → Draft
declaring t n d =
    draft (add_declared t n d.layout) d.opened d.count d.tallest
    (cond d.layout.in_method (d.locals + 1) d.locals) (cond d.layout.in_method (max d.most (d.locals + 1)) d.most)

abbrev pub in_layout : Layout → Draft → Draft
in_layout l d = draft l d.opened d.count d.tallest d.locals d.most

abbrev pub value_shape : Literal → Shape
value_shape value.True = shape.True
value_shape value.False = shape.False
value_shape value.Null = shape.Null
value_shape value.This = shape.This

abbrev pub doing_shape : Pairing → ℕ → Shape
doing_shape doing.Add n = shape.Add n
doing_shape doing.Rem n = shape.Rem n

abbrev pub side_shape : End → Shape
side_shape side.From = shape.From
side_shape side.To = shape.To

-- what an event does
unfoldable pub taken : Draft → Event → Draft
taken d (event.Class n p) = in_layout (add_class n p d.layout) d
taken d (event.Relationship n p a b) = in_layout (add_relationship n p a b d.layout) d
taken d (event.Declared t n) = declaring t n d
taken d (event.Method r n t p) = draft (add_method r n t p d.layout) d.opened d.count d.tallest 2 (max d.most 2)
taken d (event.Variable p) = leaf (shape.Variable p) p d
taken d (event.Literal v p) = leaf (value_shape v) p d
taken d (event.New n p) = leaf (shape.New n) p d
taken d (event.Pair x p) = binary (doing_shape x p) p d
taken d (event.Member n p) = unary (shape.Member n) p d
taken d (event.Call n p) = binary (shape.Call n) p d
taken d (event.Instances n p) = unary (shape.Instances n) p d
taken d (event.End e p) = unary (side_shape e) p d
taken d event.Bracket = with_opened (on_top (λ x. heighten (raised x.height) x) d.opened) d.count d
taken d (event.Equal p) = binary shape.Equal p d
taken d (event.ToVariable p) = with_opened (to_variable p ∷ d.opened) (d.count + 1) d
taken d (event.ToMember n p) = with_opened (on_top (to_member n p) d.opened) (d.count + 1) d
taken d event.Assigned = assigned d
taken d (event.Acted p) = statement shape.Action p d
taken d (event.Branch p) = branching p d
taken d event.Otherwise = with_opened (on_top (parted (next d.layout)) d.opened) d.count d
taken d event.Joined = joining d
taken d (event.Return p) = statement shape.Return p d
