-- The typing rules as a relation: which type a node has, by a rule for each shape.
use Rattle.std.specs.Prelude.{◌≡◌, ℕ, ◌<◌, List, Some, None, Option}
use Rattle.std.specs.List.{slice_get}
use Rattle.words.specs.Names.{name_at}
use Rattle.descent.specs.Nearest.{Nearest}
use Rattle.values.specs.declared.types.Lineage.{Lineage}
use Rattle.values.specs.declared.types.Lineage.TheVariants.{Class, Relationship}
use Rattle.values.specs.declared.types.Kind.TheVariants.{Boolean, Null, Row}
use Rattle.values.specs.declared.types.Ty.{Ty}
use Rattle.values.specs.Fits.{Ancestry, Fits}
use Rattle.values.specs.Types.{boolean, null_type, row_type, set_type}
use Rattle.outline.specs.declared.entry.Method.{Method}
use Rattle.outline.specs.declared.entry.Shape.{Shape}
use Rattle.outline.specs.declared.entry.Shape.TheVariants as shape
use Rattle.outline.specs.declared.entry.Node.{Node}
use Rattle.outline.specs.Contents.{Contents}
use Rattle.declarations.specs.declared.declarations.Ends.{Ends}
use Rattle.declarations.specs.declared.declarations.Signature.{Signature}
use Rattle.values.specs.Fits.{line_in}
use Rattle.declarations.specs.Resolved.{Declared}
use Rattle.typing.specs.Lookup.{class_named, relationship_named, variable_named, field_of, method_of_row}
use Rattle.typing.specs.Typing.{type_of_row, set_of_row}

-- v is node i, and has the shape
pub record Is (k : Contents) (i : ℕ) (s : Shape) (v : Node) : Type 0 where
  pub there : slice_get k.nodes i ≡ Some v
  pub shaped : v.shape ≡ s

-- the type is a row, and m is the nearest member upward from it
pub record Upward (a : Ancestry) (member : Lineage → ℕ → Option ℕ) (t : Ty) (m : ℕ) : Type 0 where
  pub line : Lineage
  pub at : ℕ
  pub row : t.kind ≡ Row line
  pub nearest : Nearest (line_in a line) (member line) t.row at m

-- the type is a relationship row with these ends
pub record EndsOf (d : Declared) (t : Ty) (e : Ends) : Type 0 where
  pub row : t.kind ≡ Row Relationship
  pub ends : slice_get d.ends t.row ≡ Some e

-- the name at place p is that of relationship r, which has these ends
pub record Relates (text : List ℕ) (k : Contents) (d : Declared) (p r : ℕ) (e : Ends) : Type 0 where
  pub named : relationship_named text k p ≡ Some r
  pub ends : slice_get d.ends r ≡ Some e

-- null or a row
pub data Comparable (t : Ty) : Type 0 where
  as_null : t.kind ≡ Null → Comparable t
  as_row : {l : Lineage} → t.kind ≡ Row l → Comparable t

-- the part is there: node j, which stands before node i
pub record Before (i : ℕ) (part : Option ℕ) (j : ℕ) : Type 0 where
  pub is : part ≡ Some j
  pub before : j < i

-- node i has the type; its parts stand before it
pub data HasType (text : List ℕ) (k : Contents) (d : Declared) : ℕ → Ty → Type 0 where
  true_typed : {i : ℕ} {v : Node} → Is k i shape.True v → HasType text k d i boolean
  false_typed : {i : ℕ} {v : Node} → Is k i shape.False v → HasType text k d i boolean
  null_typed : {i : ℕ} {v : Node} → Is k i shape.Null v → HasType text k d i null_type
  this_typed : {i : ℕ} {v : Node} {m : Method} → Is k i shape.This v → slice_get k.methods v.method ≡ Some m → HasType text k d i (type_of_row m.owner)
  variable_typed : {i x p : ℕ} {v : Node} {t : Ty} → Is k i (shape.Variable p) v → variable_named text k v.method p ≡ Some x → slice_get d.variables x ≡ Some t
      → HasType text k d i t
  new_typed : {i n p : ℕ} {v : Node} → Is k i (shape.New p) v → class_named text k p ≡ Some n → HasType text k d i (row_type Class n)
  partners_typed : {i r a p : ℕ} {v : Node} {e : Ends} {s : Ty} → Is k i (shape.Member p) v → Before i v.left a → HasType text k d a s → Relates text k d p r e
      → Fits d.ancestry s (type_of_row e.first) → HasType text k d i (set_of_row e.second)
  field_typed : {i f a p : ℕ} {v : Node} {s t : Ty} → Is k i (shape.Member p) v → Before i v.left a → HasType text k d a s → relationship_named text k p ≡ None
      → Upward d.ancestry (λ l. field_of text k l (name_at text p)) s f → slice_get d.fields f ≡ Some t → HasType text k d i t
  instances_typed : {i r a p : ℕ} {v : Node} {e : Ends} {s : Ty} → Is k i (shape.Instances p) v → Before i v.left a → HasType text k d a s → Relates text k d p r e
      → Fits d.ancestry s (type_of_row e.first) → HasType text k d i (set_type Relationship r)
  from_typed : {i a : ℕ} {v : Node} {e : Ends} {s : Ty} → Is k i shape.From v → Before i v.left a → HasType text k d a s → EndsOf d s e
      → HasType text k d i (type_of_row e.first)
  to_typed : {i a : ℕ} {v : Node} {e : Ends} {s : Ty} → Is k i shape.To v → Before i v.left a → HasType text k d a s → EndsOf d s e
      → HasType text k d i (type_of_row e.second)
  equal_typed : {i a b : ℕ} {v : Node} {s t : Ty} → Is k i shape.Equal v → Before i v.left a → HasType text k d a s → Before i v.right b → HasType text k d b t
      → Comparable s → Comparable t → HasType text k d i boolean
  set_variable_typed : {i x b p : ℕ} {v : Node} {t u : Ty} → Is k i (shape.SetVariable p) v → Before i v.right b → HasType text k d b t
      → variable_named text k v.method p ≡ Some x → slice_get d.variables x ≡ Some u → Fits d.ancestry t u → HasType text k d i t
  set_field_typed : {i f a b p : ℕ} {v : Node} {s t u : Ty} → Is k i (shape.SetMember p) v → Before i v.left a → HasType text k d a s → Before i v.right b → HasType text k d b t
      → relationship_named text k p ≡ None → Upward d.ancestry (λ l. field_of text k l (name_at text p)) s f → slice_get d.fields f ≡ Some u
      → Fits d.ancestry t u → HasType text k d i t
  add_typed : {i r a b p : ℕ} {v : Node} {e : Ends} {s t : Ty} → Is k i (shape.Add p) v → Before i v.left a → HasType text k d a s → Before i v.right b → HasType text k d b t
      → Relates text k d p r e → Fits d.ancestry s (type_of_row e.first) → Fits d.ancestry t (type_of_row e.second)
      → HasType text k d i (row_type Relationship r)
  rem_typed : {i r a b p : ℕ} {v : Node} {e : Ends} {s t : Ty} → Is k i (shape.Rem p) v → Before i v.left a → HasType text k d a s → Before i v.right b → HasType text k d b t
      → Relates text k d p r e → Fits d.ancestry s (type_of_row e.first) → Fits d.ancestry t (type_of_row e.second)
      → HasType text k d i (row_type Relationship r)
  call_typed : {i m a b p : ℕ} {v : Node} {g : Signature} {s t : Ty} → Is k i (shape.Call p) v → Before i v.left a → HasType text k d a s → Before i v.right b → HasType text k d b t
      → Upward d.ancestry (λ l. method_of_row text k l (name_at text p)) s m → slice_get d.methods m ≡ Some g → Fits d.ancestry t g.parameter
      → HasType text k d i g.result

-- node i is a statement or a return in order
pub data InOrder (text : List ℕ) (k : Contents) (d : Declared) : ℕ → Type 0 where
  action_ordered : {i a : ℕ} {v : Node} {s : Ty} → Is k i shape.Action v → Before i v.left a → HasType text k d a s → InOrder text k d i
  branch_ordered : {i a : ℕ} {v : Node} {s : Ty} → Is k i shape.Branch v → Before i v.left a → HasType text k d a s → s.kind ≡ Boolean → InOrder text k d i
  return_ordered : {i a : ℕ} {v : Node} {g : Signature} {s : Ty} → Is k i shape.Return v → Before i v.left a → HasType text k d a s
      → slice_get d.methods v.method ≡ Some g → Fits d.ancestry s g.result → InOrder text k d i
