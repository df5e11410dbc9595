-- Which nodes are at fault: those whose parts have types, and that no rule covers.
use Rattle.std.specs.Prelude.{◌≡◌, ℕ, ◌<◌, ◌≤◌, Bool, true, false, List, Some, None, Option}
use Rattle.std.specs.List.{slice_get}
use Rattle.values.specs.declared.types.Ty.{Ty}
use Rattle.outline.specs.declared.entry.Shape.{Shape}
use Rattle.outline.specs.declared.entry.Shape.TheVariants as shape
use Rattle.outline.specs.declared.entry.Node.{Node}
use Rattle.outline.specs.Contents.{Contents}
use Rattle.declarations.specs.Resolved.{Declared}
use Rattle.typing.specs.HasType.{Before, HasType, InOrder}

-- a node of the shape has a part on the left
abbrev pub has_left : Shape → Bool
has_left (shape.Variable n) = false
has_left shape.True = false
has_left shape.False = false
has_left shape.Null = false
has_left shape.This = false
has_left (shape.New n) = false
has_left (shape.Add n) = true
has_left (shape.Rem n) = true
has_left (shape.Member n) = true
has_left (shape.Call n) = true
has_left (shape.Instances n) = true
has_left shape.From = true
has_left shape.To = true
has_left shape.Equal = true
has_left (shape.SetVariable n) = false
has_left (shape.SetMember n) = true
has_left shape.Action = true
has_left shape.Branch = true
has_left shape.Return = true

-- a node of the shape has a part on the right
abbrev pub has_right : Shape → Bool
has_right (shape.Variable n) = false
has_right shape.True = false
has_right shape.False = false
has_right shape.Null = false
has_right shape.This = false
has_right (shape.New n) = false
has_right (shape.Add n) = true
has_right (shape.Rem n) = true
has_right (shape.Member n) = false
has_right (shape.Call n) = true
has_right (shape.Instances n) = false
has_right shape.From = false
has_right shape.To = false
has_right shape.Equal = true
has_right (shape.SetVariable n) = true
has_right (shape.SetMember n) = true
has_right shape.Action = false
has_right shape.Branch = false
has_right shape.Return = false

-- the part is there: a node that stands before node i, and has a type
pub record Ready (text : List ℕ) (k : Contents) (d : Declared) (i : ℕ) (part : Option ℕ) : Type 0 where
  pub node : ℕ
  pub stands : Before i part node
  pub type : Ty
  pub typed : HasType text k d node type

-- v is node i; its parts have types; it has none itself, and is no statement in order
pub record AtFault (text : List ℕ) (k : Contents) (d : Declared) (i : ℕ) (v : Node) : Type 0 where
  pub there : slice_get k.nodes i ≡ Some v
  pub left : has_left v.shape ≡ true → Ready text k d i v.left
  pub right : has_right v.shape ≡ true → Ready text k d i v.right
  pub untyped : (t : Ty) → HasType text k d i t → ⊥
  pub unordered : InOrder text k d i → ⊥

-- none of the first n nodes is at fault
pub record NoFault (text : List ℕ) (k : Contents) (d : Declared) (n : ℕ) : Type 0 where
  pub none : (i : ℕ) (v : Node) → i < n → AtFault text k d i v → ⊥

-- p is the least of the places of those at fault
pub record LeastFault (text : List ℕ) (k : Contents) (d : Declared) (n p : ℕ) : Type 0 where
  pub node : ℕ
  pub entry : Node
  pub among : node < n
  pub fault : AtFault text k d node entry
  pub place : entry.place ≡ p
  pub least : (i : ℕ) (v : Node) → i < n → AtFault text k d i v → p ≤ v.place

-- the least place of the first n nodes that are at fault
abbrev pub FirstFault : List ℕ → Contents → Declared → ℕ → Option ℕ → Type 0
FirstFault text k d n None = NoFault text k d n
FirstFault text k d n (Some p) = LeastFault text k d n p

-- a statement or a return, which has no type
abbrev pub is_statement : Shape → Bool
is_statement (shape.Variable n) = false
is_statement shape.True = false
is_statement shape.False = false
is_statement shape.Null = false
is_statement shape.This = false
is_statement (shape.New n) = false
is_statement (shape.Add n) = false
is_statement (shape.Rem n) = false
is_statement (shape.Member n) = false
is_statement (shape.Call n) = false
is_statement (shape.Instances n) = false
is_statement shape.From = false
is_statement shape.To = false
is_statement shape.Equal = false
is_statement (shape.SetVariable n) = false
is_statement (shape.SetMember n) = false
is_statement shape.Action = true
is_statement shape.Branch = true
is_statement shape.Return = true

-- the part is there: an expression that stands before node i
pub record Placed (k : Contents) (i : ℕ) (part : Option ℕ) : Type 0 where
  pub node : ℕ
  pub stands : Before i part node
  pub entry : Node
  pub there : slice_get k.nodes node ≡ Some entry
  pub expression : is_statement entry.shape ≡ false

-- the parts of the first n nodes are expressions that stand before them
pub record WellPlaced (k : Contents) (n : ℕ) : Type 0 where
  pub left : (i : ℕ) (v : Node) → i < n → slice_get k.nodes i ≡ Some v → has_left v.shape ≡ true → Placed k i v.left
  pub right : (i : ℕ) (v : Node) → i < n → slice_get k.nodes i ≡ Some v → has_right v.shape ≡ true → Placed k i v.right

-- node i has a type, or is a statement in order
pub data WellTyped (text : List ℕ) (k : Contents) (d : Declared) (i : ℕ) : Type 0 where
  has_type : {t : Ty} → HasType text k d i t → WellTyped text k d i
  in_order : InOrder text k d i → WellTyped text k d i
