-- The types of all nodes, each from those before it.
use Rattle.std.specs.Prelude.{ℕ, zero, suc, cond, ◌&&◌, List, length, Some, None, Ok, Err, Option, Result, ◌==◌, nat_lt, slice_index}
use Rattle.std.specs.List.{slice_get}
use Rattle.values.specs.declared.types.Ty.{Ty}
use Rattle.outline.specs.declared.entry.Shape.TheVariants as shape
use Rattle.outline.specs.declared.entry.Node.{Node}
use Rattle.outline.specs.Contents.{Contents}
use Rattle.tables.specs.Below.{least_below}
use Rattle.tables.specs.Items.{given}
use Rattle.declarations.specs.Resolved.{Declared}
use Rattle.typing.specs.declared.step.Step.{Step}
use Rattle.typing.specs.declared.step.Step.TheVariants as step
use Rattle.typing.specs.declared.step.Ruling.TheVariants as ruling
use Rattle.typing.specs.declared.step.Instruction.{Instruction}
use Rattle.typing.specs.declared.pass.Untyped.{Untyped}
use Rattle.typing.specs.Coding.{decoded}
use Rattle.typing.specs.Typing.{Ruled, ruling_of}

abbrev pub plain_node : Node
plain_node = record { shape = shape.Null; method = 0; place = 0; left = None; right = None }

-- node i; past the last one a literal
abbrev pub node_at : Contents → ℕ → Node
node_at k i = given (slice_get k.nodes i) plain_node (λ v. v)

abbrev pub type_of : Ruled → Option Ty
type_of (Some (ruling.Typed t s)) = Some t
type_of (Some (ruling.Done s)) = None
type_of (Some ruling.Waits) = None
type_of None = None

-- the type of a part, where it is there and has one
abbrev pub part_type : (ℕ → Option Ty) → Option ℕ → Option Ty
part_type types part = given part None types

-- what is judged of a node, where its parts have these types
abbrev pub ruling_by : List ℕ → Contents → Declared → (ℕ → Option Ty) → Node → Ruled
ruling_by text k d types v = ruling_of text k d v (part_type types v.left) (part_type types v.right)

-- the types of the first n nodes; the others have none yet
unfoldable pub types_to : List ℕ → Contents → Declared → ℕ → ℕ → Option Ty
types_to text k d zero j = None
types_to text k d (suc n) j = cond (j == n) (type_of (ruling_by text k d (types_to text k d n) (node_at k n))) (types_to text k d n j)

-- what is judged of node i
unfoldable pub ruling_at : List ℕ → Contents → Declared → ℕ → Ruled
ruling_at text k d i = ruling_by text k d (types_to text k d i) (node_at k i)

-- the type of node i
unfoldable pub type_at : List ℕ → Contents → Declared → ℕ → Option Ty
type_at text k d i = type_of (ruling_at text k d i)

-- the place, if the ruling is a fault
abbrev pub fault_place : Ruled → ℕ → Option ℕ
fault_place (Some (ruling.Typed t s)) p = None
fault_place (Some (ruling.Done s)) p = None
fault_place (Some ruling.Waits) p = None
fault_place None p = Some p

-- the place of node i, if it is at fault
unfoldable pub untyped : List ℕ → Contents → Declared → ℕ → Option ℕ
untyped text k d i = fault_place (ruling_at text k d i) (node_at k i).place

-- the place that an answer tells, if it is a refusal
abbrev pub told : {A : Type 0} → Result A Untyped → Option ℕ
told (Ok x) = None
told (Err e) = Some e.place

-- the least place of the first n nodes that are at fault
abbrev pub first_untyped : List ℕ → Contents → Declared → ℕ → Option ℕ
first_untyped text k d n = least_below (untyped text k d) n

abbrev pub step_of : Ruled → Step
step_of (Some (ruling.Typed t s)) = s
step_of (Some (ruling.Done s)) = s
step_of (Some ruling.Waits) = step.Null
step_of None = step.Null

abbrev pub instruction_for : Ruled → Node → Instruction
instruction_for r v = record { step = step_of r; method = v.method; place = v.place; left = v.left; right = v.right }

-- the instruction of node i
unfoldable pub instruction_at : List ℕ → Contents → Declared → ℕ → Instruction
instruction_at text k d i = instruction_for (ruling_at text k d i) (node_at k i)

-- the type that is kept for a node j before node i
abbrev pub kept_in : List ℕ → ℕ → ℕ → Option Ty
kept_in scratch i j = cond (nat_lt j i && nat_lt j (length scratch)) (decoded (slice_index scratch j)) None

-- the type that is kept for a part of node i
abbrev pub part_in : List ℕ → ℕ → Option ℕ → Option Ty
part_in scratch i part = part_type (kept_in scratch i) part
