-- The typing rules: what each node does and of what type it is, from the types of its parts.
use Rattle.std.specs.Prelude.{ℕ, Bool, true, false, cond, ◌&&◌, List, Some, None, Option}
use Rattle.std.specs.List.{slice_get}
use Rattle.values.specs.declared.types.Lineage.TheVariants.{Class, Relationship}
use Rattle.values.specs.declared.types.Kind.{Kind}
use Rattle.values.specs.declared.types.Kind.TheVariants.{Boolean, Null, Row, Set}
use Rattle.values.specs.declared.types.CellRow.{CellRow}
use Rattle.values.specs.declared.types.Ty.{Ty}
use Rattle.values.specs.Fits.{fits_to}
use Rattle.values.specs.Types.{boolean, null_type, row_type, set_type}
use Rattle.outline.specs.declared.entry.Shape.{Shape}
use Rattle.outline.specs.declared.entry.Shape.TheVariants as shape
use Rattle.outline.specs.declared.entry.Node.{Node}
use Rattle.outline.specs.Contents.{Contents}
use Rattle.tables.specs.Items.{given}
use Rattle.declarations.specs.Resolved.{Declared}
use Rattle.typing.specs.declared.step.Step.{Step}
use Rattle.typing.specs.declared.step.Step.TheVariants as step
use Rattle.typing.specs.declared.step.Ruling.{Ruling}
use Rattle.typing.specs.declared.step.Ruling.TheVariants as ruling
use Rattle.typing.specs.Lookup.{class_named, relationship_named, relationship_of, variable_named, variable_number, field_from, method_from}

-- what the rules say of a node: none where no rule covers it
abbrev pub Ruled : Type 0
Ruled = Option Ruling

abbrev pub ruled : Ty → Step → Ruled
ruled t s = Some (ruling.Typed t s)

abbrev pub ordered : Step → Ruled
ordered s = Some (ruling.Done s)

abbrev pub waiting : Ruled
waiting = Some ruling.Waits

abbrev pub faulty : Ruled
faulty = None

abbrev pub type_of_row : CellRow → Ty
type_of_row r = row_type r.lineage r.number

abbrev pub set_of_row : CellRow → Ty
set_of_row r = set_type r.lineage r.number

-- this: the row that owns the method
abbrev pub this_ruling : Contents → ℕ → Ruled
this_ruling k m = given (slice_get k.methods m) faulty (λ x. ruled (type_of_row x.owner) step.This)

-- a variable of the method has its declared type
abbrev pub variable_ruling : List ℕ → Contents → Declared → ℕ → ℕ → Ruled
variable_ruling text k d m p =
    given (variable_named text k m p) faulty (λ i. given (slice_get d.variables i) faulty (λ t. ruled t (step.Variable (variable_number k m i))))

-- a new object has its class
abbrev pub new_ruling : List ℕ → Contents → ℕ → Ruled
new_ruling text k p = given (class_named text k p) faulty (λ n. ruled (row_type Class n) (step.New n))

-- the partners by relationship r of what fits its first end: a set of its second end
abbrev pub partners_ruling : Declared → Ty → ℕ → Ruled
partners_ruling d s r =
    given (slice_get d.ends r) faulty
    (λ e. cond (fits_to d.ancestry s (type_of_row e.first)) (ruled (set_of_row e.second) (step.Partners r)) faulty)

-- a field that is found upward has its declared type
abbrev pub field_ruling : List ℕ → Contents → Declared → Ty → ℕ → Ruled
field_ruling text k d s p =
    given (field_from text k d s p) faulty (λ f. given (slice_get d.fields f) faulty (λ t. ruled t (step.Field f)))

-- what stands after a dot is a relationship, or else a field
abbrev pub member_ruling : List ℕ → Contents → Declared → Ty → ℕ → Ruled
member_ruling text k d s p = given (relationship_named text k p) (field_ruling text k d s p) (partners_ruling d s)

-- the instances of a relationship from what fits its first end: a set of it
abbrev pub instances_ruling : List ℕ → Contents → Declared → Ty → ℕ → Ruled
instances_ruling text k d s p =
    given (relationship_named text k p) faulty
    (λ r. given (slice_get d.ends r) faulty
    (λ e. cond (fits_to d.ancestry s (type_of_row e.first)) (ruled (set_type Relationship r) (step.Instances r)) faulty))

-- the ends of a relationship row
abbrev pub from_ruling : Declared → Ty → Ruled
from_ruling d s = given (relationship_of s) faulty (λ r. given (slice_get d.ends r) faulty (λ e. ruled (type_of_row e.first) step.From))

abbrev pub to_ruling : Declared → Ty → Ruled
to_ruling d s = given (relationship_of s) faulty (λ r. given (slice_get d.ends r) faulty (λ e. ruled (type_of_row e.second) step.To))

-- a row or null
abbrev pub comparable : Kind → Bool
comparable Boolean = false
comparable Null = true
comparable (Row l) = true
comparable (Set l) = false

abbrev pub compare_ruling : Ty → Ty → Ruled
compare_ruling s t = cond (comparable s.kind && comparable t.kind) (ruled boolean step.Compare) faulty

-- what fits a variable is assigned to it, and keeps its own type
abbrev pub set_variable_ruling : List ℕ → Contents → Declared → ℕ → ℕ → Ty → Ruled
set_variable_ruling text k d m p t =
    given (variable_named text k m p) faulty
    (λ i. given (slice_get d.variables i) faulty
    (λ u. cond (fits_to d.ancestry t u) (ruled t (step.SetVariable (variable_number k m i))) faulty))

-- what fits a field that is found upward is assigned to it, and keeps its own type
abbrev pub set_field_ruling : List ℕ → Contents → Declared → Ty → ℕ → Ty → Ruled
set_field_ruling text k d s p t =
    given (field_from text k d s p) faulty
    (λ f. given (slice_get d.fields f) faulty (λ u. cond (fits_to d.ancestry t u) (ruled t (step.SetField f)) faulty))

-- nothing is assigned to a relationship
abbrev pub set_member_ruling : List ℕ → Contents → Declared → Ty → ℕ → Ty → Ruled
set_member_ruling text k d s p t = given (relationship_named text k p) (set_field_ruling text k d s p t) (λ r. faulty)

-- the relationship with the name, if the two types fit its ends
abbrev pub pair_named : List ℕ → Contents → Declared → ℕ → Ty → Ty → Option ℕ
pair_named text k d p s t =
    given (relationship_named text k p) None
    (λ r. given (slice_get d.ends r) None
    (λ e. cond (fits_to d.ancestry s (type_of_row e.first) && fits_to d.ancestry t (type_of_row e.second)) (Some r) None))

-- an instance is added or removed between what fits the ends
abbrev pub add_ruling : List ℕ → Contents → Declared → ℕ → Ty → Ty → Ruled
add_ruling text k d p s t = given (pair_named text k d p s t) faulty (λ r. ruled (row_type Relationship r) (step.Add r))

abbrev pub rem_ruling : List ℕ → Contents → Declared → ℕ → Ty → Ty → Ruled
rem_ruling text k d p s t = given (pair_named text k d p s t) faulty (λ r. ruled (row_type Relationship r) (step.Rem r))

-- a method that is found upward, with an argument that fits its parameter, has its result's type
abbrev pub call_ruling : List ℕ → Contents → Declared → Ty → ℕ → Ty → Ruled
call_ruling text k d s p t =
    given (method_from text k d s p) faulty
    (λ m. given (slice_get d.methods m) faulty (λ g. cond (fits_to d.ancestry t g.parameter) (ruled g.result (step.Call m)) faulty))

abbrev pub is_boolean : Kind → Bool
is_boolean Boolean = true
is_boolean Null = false
is_boolean (Row l) = false
is_boolean (Set l) = false

-- a condition is boolean
abbrev pub branch_ruling : Ty → Ruled
branch_ruling s = cond (is_boolean s.kind) (ordered step.Branch) faulty

-- what is returned fits the method's result
abbrev pub return_ruling : Declared → ℕ → Ty → Ruled
return_ruling d m s = given (slice_get d.methods m) faulty (λ g. cond (fits_to d.ancestry s g.result) (ordered step.Return) faulty)

-- a node with a part that has no type waits
abbrev pub one : Option Ty → (Ty → Ruled) → Ruled
one left f = given left waiting f

abbrev pub two : Option Ty → Option Ty → (Ty → Ty → Ruled) → Ruled
two left right f = given left waiting (λ s. given right waiting (f s))

-- what a node of a shape is, with the number of its method, and the types of its parts
abbrev pub of_shape : List ℕ → Contents → Declared → Shape → ℕ → Option Ty → Option Ty → Ruled
of_shape text k d (shape.Variable p) m left right = variable_ruling text k d m p
of_shape text k d shape.True m left right = ruled boolean (step.Truth true)
of_shape text k d shape.False m left right = ruled boolean (step.Truth false)
of_shape text k d shape.Null m left right = ruled null_type step.Null
of_shape text k d shape.This m left right = this_ruling k m
of_shape text k d (shape.New p) m left right = new_ruling text k p
of_shape text k d (shape.Add p) m left right = two left right (add_ruling text k d p)
of_shape text k d (shape.Rem p) m left right = two left right (rem_ruling text k d p)
of_shape text k d (shape.Member p) m left right = one left (λ s. member_ruling text k d s p)
of_shape text k d (shape.Call p) m left right = two left right (λ s t. call_ruling text k d s p t)
of_shape text k d (shape.Instances p) m left right = one left (λ s. instances_ruling text k d s p)
of_shape text k d shape.From m left right = one left (from_ruling d)
of_shape text k d shape.To m left right = one left (to_ruling d)
of_shape text k d shape.Equal m left right = two left right compare_ruling
of_shape text k d (shape.SetVariable p) m left right = one right (set_variable_ruling text k d m p)
of_shape text k d (shape.SetMember p) m left right = two left right (λ s t. set_member_ruling text k d s p t)
of_shape text k d shape.Action m left right = one left (λ s. ordered step.Drop)
of_shape text k d shape.Branch m left right = one left branch_ruling
of_shape text k d shape.Return m left right = one left (return_ruling d m)

abbrev pub ruling_of : List ℕ → Contents → Declared → Node → Option Ty → Option Ty → Ruled
ruling_of text k d v left right = of_shape text k d v.shape v.method left right
