-- Faults of names: taken, or not declared.
use Rattle.std.specs.Prelude.{ℕ, Bool, cond, ◌&&◌, ◌||◌, List, length, Some, None, codes, Option, nat_lt}
use Rattle.std.specs.List.{slice_get}
use Rattle.std.specs.Str.{bytes_eq}
use Rattle.words.specs.Names.{name_at, is_name}
use Rattle.grammar.specs.declared.event.TypeWord.{TypeWord}
use Rattle.grammar.specs.declared.event.TypeWord.TheVariants as written
use Rattle.values.specs.declared.types.Lineage.{Lineage}
use Rattle.values.specs.declared.types.Lineage.TheVariants.{Class, Relationship}
use Rattle.outline.specs.declared.entry.Row.{Row}
use Rattle.outline.specs.Contents.{Contents}
use Rattle.tables.specs.Below.{any_below, lesser, least_below}
use Rattle.tables.specs.Items.{given, holds}
use Rattle.declarations.specs.Rows.{rows_of, row_named}
use Rattle.declarations.specs.Resolved.{parent_of}

-- a fault at place p, where the test says so
abbrev pub fault_if : Bool → ℕ → Option ℕ
fault_if b p = cond b (Some p) None

-- the bytes of a root's name
abbrev pub root_name : List ℕ → Bool
root_name name = bytes_eq name (codes "Object") || bytes_eq name (codes "Relation")

-- declared row j stands before place p and has the name
abbrev pub named_before : List ℕ → List Row → List ℕ → ℕ → ℕ → Bool
named_before text rows name p j = holds (slice_get rows j) (λ r. nat_lt r.name p && is_name text r.name name)

abbrev pub any_named_before : List ℕ → List Row → List ℕ → ℕ → Bool
any_named_before text rows name p = any_below (named_before text rows name p) (length rows)

-- the name is a root's, or that of a row of either line before place p
abbrev pub taken : List ℕ → Contents → List ℕ → ℕ → Bool
taken text k name p = root_name name || any_named_before text k.classes name p || any_named_before text k.relationships name p

-- the name of a declared row of a line is taken
abbrev pub name_taken_place : List ℕ → Contents → Lineage → ℕ → Option ℕ
name_taken_place text k l i = given (slice_get (rows_of k l) i) None (λ r. fault_if (taken text k (name_at text r.name) r.name) r.name)

-- the first name that is taken
abbrev pub first_taken : List ℕ → Contents → Option ℕ
first_taken text k = lesser (least_below (name_taken_place text k Class) (length k.classes)) (least_below (name_taken_place text k Relationship) (length k.relationships))

-- place p, where there is no such thing
abbrev pub fault_unless : {X : Type 0} → Option X → ℕ → Option ℕ
fault_unless o p = given o (Some p) (λ x. None)

-- a parent that is no earlier row of its line
abbrev pub parent_missing_place : List ℕ → Contents → Lineage → ℕ → Option ℕ
parent_missing_place text k l i = given (slice_get (rows_of k l) i) None (λ r. fault_unless (parent_of text k l i) r.parent)

-- the name at place p is that of no row
abbrev pub row_missing : List ℕ → Contents → ℕ → Option ℕ
row_missing text k p = fault_unless (row_named text k p) p

-- an end that is not declared
abbrev pub end_missing_place : List ℕ → Contents → ℕ → Option ℕ
end_missing_place text k i = given (slice_get k.relationships i) None (λ r. lesser (row_missing text k r.first) (row_missing text k r.second))

-- a type whose row is not declared
abbrev pub type_missing : List ℕ → Contents → TypeWord → Option ℕ
type_missing text k written.Boolean = None
type_missing text k (written.SetOf p) = row_missing text k p
type_missing text k (written.Row p) = row_missing text k p

abbrev pub field_type_missing_place : List ℕ → Contents → ℕ → Option ℕ
field_type_missing_place text k i = given (slice_get k.fields i) None (λ f. type_missing text k f.typed)

abbrev pub result_type_missing_place : List ℕ → Contents → ℕ → Option ℕ
result_type_missing_place text k i = given (slice_get k.methods i) None (λ m. type_missing text k m.result)

abbrev pub variable_type_missing_place : List ℕ → Contents → ℕ → Option ℕ
variable_type_missing_place text k i = given (slice_get k.variables i) None (λ v. type_missing text k v.typed)

-- the first name that is not declared
abbrev pub first_missing : List ℕ → Contents → Option ℕ
first_missing text k =
    lesser (least_below (parent_missing_place text k Class) (length k.classes))
    (lesser (least_below (parent_missing_place text k Relationship) (length k.relationships))
    (lesser (least_below (end_missing_place text k) (length k.relationships))
    (lesser (least_below (field_type_missing_place text k) (length k.fields))
    (lesser (least_below (result_type_missing_place text k) (length k.methods)) (least_below (variable_type_missing_place text k) (length k.variables))))))
