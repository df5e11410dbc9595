-- Faults of names of members and variables: the same name twice, or a field named as a relationship.
use Rattle.std.specs.Prelude.{ℕ, Bool, ◌&&◌, ◌||◌, List, length, None, codes, Option, ◌==◌}
use Rattle.std.specs.List.{slice_get}
use Rattle.std.specs.Str.{bytes_eq}
use Rattle.words.specs.Names.{name_at, is_name}
use Rattle.values.specs.declared.types.CellRow.{CellRow}
use Rattle.values.specs.Fits.{Ancestry}
use Rattle.outline.specs.Contents.{Contents}
use Rattle.tables.specs.Below.{any_below, lesser, least_below}
use Rattle.tables.specs.Items.{given, holds}
use Rattle.declarations.specs.Rows.{row_is}
use Rattle.declarations.specs.Descending.{same_row, upward}
use Rattle.declarations.specs.Naming.{fault_if}

-- field j has the name, and its row is the owner or upward from it
abbrev pub field_alike : List ℕ → Contents → Ancestry → CellRow → List ℕ → ℕ → Bool
field_alike text k a owner name j = holds (slice_get k.fields j) (λ f. upward a owner f.owner && is_name text f.name name)

-- the name is that of a relationship, the root included
abbrev pub relationship_name : List ℕ → Contents → List ℕ → Bool
relationship_name text k name = bytes_eq name (codes "Relation") || any_below (row_is text k.relationships name) (length k.relationships)

-- field i has the name of an earlier field of its row or one upward, or that of a relationship
abbrev pub field_clashes_place : List ℕ → Contents → Ancestry → ℕ → Option ℕ
field_clashes_place text k a i =
    given (slice_get k.fields i) None
    (λ f. fault_if (any_below (field_alike text k a f.owner (name_at text f.name)) i || relationship_name text k (name_at text f.name)) f.name)

-- method j is declared in the row and has the name
abbrev pub method_alike : List ℕ → Contents → CellRow → List ℕ → ℕ → Bool
method_alike text k owner name j = holds (slice_get k.methods j) (λ m. same_row m.owner owner && is_name text m.name name)

-- method i has the name of an earlier one of its row
abbrev pub method_twice_place : List ℕ → Contents → ℕ → Option ℕ
method_twice_place text k i = given (slice_get k.methods i) None (λ m. fault_if (any_below (method_alike text k m.owner (name_at text m.name)) i) m.name)

-- variable j is of the method and has the name
abbrev pub variable_alike : List ℕ → Contents → ℕ → List ℕ → ℕ → Bool
variable_alike text k method name j = holds (slice_get k.variables j) (λ v. (v.method == method) && is_name text v.name name)

-- variable i has the name of an earlier one of its method
abbrev pub variable_twice_place : List ℕ → Contents → ℕ → Option ℕ
variable_twice_place text k i =
    given (slice_get k.variables i) None (λ v. fault_if (any_below (variable_alike text k v.method (name_at text v.name)) i) v.name)

-- the first name that clashes
abbrev pub first_clash : List ℕ → Contents → Ancestry → Option ℕ
first_clash text k a =
    lesser (least_below (field_clashes_place text k a) (length k.fields))
    (lesser (least_below (method_twice_place text k) (length k.methods)) (least_below (variable_twice_place text k) (length k.variables)))
