-- The one method main, and the rows with too many fields.
use Rattle.std.specs.Prelude.{ℕ, ◌+◌, Bool, true, false, not, ◌&&◌, List, length, None, codes, Option, ◌==◌, nat_lt}
use Rattle.std.specs.List.{slice_get}
use Rattle.words.specs.Names.{is_name}
use Rattle.values.specs.declared.types.Lineage.{Lineage}
use Rattle.values.specs.declared.types.Lineage.TheVariants.{Class, Relationship}
use Rattle.values.specs.declared.types.Kind.{Kind}
use Rattle.values.specs.declared.types.Kind.TheVariants as kinds
use Rattle.values.specs.declared.types.CellRow.{CellRow}
use Rattle.values.specs.Fits.{Ancestry, same_lineage}
use Rattle.outline.specs.Contents.{Contents}
use Rattle.tables.specs.Below.{first_below, count_below, lesser, least_below}
use Rattle.tables.specs.Items.{given, holds}
use Rattle.declarations.specs.Rows.{row, rows_of}
use Rattle.declarations.specs.Resolved.{Declared}
use Rattle.declarations.specs.Descending.{same_row, upward}
use Rattle.declarations.specs.Naming.{fault_if}

abbrev pub is_main : List ℕ → Contents → ℕ → Bool
is_main text k i = holds (slice_get k.methods i) (λ m. is_name text m.name (codes "main"))

abbrev pub is_boolean : Kind → Bool
is_boolean kinds.Boolean = true
is_boolean kinds.Null = false
is_boolean (kinds.Row l) = false
is_boolean (kinds.Set l) = false

-- method i is declared in a class, and its parameter is boolean
abbrev pub can_start : Contents → Declared → ℕ → Bool
can_start k d i =
    holds (slice_get k.methods i) (λ m. same_lineage m.owner.lineage Class) && holds (slice_get d.methods i) (λ s. is_boolean s.parameter.kind)

-- just one method is named main, and it can start
abbrev pub main_stands : List ℕ → Contents → Declared → Bool
main_stands text k d = count_below (is_main text k) (length k.methods) == 1 && holds (first_below (is_main text k) (length k.methods)) (can_start k d)

-- there is no proper main; the place is the text's start
abbrev pub main_missing_place : List ℕ → Contents → Declared → Option ℕ
main_missing_place text k d = fault_if (not (main_stands text k d)) 0

-- what a row counts as its fields: a class also those upward, a relationship just its own
abbrev pub counts_for : Ancestry → Lineage → ℕ → CellRow → Bool
counts_for a Class n owner = upward a (row Class n) owner
counts_for a Relationship n owner = same_row (row Relationship n) owner

abbrev pub field_counts : Contents → Ancestry → Lineage → ℕ → ℕ → Bool
field_counts k a l n j = holds (slice_get k.fields j) (λ f. counts_for a l n f.owner)

-- the declared row i of a line has more than eight fields
abbrev pub too_many_fields_place : Contents → Ancestry → Lineage → ℕ → Option ℕ
too_many_fields_place k a l i = given (slice_get (rows_of k l) i) None (λ r. fault_if (nat_lt 8 (count_below (field_counts k a l (i + 1)) (length k.fields))) r.name)

abbrev pub first_too_many : Contents → Ancestry → Option ℕ
first_too_many k a = lesser (least_below (too_many_fields_place k a Class) (length k.classes)) (least_below (too_many_fields_place k a Relationship) (length k.relationships))
