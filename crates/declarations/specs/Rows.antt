-- What a name means as a row, and a written type as a type.
use Rattle.std.specs.Prelude.{ℕ, ◌+◌, Bool, cond, List, length, Some, None, codes, Option}
use Rattle.std.specs.List.{slice_get}
use Rattle.std.specs.Str.{bytes_eq}
use Rattle.words.specs.Names.{name_at, is_name}
use Rattle.grammar.specs.declared.event.TypeWord.{TypeWord}
use Rattle.grammar.specs.declared.event.TypeWord.TheVariants as written
use Rattle.values.specs.declared.types.Lineage.{Lineage}
use Rattle.values.specs.declared.types.Lineage.TheVariants.{Class, Relationship}
use Rattle.values.specs.declared.types.CellRow.{CellRow}
use Rattle.values.specs.declared.types.Ty.{Ty}
use Rattle.values.specs.Types.{boolean, row_type, set_type}
use Rattle.outline.specs.declared.entry.Row.{Row}
use Rattle.outline.specs.Contents.{Contents}
use Rattle.tables.specs.Below.{first_below, or_else}
use Rattle.tables.specs.Items.{holds}

-- row n of a line
abbrev pub row : Lineage → ℕ → CellRow
row l n = record { lineage = l; number = n }

-- the declared rows of a line
abbrev pub rows_of : Contents → Lineage → List Row
rows_of k Class = k.classes
rows_of k Relationship = k.relationships

-- the declared row at place i of its table has the name
abbrev pub row_is : List ℕ → List Row → List ℕ → ℕ → Bool
row_is text rows name i = holds (slice_get rows i) (λ r. is_name text r.name name)

-- the declared rows of a line are numbered from 1
abbrev pub numbered : Lineage → Option ℕ → Option CellRow
numbered l None = None
numbered l (Some i) = Some (row l (i + 1))

-- the first declared row of a line that has the name
unfoldable pub row_among : List ℕ → Lineage → List Row → List ℕ → Option CellRow
row_among text l rows name = numbered l (first_below (row_is text rows name) (length rows))

-- the row that has the name: a root, or else the first class, or else the first relationship
unfoldable pub row_called : List ℕ → Contents → List ℕ → Option CellRow
row_called text k name =
    cond (bytes_eq name (codes "Object")) (Some (row Class 0))
    (cond (bytes_eq name (codes "Relation")) (Some (row Relationship 0))
    (or_else (row_among text Class k.classes name) (row_among text Relationship k.relationships name)))

-- the row whose name stands at place p
abbrev pub row_named : List ℕ → Contents → ℕ → Option CellRow
row_named text k p = row_called text k (name_at text p)

abbrev pub of_row : Option CellRow → Option Ty
of_row None = None
of_row (Some r) = Some (row_type r.lineage r.number)

abbrev pub of_set : Option CellRow → Option Ty
of_set None = None
of_set (Some r) = Some (set_type r.lineage r.number)

-- the type that is written so; none where its row is not declared
abbrev pub type_named : List ℕ → Contents → TypeWord → Option Ty
type_named text k written.Boolean = Some boolean
type_named text k (written.SetOf p) = of_set (row_named text k p)
type_named text k (written.Row p) = of_row (row_named text k p)
