-- What the names of a node mean: variables, rows, and members found upward.
use Rattle.std.specs.Prelude.{ℕ, Bool, ◌&&◌, List, length, Some, None, Option}
use Rattle.std.specs.List.{slice_get}
use Rattle.words.specs.Names.{name_at, is_name}
use Rattle.descent.specs.Nearest.{nearest_up}
use Rattle.values.specs.declared.types.Lineage.{Lineage}
use Rattle.values.specs.declared.types.Lineage.TheVariants.{Class, Relationship}
use Rattle.values.specs.declared.types.Kind.{Kind}
use Rattle.values.specs.declared.types.Kind.TheVariants.{Boolean, Null, Row, Set}
use Rattle.values.specs.declared.types.CellRow.{CellRow}
use Rattle.values.specs.declared.types.Ty.{Ty}
use Rattle.outline.specs.Contents.{Contents}
use Rattle.tables.specs.Below.{first_below, count_below}
use Rattle.declarations.specs.Clashes.{method_alike, variable_alike}
use Rattle.values.specs.Fits.{line_in}
use Rattle.declarations.specs.Descending.{same_row}
use Rattle.tables.specs.Items.{given, holds}
use Rattle.declarations.specs.Rows.{row, row_named}
use Rattle.declarations.specs.Resolved.{Declared, variable_of}

-- the number, if the line is that of the classes, or of the relationships
abbrev pub as_class : Lineage → ℕ → Option ℕ
as_class Class n = Some n
as_class Relationship n = None

abbrev pub as_relationship : Lineage → ℕ → Option ℕ
as_relationship Class n = None
as_relationship Relationship n = Some n

-- the number of a row, if it is of the line
abbrev pub in_line : Lineage → CellRow → Option ℕ
in_line Class r = as_class r.lineage r.number
in_line Relationship r = as_relationship r.lineage r.number

-- the class whose name stands at place p
abbrev pub class_named : List ℕ → Contents → ℕ → Option ℕ
class_named text k p = given (row_named text k p) None (λ r. as_class r.lineage r.number)

-- the relationship whose name stands at place p
abbrev pub relationship_named : List ℕ → Contents → ℕ → Option ℕ
relationship_named text k p = given (row_named text k p) None (λ r. as_relationship r.lineage r.number)

-- the row that a type is; null is none
abbrev pub row_of_kind : Kind → ℕ → Option CellRow
row_of_kind Boolean n = None
row_of_kind Null n = None
row_of_kind (Row l) n = Some (row l n)
row_of_kind (Set l) n = None

abbrev pub row_of : Ty → Option CellRow
row_of t = row_of_kind t.kind t.row

-- the relationship row that a type is
abbrev pub relationship_of : Ty → Option ℕ
relationship_of t = given (row_of t) None (λ r. as_relationship r.lineage r.number)

-- the first variable of the method that has the name at place p
unfoldable pub variable_named : List ℕ → Contents → ℕ → ℕ → Option ℕ
variable_named text k m p = first_below (variable_alike text k m (name_at text p)) (length k.variables)

-- the number of variable i in its method
unfoldable pub variable_number : Contents → ℕ → ℕ → ℕ
variable_number k m i = count_below (variable_of k m) i

-- field i is declared in the row, and has the name
abbrev pub field_is : List ℕ → Contents → CellRow → List ℕ → ℕ → Bool
field_is text k r name i = holds (slice_get k.fields i) (λ f. same_row f.owner r && is_name text f.name name)

-- the first field of row n that has the name
unfoldable pub field_of : List ℕ → Contents → Lineage → List ℕ → ℕ → Option ℕ
field_of text k l name n = first_below (field_is text k (row l n) name) (length k.fields)

-- what was found, without the row where it was
abbrev pub found_there : Option (ℕ × ℕ) → Option ℕ
found_there None = None
found_there (Some x) = Some x.1

-- the field with the name at place p that is found upward from the row
unfoldable pub field_upward : List ℕ → Contents → Declared → CellRow → ℕ → Option ℕ
field_upward text k d r p = found_there (nearest_up (line_in d.ancestry r.lineage) (field_of text k r.lineage (name_at text p)) r.number)

-- the first method of row n that has the name
unfoldable pub method_of_row : List ℕ → Contents → Lineage → List ℕ → ℕ → Option ℕ
method_of_row text k l name n = first_below (method_alike text k (row l n) name) (length k.methods)

-- the method with the name at place p that is found upward from the row
unfoldable pub method_upward : List ℕ → Contents → Declared → CellRow → ℕ → Option ℕ
method_upward text k d r p = found_there (nearest_up (line_in d.ancestry r.lineage) (method_of_row text k r.lineage (name_at text p)) r.number)

-- the field or method that is found upward from a type, if it is a row
abbrev pub field_from : List ℕ → Contents → Declared → Ty → ℕ → Option ℕ
field_from text k d t p = given (row_of t) None (λ r. field_upward text k d r p)

abbrev pub method_from : List ℕ → Contents → Declared → Ty → ℕ → Option ℕ
method_from text k d t p = given (row_of t) None (λ r. method_upward text k d r p)
