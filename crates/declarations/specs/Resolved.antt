-- What a text declares, with its names resolved. Where a name is not declared, or a parent is at fault, Object, boolean or
-- the root stands in: such a text is refused before it matters.
use Rattle.std.specs.Prelude.{ℕ, ◌+◌, ◌-◌, Bool, cond, ◌&&◌, List, ◌∷◌, length, Some, None, Option, ◌==◌, nat_eq, nat_le}
use Rattle.std.specs.List.{slice_get}
use Rattle.grammar.specs.declared.event.TypeWord.{TypeWord}
use Rattle.values.specs.declared.types.Lineage.{Lineage}
use Rattle.values.specs.declared.types.Lineage.TheVariants.{Class, Relationship}
use Rattle.values.specs.declared.types.CellRow.{CellRow}
use Rattle.values.specs.declared.types.Ty.{Ty}
use Rattle.values.specs.Fits.{Ancestry, same_lineage}
use Rattle.values.specs.Lines.{ancestry}
use Rattle.values.specs.Types.{boolean}
use Rattle.outline.specs.Contents.{Contents}
use Rattle.tables.specs.Below.{first_below, tabulated}
use Rattle.tables.specs.Listed.{listed}
use Rattle.declarations.specs.declared.declarations.Ends.{Ends}
use Rattle.declarations.specs.declared.declarations.Signature.{Signature}
use Rattle.declarations.specs.declared.declarations.Declarations.{Declarations}
use Rattle.tables.specs.Items.{given, holds}
use Rattle.declarations.specs.Rows.{row, rows_of, row_named, type_named}

-- the lines of descent; the ends of each relationship row, the root's first; the types of all fields, methods and
-- variables, in the order of the text
pub record Declared : Type 0 where
  pub ancestry : Ancestry
  pub ends : List Ends
  pub fields : List Ty
  pub methods : List Signature
  pub variables : List Ty

abbrev pub declared : Declarations → Declared
declared d =
    record {
      ancestry = ancestry d.lines;
      ends = listed d.ends;
      fields = listed d.fields;
      methods = listed d.methods;
      variables = listed d.variables;
    }

-- a parent of the declared row i of a line: a row of that line before it
abbrev pub earlier : Lineage → ℕ → CellRow → Option ℕ
earlier l i r = cond (same_lineage l r.lineage && nat_le r.number i) (Some r.number) None

-- the number of the row's parent, if it is no fault
abbrev pub parent_of : List ℕ → Contents → Lineage → ℕ → Option ℕ
parent_of text k l i = given (slice_get (rows_of k l) i) None (λ r. given (row_named text k r.parent) None (earlier l i))

abbrev pub parent_or_root : List ℕ → Contents → Lineage → ℕ → ℕ
parent_or_root text k l i = given (parent_of text k l i) 0 (λ p. p)

-- the parents of the rows of a line: of the root, and of each declared row
abbrev pub parents_of : List ℕ → Contents → Lineage → List ℕ
parents_of text k l = 0 ∷ tabulated (parent_or_root text k l) (length (rows_of k l))

abbrev pub type_or : List ℕ → Contents → TypeWord → Ty
type_or text k t = given (type_named text k t) boolean (λ u. u)

abbrev pub row_or : List ℕ → Contents → ℕ → CellRow
row_or text k p = given (row_named text k p) (row Class 0) (λ r. r)

abbrev pub ends_are : CellRow → CellRow → Ends
ends_are r s = record { first = r; second = s }

-- the ends of relationship row n
abbrev pub ends_of : List ℕ → Contents → ℕ → Ends
ends_of text k n =
    cond (n == 0) (ends_are (row Class 0) (row Class 0))
    (given (slice_get k.relationships (n - 1)) (ends_are (row Class 0) (row Class 0)) (λ r. ends_are (row_or text k r.first) (row_or text k r.second)))

abbrev pub field_type : List ℕ → Contents → ℕ → Ty
field_type text k i = given (slice_get k.fields i) boolean (λ f. type_or text k f.typed)

abbrev pub variable_type : List ℕ → Contents → ℕ → Ty
variable_type text k i = given (slice_get k.variables i) boolean (λ v. type_or text k v.typed)

abbrev pub result_type : List ℕ → Contents → ℕ → Ty
result_type text k i = given (slice_get k.methods i) boolean (λ m. type_or text k m.result)

-- variable j is one of method i
abbrev pub variable_of : Contents → ℕ → ℕ → Bool
variable_of k i j = holds (slice_get k.variables j) (λ v. nat_eq v.method i)

-- a method's parameter is its first variable
abbrev pub parameter_type : List ℕ → Contents → ℕ → Ty
parameter_type text k i = given (first_below (variable_of k i) (length k.variables)) boolean (variable_type text k)

abbrev pub signature_of : List ℕ → Contents → ℕ → Signature
signature_of text k i = record { result = result_type text k i; parameter = parameter_type text k i }

unfoldable pub declared_of : List ℕ → Contents → Declared
declared_of text k =
    record {
      ancestry = record { classes = parents_of text k Class; relationships = parents_of text k Relationship };
      ends = tabulated (ends_of text k) (length k.relationships + 1);
      fields = tabulated (field_type text k) (length k.fields);
      methods = tabulated (signature_of text k) (length k.methods);
      variables = tabulated (variable_type text k) (length k.variables);
    }
