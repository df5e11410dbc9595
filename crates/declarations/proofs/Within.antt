-- What stands in a table stands below the table's room.
use Rattle.std.proofs.Common.{◌≡◌, ℕ, ◌<◌, ◌≤◌, Bool, length, Some, sym, arith}
use Rattle.std.specs.List.{slice_get}
use Rattle.std.proofs.lemmas.Option.{slice_get_within}
use Rattle.tables.specs.declared.table.Table.{Table}
use Rattle.tables.specs.Listed.{listed}
use Rattle.tables.specs.Below.{first_below}
use Rattle.tables.proofs.Found.{first_passes}
use Rattle.tables.proofs.Laws.{few_listed}
use Rattle.values.specs.declared.types.Lineage.{Lineage}
use Rattle.values.specs.declared.types.Lineage.TheVariants.{Class, Relationship}
use Rattle.outline.specs.declared.contents.Outline.{Outline}
use Rattle.outline.specs.declared.entry.Row.{Row}
use Rattle.outline.specs.Contents.{contents}
use Rattle.declarations.specs.Rows.{rows_of}

pub in_table : {X : Type 0} {N : ℕ} (t : Table X N) (i : ℕ) (x : X) → Some x ≡ slice_get (listed t) i → i < N
in_table t i x e = omega (arith, slice_get_within (listed t) i x (sym e), few_listed t)

pub rows_few : (o : Outline) (l : Lineage) → length (rows_of (contents o) l) ≤ 31
rows_few o Class = few_listed o.classes
rows_few o Relationship = few_listed o.relationships

-- a declared row that is there
pub row_few : (o : Outline) (l : Lineage) (i : ℕ) (r : Row) → Some r ≡ slice_get (rows_of (contents o) l) i → i < 31
row_few o l i r e = omega (arith, slice_get_within (rows_of (contents o) l) i r (sym e), rows_few o l)

-- a declared row that was found
pub found_few : (o : Outline) (l : Lineage) (f : ℕ → Bool) (i : ℕ) → Some i ≡ first_below f (length (rows_of (contents o) l)) → i < 31
found_few o l f i e = omega (arith, (first_passes f _ i (sym e)).0, rows_few o l)
