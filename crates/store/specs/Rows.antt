-- The rows of a store's cells.
use Rattle.std.specs.Prelude.{◌≡◌, ℕ, Some, None, Option}
use Rattle.values.specs.declared.types.CellRow.{CellRow}
use Rattle.values.specs.declared.types.Lineage.TheVariants.{Class, Relationship}
use Rattle.store.specs.declared.cell.Head.{Head}
use Rattle.store.specs.declared.cell.Head.TheVariants.{Object, Instance}
use Rattle.store.specs.Model.{Model, head_at}

-- an object has a row of the class line, an instance one of the relationship line
abbrev pub row_of : Head → CellRow
row_of (Object class) = record { lineage = Class; number = class }
row_of (Instance relationship parent from to) = record { lineage = Relationship; number = relationship }

abbrev pub row_in : Option Head → Option CellRow
row_in None = None
row_in (Some h) = Some (row_of h)

abbrev pub row_at : Model → ℕ → Option CellRow
row_at m c = row_in (head_at m c)

-- every cell of the store before is there after, with its row
pub record KeepsRows (before after : Model) : Type 0 where
  pub keeps : (c : ℕ) (r : CellRow) → row_at before c ≡ Some r → row_at after c ≡ Some r
