-- What the rows of a relationship from a cell have, and sets of what was told.
use Rattle.std.specs.Prelude.{◌≡◌, ℕ, ◌&&◌, List, Option, ◌==◌, nat_lt}
use Rattle.std.specs.Bool.{then_some}
use Rattle.std.specs.Fn.{FnReturnsAt}
use Rattle.std.specs.List.{list_any}
use denote.Param.Members.{Shared}
use denote.Ref.{Bor}
use Rattle.cells.specs.Members.{has, Words}
use Rattle.cells.specs.declared.CellSet.{CellSet}
use Rattle.pairs.specs.declared.row.Row.{Row}
use Rattle.pairs.specs.Rows.{leads}

-- the to cell of a row of the relationship from the cell
abbrev pub to_from : ℕ → ℕ → Row → Option ℕ
to_from r f row = then_some (leads row r f) row.to

-- the instance of such a row
abbrev pub instance_from : ℕ → ℕ → Row → Option ℕ
instance_from r f row = then_some (leads row r f) row.instance

-- the set of just these cells; what is above 127 is no cell
pub record Gathered (told : List ℕ) (s : CellSet) : Type 0 where
  pub members : (d : ℕ) → has s d ≡ (list_any (λ c. c == d) told && nat_lt d 128)
  pub words : Words s

-- each call of f at an item answers what told gives
abbrev pub Tells : {F T R : Type 0} → Shared F (Bor T × Unit {0}) R → F → (T → R) → Type 0
Tells {T = T} {R = R} g f told = (item : T) (answer : R) → FnReturnsAt g f item answer → answer ≡ told item
