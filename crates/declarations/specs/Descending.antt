-- Rows of the lines of descent.
use Rattle.std.specs.Prelude.{ℕ, Bool, cond, ◌&&◌, List, length, Some, None, Option, ◌==◌, nat_lt, slice_index}
use Rattle.descent.specs.Descent.{descends_to}
use Rattle.values.specs.declared.types.CellRow.{CellRow}
use Rattle.values.specs.Fits.{Ancestry, same_lineage}
pub use Rattle.values.specs.Fits.{line_in}

-- the parent of a row that is there and is no root
abbrev pub parent_row : List ℕ → ℕ → Option ℕ
parent_row line n = cond (n == 0) None (cond (nat_lt n (length line)) (Some (slice_index line n)) None)

abbrev pub same_row : CellRow → CellRow → Bool
same_row r s = same_lineage r.lineage s.lineage && r.number == s.number

-- s is r or upward from it, in one line
abbrev pub upward : Ancestry → CellRow → CellRow → Bool
upward a r s = same_lineage r.lineage s.lineage && descends_to (line_in a r.lineage) r.number s.number
