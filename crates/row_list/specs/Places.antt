-- Rows by their place in a list.
use Rattle.std.specs.Prelude.{◌≡◌, ℕ, ◌<◌, true, List, length, Some, None, Option, slice_index_or}
use Rattle.pairs.specs.declared.row.Row.{Row}
use Rattle.pairs.specs.Rows.{alike, in_force}

-- the row at a place of a list
abbrev pub row_at : List Row → ℕ → Row
row_at rows p = slice_index_or rows p (record { relationship = 0; from = 0; to = 0; instance = 0 })

-- where a list has the row of a relationship and two cells, if anywhere
abbrev pub Placed : List Row → ℕ → ℕ → ℕ → Option ℕ → Type 0
Placed rows r f t None = in_force rows r f t ≡ None
Placed rows r f t (Some p) = (p < length rows) × (alike (row_at rows p).relationship (row_at rows p).from (row_at rows p).to r f t ≡ true)
