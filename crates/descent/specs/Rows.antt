-- What a `Line` means.
use Rattle.std.specs.Prelude.{◌≡◌, ℕ, ◌<◌, ◌≤◌, List, [], ◌∷◌, ◌++◌, length, take}
use Rattle.descent.specs.declared.line.RowRefusal.{RowRefusal}
use Rattle.descent.specs.declared.line.RowRefusal.TheVariants.{NoParent, Full}
use Rattle.descent.specs.declared.line.Line.{Line}

-- the parents of its rows
unfoldable pub line_of : Line → List ℕ
line_of l = take l.rows l.parents

-- a row is added under the parent p: p is a row, fewer than 32 are there, and the new row r comes after all others
pub record Added (before : List ℕ) (p : ℕ) (after : List ℕ) (r : ℕ) : Type 0 where
  pub known : p < length before
  pub room : length before < 32
  pub next : r ≡ length before
  pub grown : after ≡ before ++ (p ∷ [])

-- no row is added: p is no row, or else the line is full; nothing changes
pub data NotAdded (before : List ℕ) (p : ℕ) (after : List ℕ) : RowRefusal → Type 0 where
  no_parent : length before ≤ p → after ≡ before → NotAdded before p after NoParent
  full : p < length before → 32 ≤ length before → after ≡ before → NotAdded before p after Full
