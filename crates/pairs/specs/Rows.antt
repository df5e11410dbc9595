-- Rows in force, as a list: what they say of a relationship and two cells. The order of the rows is no part of their meaning.
use Rattle.std.specs.Prelude.{◌≡◌, ℕ, ◌<◌, ◌≤◌, Bool, true, false, cond, not, ◌&&◌, ◌⊎◌, List, [], ◌∷◌, is_some, Some, None, Ok, Err, Option, Result, ◌==◌, nat_le}
use Rattle.pairs.specs.declared.row.Row.{Row}
use Rattle.pairs.specs.declared.row.PutRefusal.{PutRefusal}
use Rattle.pairs.specs.declared.row.PutRefusal.TheVariants.{BadRelationship, BadCell, Present, Full}
use Rattle.pairs.specs.declared.row.Link.{Link}

-- the same relationship, the same from cell and the same to cell
abbrev pub alike : ℕ → ℕ → ℕ → ℕ → ℕ → ℕ → Bool
alike relationship from to r f t = relationship == r && (from == f && to == t)

-- the row of a relationship from a cell
abbrev pub leads : Row → ℕ → ℕ → Bool
leads row r f = row.relationship == r && row.from == f

-- the relationship and the two cells of a row
abbrev pub link : Row → Link
link row = record { relationship = row.relationship; from = row.from; to = row.to }

-- the instance in force for a relationship, a from cell and a to cell
unfoldable pub in_force : List Row → ℕ → ℕ → ℕ → Option ℕ
in_force [] r f t = None
in_force (row ∷ rows) r f t = cond (alike row.relationship row.from row.to r f t) (Some row.instance) (in_force rows r f t)

-- no two rows are alike in relationship, from and to
unfoldable pub apart : List Row → Bool
unfolding in_force
apart [] = true
apart (row ∷ rows) = not (is_some (in_force rows row.relationship row.from row.to)) && apart rows

-- a relationship of at most 31, cells and instance of at most 127
pub record Small (row : Row) : Type 0 where
  pub relationship : row.relationship ≤ 31
  pub from : row.from ≤ 127
  pub to : row.to ≤ 127
  pub instance : row.instance ≤ 127

-- the same as a test, of one row and of all
abbrev pub small : Row → Bool
small row = nat_le row.relationship 31 && (nat_le row.from 127 && (nat_le row.to 127 && nat_le row.instance 127))

unfoldable pub all_small : List Row → Bool
all_small [] = true
all_small (row ∷ rows) = small row && all_small rows

-- whether a row may be put into a table in which its relationship and cells have the instance `present` already, or none,
-- and which is full or not: each refusal with when it is given; the first that applies is given
abbrev pub Judged : Row → Option ℕ → Bool → Result (Unit {0}) PutRefusal → Type 0
Judged row present full (Ok _) = Small row × (present ≡ None) × (full ≡ false)
Judged row present full (Err BadRelationship) = 31 < row.relationship
Judged row present full (Err BadCell) = (row.relationship ≤ 31) × ((127 < row.from) ⊎ ((127 < row.to) ⊎ (127 < row.instance)))
Judged row present full (Err (Present i)) = Small row × (present ≡ Some i)
Judged row present full (Err Full) = Small row × (present ≡ None) × (full ≡ true)
