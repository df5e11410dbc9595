-- Lines of descent, over any list of parents.
--
-- A line is the list of its rows' parents: the parent of row a stands at place a. Row 0 is the root; it has no parent,
-- and 0 stands at its place.
use Rattle.std.specs.Prelude.{◌≡◌, ℕ, zero, suc, ◌<◌, ◌≤◌, Bool, cond, ◌&&◌, ◌⊎◌, List, [], ◌∷◌, length, ◌==◌, nat_lt, slice_index, slice_index_or}

-- there is a root, and every other row has a parent with a smaller number
pub record IsLine (line : List ℕ) : Type 0 where
  pub rooted : 0 < length line
  pub plain : slice_index_or line 0 0 ≡ 0
  pub smaller : (a : ℕ) → 0 < a → a < length line → slice_index line a < a

-- row a is there, and its parent is p
pub record Parent (line : List ℕ) (a p : ℕ) : Type 0 where
  pub under : 0 < a
  pub there : a < length line
  pub is : slice_index_or line a 0 ≡ p

-- a row descends to itself, to its parent, and so on upward; rows that are not there descend to none
pub data Descends (line : List ℕ) : ℕ → ℕ → Type 0 where
  itself : {a : ℕ} → a < length line → Descends line a a
  upward : {a p b : ℕ} → Parent line a p → Descends line p b → Descends line a b

-- a row and all that it descends to, in order, up to the root
pub data Chain (line : List ℕ) : ℕ → List ℕ → Type 0 where
  top : {a : ℕ} → a ≡ 0 → a < length line → Chain line a (a ∷ [])
  under : {a p : ℕ} {rows : List ℕ} → Parent line a p → Chain line p rows → Chain line a (a ∷ rows)

-- the laws of descent on one line
pub record Order (line : List ℕ) : Type 0 where
  pub reflexive : (a : ℕ) → a < length line → Descends line a a
  pub transitive : (a b c : ℕ) → Descends line a b → Descends line b c → Descends line a c
  pub antisymmetric : (a b : ℕ) → Descends line a b → Descends line b a → a ≡ b
  pub rooted : (a : ℕ) → a < length line → Descends line a 0
  pub falling : (a b : ℕ) → Descends line a b → b ≤ a
  pub there : (a b : ℕ) → Descends line a b → (a < length line) × (b < length line)
  -- of two rows upward from one row, one descends to the other
  pub single : (a b c : ℕ) → Descends line a b → Descends line a c → Descends line b c ⊎ Descends line c b
  pub decidable : (a b : ℕ) → Descends line a b ⊎ (Descends line a b → ⊥)
  pub ending : (a : ℕ) → a < length line → (rows : List ℕ) × Chain line a rows

-- the same as a test, for definitions that compute: go up at most n times
unfoldable pub climbs : ℕ → List ℕ → ℕ → ℕ → Bool
climbs zero line a b = a == b
climbs (suc n) line a b = cond (nat_lt b a) (climbs n line (slice_index line a) b) (a == b)

unfoldable pub descends_to : List ℕ → ℕ → ℕ → Bool
descends_to line a b = nat_lt a (length line) && climbs a line a b
