-- What a set of cells holds: one bit of its two words for each of the 128 cells.
use Rattle.std.specs.Prelude.{◌≡◌, ℕ, zero, suc, ◌+◌, ◌-◌, ◌/◌, ◌%◌, ◌^◌, ◌<◌, Bool, true, false, cond, List, Some, None, Option, ◌==◌, nat_lt, slice_index}
use Rattle.cells.specs.declared.CellSet.{CellSet}

-- binary digit k of n, from the lowest
unfoldable pub bit : ℕ → ℕ → Bool
bit n k = n / 2 ^ k % 2 == 1

-- whether cell d is a member: cells 0 to 63 lie in the low word, 64 to 127 in the high one; a number above 127 is no cell
unfoldable pub has : CellSet → ℕ → Bool
has s d = cond (nat_lt d 64) (bit s.low d) (cond (nat_lt d 128) (bit s.high (d - 64)) false)

-- both words fit 64 bits, as those of every set that code holds do
pub record Words (s : CellSet) : Type 0 where
  pub low_fits : s.low < 2 ^ 64
  pub high_fits : s.high < 2 ^ 64

-- the set without members
unfoldable pub none : CellSet
none = record { low = 0; high = 0 }

-- the number of k below n that pass a test
unfoldable pub counted : (ℕ → Bool) → ℕ → ℕ
counted f zero = zero
counted f (suc n) = counted f n + cond (f n) 1 0

-- the number whose digits below n are those that pass a test
unfoldable pub digits : (ℕ → Bool) → ℕ → ℕ
digits f zero = zero
digits f (suc n) = digits f n + cond (f n) (2 ^ n) 0

-- the set of the cells that pass a test
unfoldable pub gathered : (ℕ → Bool) → CellSet
gathered f = record { low = digits f 64; high = digits (λ k. f (64 + k)) 64 }

-- the least member, or none where the set has no member
abbrev pub Lowest : CellSet → Option ℕ → Type 0
Lowest s None = (d : ℕ) → has s d ≡ false
Lowest s (Some c) = (has s c ≡ true) × ((d : ℕ) → d < c → has s d ≡ false)

-- r holds exactly the new numbers of the members of s: each member c goes to the number that the table has for it,
-- and is dropped where that number is no cell
pub record Renumbered (s : CellSet) (table : List ℕ) (r : CellSet) : Type 0 where
  pub goes : (c : ℕ) → has s c ≡ true → slice_index table c < 128 → has r (slice_index table c) ≡ true
  pub comes : (d : ℕ) → has r d ≡ true → (c : ℕ) × (has s c ≡ true) × (slice_index table c ≡ d)
