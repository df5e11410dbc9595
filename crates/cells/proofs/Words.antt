-- Membership word by word: inner lemmas of the sets' calls.
use Rattle.std.proofs.Common.{◌≡◌, ℕ, ◌+◌, ◌-◌, ◌*◌, ◌%◌, ◌^◌, ◌<◌, ◌≤◌, Bool, true, false, not, ◌&&◌, eqb, ltb, sym, refl, ap, ◌∙◌, ap₂, ⊎_elim, arith}
use lib.Bits.{bit_and}
use lib.Count.{ones}
use Rattle.std.proofs.lemmas.Nat.{one_shl}
use Rattle.std.proofs.lemmas.Bool.{cases_lt, lt-ltb, le-ltb}
use Rattle.std.proofs.lemmas.Bool.Decides.{nat_tests}
use Rattle.cells.specs.declared.CellSet.{CellSet}
use Rattle.cells.specs.Members.{bit, has, Words, counted}
use Rattle.cells.proofs.Digits.{bit-bit_and, bit_not, bit_pow, counted_same, counted_add, ones_counted}

pub has_low : (s : CellSet) (k : ℕ) → k < 64 → has s k ≡ bit s.low k
unfolding has
has_low s k h = simp (lt-ltb k 64 h)

pub has_high : (s : CellSet) (k : ℕ) → k < 64 → has s (64 + k) ≡ bit s.high k
unfolding has
has_high s k h =
    let past : ltb (64 + k) 64 ≡ false = le-ltb (64 + k) 64 (omega arith) in
    let below : ltb (64 + k) 128 ≡ true = lt-ltb (64 + k) 128 (omega arith) in
    let place : (64 + k) - 64 ≡ k = omega arith in
    simp (past, below, place)

-- a number above 127 is in no set
pub has_past : (s : CellSet) (d : ℕ) → 128 ≤ d → has s d ≡ false
unfolding has
has_past s d h = simp (le-ltb d 64 (omega arith), le-ltb d 128 h)

-- a set's members, word by word
pub by_words : (r : CellSet) (f : ℕ → Bool) → ((k : ℕ) → k < 64 → bit r.low k ≡ f k) → ((k : ℕ) → k < 64 → bit r.high k ≡ f (64 + k))
    → ((d : ℕ) → 128 ≤ d → f d ≡ false) → (d : ℕ) → has r d ≡ f d
by_words r f low high past d =
    ⊎_elim (λ l. has_low r d l ∙ low d l)
    (λ g. ⊎_elim (λ l. let e : 64 + (d - 64) ≡ d = omega arith in ap (has r) (sym e) ∙ has_high r (d - 64) (omega arith) ∙ high (d - 64) (omega arith) ∙ ap f e)
    (λ g. has_past r d g ∙ sym (past d g)) (cases_lt d 128))
    (cases_lt d 64)

made : ℕ → ℕ → CellSet
made x y = record { low = x; high = y }

pub same_words : (s t : CellSet) → s.low ≡ t.low → s.high ≡ t.high → s ≡ t
unfolding made
same_words s t low high = ap₂ (λ x y. made x y) low high

-- ---- the sets that the calls make

-- the bit of cell c, below 64, in a word of 64 bits
pub one_bit : (c : ℕ) → c < 64 → (k : ℕ) → bit ((1 * 2 ^ c) % 2 ^ 64) k ≡ eqb c k
one_bit c h k = ap (λ x. bit x k) (one_shl c 64 h) ∙ bit_pow c k

-- a cell by its number alone
pub eqb_cell : (c d : ℕ) → d < 128 → eqb c d ≡ (eqb c d && ltb d 128)
eqb_cell c d l = grind (arith, nat_tests)

-- r is the set of cell c alone, where its words are
pub only_words : (r : CellSet) (c : ℕ) → ((k : ℕ) → k < 64 → bit r.low k ≡ eqb c k) → ((k : ℕ) → k < 64 → bit r.high k ≡ eqb c (64 + k))
    → (d : ℕ) → has r d ≡ (eqb c d && ltb d 128)
only_words r c low high = by_words r (λ d. eqb c d && ltb d 128) (λ k l. low k l ∙ eqb_cell c k (omega arith)) (λ k l. high k l ∙ eqb_cell c (64 + k) (omega arith)) past
  where
    past : (d : ℕ) → 128 ≤ d → (eqb c d && ltb d 128) ≡ false
    past d g = grind (arith, nat_tests)

-- r is s with cell c taken out, where its words are
pub without_words : (s r : CellSet) (c : ℕ) → ((k : ℕ) → k < 64 → bit r.low k ≡ (bit s.low k && not (eqb c k)))
    → ((k : ℕ) → k < 64 → bit r.high k ≡ (bit s.high k && not (eqb c (64 + k)))) → (d : ℕ) → has r d ≡ (has s d && not (eqb c d))
without_words s r c low high =
    by_words r (λ d. has s d && not (eqb c d))
    (λ k l. low k l ∙ ap (λ x. x && not (eqb c k)) (sym (has_low s k l)))
    (λ k l. high k l ∙ ap (λ x. x && not (eqb c (64 + k))) (sym (has_high s k l)))
    (λ d g. simp (has_past s d g) refl)

-- one word without the bits of another
pub bit_cleared : (a b : ℕ) (x : Bool) (k : ℕ) → k < 64 → b < 2 ^ 64 → bit b k ≡ x → bit (bit_and a ((2 ^ 64 - 1) - b)) k ≡ (bit a k && not x)
bit_cleared a b x k l fits e = bit-bit_and k a ((2 ^ 64 - 1) - b) ∙ ap (λ y. bit a k && y) (bit_not 64 b k fits l ∙ ap not e)

-- a cell above 63 by its place in the high word
pub eqb_high : (c k : ℕ) → 64 ≤ c → eqb (c - 64) k ≡ eqb c (64 + k)
eqb_high c k h = grind (arith, nat_tests)

-- the number of members, word by word
pub size_words : (s : CellSet) → Words s → ones s.low + ones s.high ≡ counted (has s) 128
size_words s w =
    ap₂ (λ x y. x + y)
    (ones_counted 64 s.low w.low_fits ∙ counted_same (bit s.low) (has s) 64 (λ k l. sym (has_low s k l)))
    (ones_counted 64 s.high w.high_fits ∙ counted_same (bit s.high) (λ k. has s (64 + k)) 64 (λ k l. sym (has_high s k l)))
    ∙ sym (counted_add (has s) 64 64)
