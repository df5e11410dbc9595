-- Laws of membership, for the proofs that cite sets of cells.
use Rattle.std.proofs.Common.{◌≡◌, ℕ, ◌+◌, ◌-◌, ◌<◌, ◌≤◌, Bool, false, ◌&&◌, ◌⊎◌, sym, refl, ap, ◌∙◌, inl, inr, ⊎_elim, arith}
use Rattle.std.proofs.lemmas.Bool.{cases_lt, lt-ltb}
use Rattle.cells.specs.declared.CellSet.{CellSet}
use Rattle.cells.specs.Members.{has, Words, gathered, none}
use Rattle.cells.proofs.Digits.{same_bits, bit_of_zero, digits_below, bit_digits}
use Rattle.cells.proofs.Words.{has_low, has_high, by_words, same_words}
pub use Rattle.cells.proofs.Digits.{counted_none, counted_more, counted_same, counted_add}
pub use Rattle.cells.proofs.Words.{has_past}

-- two sets with the same members are equal
pub same_sets : (s t : CellSet) → Words s → Words t → ((d : ℕ) → has s d ≡ has t d) → s ≡ t
same_sets s t u v same =
    let low : s.low ≡ t.low = same_bits 64 s.low t.low u.low_fits v.low_fits (λ k l. sym (has_low s k l) ∙ same k ∙ has_low t k l) in
    let high : s.high ≡ t.high = same_bits 64 s.high t.high u.high_fits v.high_fits (λ k l. sym (has_high s k l) ∙ same (64 + k) ∙ has_high t k l) in
    same_words s t low high

-- ---- the empty set

pub has_none : (d : ℕ) → has none d ≡ false
unfolding none
has_none = by_words none (λ d. false) (λ k l. bit_of_zero k) (λ k l. bit_of_zero k) (λ d g. refl)

pub words_none : Words none
unfolding none
words_none = record { low_fits = omega arith; high_fits = omega arith }

-- ---- the set of the cells that pass a test

pub has_gathered : (f : ℕ → Bool) (d : ℕ) → d < 128 → has (gathered f) d ≡ f d
unfolding gathered
has_gathered f d h =
    ⊎_elim (λ l. has_low (gathered f) d l ∙ bit_digits f 64 d ∙ ap (λ b. b && f d) (lt-ltb d 64 l))
    (λ g. let e : 64 + (d - 64) ≡ d = omega arith in
    ap (has (gathered f)) (sym e) ∙ has_high (gathered f) (d - 64) (omega arith) ∙ bit_digits (λ k. f (64 + k)) 64 (d - 64)
    ∙ ap (λ b. b && f (64 + (d - 64))) (lt-ltb (d - 64) 64 (omega arith)) ∙ ap f e)
    (cases_lt d 64)

pub words_gathered : (f : ℕ → Bool) → Words (gathered f)
unfolding gathered
words_gathered f = record { low_fits = digits_below f 64; high_fits = digits_below (λ k. f (64 + k)) 64 }

-- a set is the one gathered by its own test
pub is_gathered : (r : CellSet) (f : ℕ → Bool) → Words r → ((d : ℕ) → d < 128 → has r d ≡ f d) → r ≡ gathered f
is_gathered r f w told = same_sets r (gathered f) w (words_gathered f) (λ d. go d (cases_lt d 128))
  where
    go : (d : ℕ) → (d < 128) ⊎ (128 ≤ d) → has r d ≡ has (gathered f) d
    go d (inl l) = told d l ∙ sym (has_gathered f d l)
    go d (inr g) = has_past r d g ∙ sym (has_past (gathered f) d g)
