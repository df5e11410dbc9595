-- Whether a set meets the set of one cell, word by word.
use Rattle.std.proofs.Common.{◌≡◌, ℕ, ◌+◌, ◌^◌, ◌<◌, Bool, true, false, not, ◌&&◌, eqb, ltb, sym, refl, ap, ◌∙◌, ap₂, inl, inr, arith}
use lib.Bits.{bit_and}
use lib.Count.{count_trailing_zeros}
use Rattle.std.proofs.lemmas.Nat.{and_le_l}
use Rattle.std.proofs.lemmas.Bool.{cases_eq, cases_lt, and_parts, and_from, eqb-true, eq-eqb, ne_eqb, lt-ltb}
use Rattle.std.proofs.lemmas.Bool.Decides.{nat_tests}
use Rattle.cells.specs.declared.CellSet.{CellSet}
use Rattle.cells.specs.Members.{bit, has, none}
use Rattle.cells.proofs.Digits.{bit-bit_and, trailing_set}
use Rattle.cells.proofs.Laws.{has_none}
use Rattle.cells.proofs.Words.{has_low, has_high, has_past, by_words}

-- two words that meet have a digit in common, and others have none
common : (a b : ℕ) → a < 2 ^ 64 → (bit_and a b ≡ 0 → ⊥) → (k : ℕ) × (k < 64) × (bit a k ≡ true) × (bit b k ≡ true)
common a b fits ne =
    let below = and_le_l a b in
    let found = trailing_set 64 (bit_and a b) (omega arith) (omega arith) in
    let k = count_trailing_zeros 64 (bit_and a b) in
    let both = and_parts (bit a k) (bit b k) (sym (bit-bit_and k a b) ∙ found.0) in
    (k, found.1, both.0, both.1)

nothing : (a b k : ℕ) → bit_and a b ≡ 0 → (bit a k && bit b k) ≡ bit 0 k
nothing a b k e = sym (bit-bit_and k a b) ∙ ap (λ n. bit n k) e

module _ (s o : CellSet) (c : ℕ) (only : (d : ℕ) → has o d ≡ (eqb c d && ltb d 128)) where
  is_member : (d : ℕ) → has s d ≡ true → has o d ≡ true → has s c ≡ true
  is_member d h k = let e = eqb-true c d (and_parts (eqb c d) (ltb d 128) (sym (only d) ∙ k)).0 in ap (has s) e ∙ h

  none_common : bit_and s.low o.low ≡ 0 → bit_and s.high o.high ≡ 0 → (d : ℕ) → has none d ≡ (has s d && has o d)
  unfolding none
  none_common low high =
      by_words none (λ d. has s d && has o d)
      (λ k l. sym (ap₂ (λ x y. x && y) (has_low s k l) (has_low o k l) ∙ nothing s.low o.low k low))
      (λ k l. sym (ap₂ (λ x y. x && y) (has_high s k l) (has_high o k l) ∙ nothing s.high o.high k high))
      (λ d g. ap (λ x. x && has o d) (has_past s d g))

  pub low_told : s.low < 2 ^ 64 → (bit_and s.low o.low ≡ 0 → ⊥) → not (eqb (bit_and s.low o.low) 0) ≡ has s c
  low_told fits ne =
      let z = ne_eqb (bit_and s.low o.low) 0 ne in
      let f = common s.low o.low fits ne in
      let h = is_member f.0 (has_low s f.0 f.1 ∙ f.2) (has_low o f.0 f.1 ∙ f.3) in
      simp (z, h)

  absent : bit_and s.low o.low ≡ 0 → bit_and s.high o.high ≡ 0 → has s c ≡ false
  absent low high =
      elim (cases_lt c 128) [
        | inl l ↦
            let own : has o c ≡ true = only c ∙ and_from (eqb c c) (ltb c 128) (eq-eqb c c refl) (lt-ltb c 128 l) in
            out (has s c) (has o c) own (sym (none_common low high c) ∙ has_none c)
        | inr g ↦ has_past s c g
      ]
    where
      out : (x y : Bool) → y ≡ true → (x && y) ≡ false → x ≡ false
      out x y h e = grind (arith, nat_tests)

  pub high_told : s.high < 2 ^ 64 → bit_and s.low o.low ≡ 0 → not (eqb (bit_and s.high o.high) 0) ≡ has s c
  high_told fits low =
      elim (cases_eq (bit_and s.high o.high) 0) [
        | inl z ↦ let t = eq-eqb (bit_and s.high o.high) 0 z in let h = absent low z in simp (t, h)
        | inr ne ↦
            let t = ne_eqb (bit_and s.high o.high) 0 ne in
            let f = common s.high o.high fits ne in
            let h = is_member (64 + f.0) (has_high s f.0 f.1 ∙ f.2) (has_high o f.0 f.1 ∙ f.3) in
            simp (t, h)
      ]
