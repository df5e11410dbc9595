use Rattle.std.proofs.Common.{◌≡◌, ℕ, ◌+◌, ◌-◌, ◌<◌, ◌≤◌, false, sym, refl, ap, ◌∙◌, ⊎_elim, arith}
use lib.Count.{count_trailing_zeros, trailing_le}
use Rattle.std.proofs.lemmas.Bool.{cases_lt}
use Rattle.cells.specs.declared.CellSet.{CellSet}
use Rattle.cells.specs.Members.{bit, has}
use Rattle.cells.proofs.Digits.{trailing_below, trailing_set, bit_of_zero}
use Rattle.cells.proofs.Words.{has_low, has_high, by_words}
use Rattle.cells.proofs.CellSet.lowest.Goals as goal

pub returns-then-self-ne0 : goal.returns-then-self-ne0
returns-then-self-ne0 c =
    let n = c.args.self.low in
    let found = trailing_set 64 n (omega arith) (omega arith) in (
      has_low c.args.self (count_trailing_zeros 64 n) found.1 ∙ found.0,
      λ d l. has_low c.args.self d (omega arith) ∙ trailing_below 64 n d l,
    )

-- below the lowest member of the high word, where the low word is zero
before : (s : CellSet) (t : ℕ) → s.low ≡ 0 → t ≤ 64 → ((k : ℕ) → k < t → bit s.high k ≡ false) → (d : ℕ) → d < 64 + t → has s d ≡ false
before s t none few high d l =
    ⊎_elim (λ k. has_low s d k ∙ ap (λ n. bit n d) none ∙ bit_of_zero d)
    (λ g. let e : 64 + (d - 64) ≡ d = omega arith in ap (has s) (sym e) ∙ has_high s (d - 64) (omega arith) ∙ high (d - 64) (omega arith))
    (cases_lt d 64)

pub returns-then-self-ne0-2 : goal.returns-then-self-ne0-2
returns-then-self-ne0-2 c =
    let n = c.args.self.high in
    let found = trailing_set 64 n (omega arith) (omega arith) in (
      has_high c.args.self (count_trailing_zeros 64 n) found.1 ∙ found.0,
      before c.args.self (count_trailing_zeros 64 n) c.if-self-ne0.false (trailing_le 64 n) (trailing_below 64 n),
    )

pub returns-else-self-ne0-2 : goal.returns-else-self-ne0-2
returns-else-self-ne0-2 c =
    by_words c.args.self (λ d. false)
    (λ k l. ap (λ n. bit n k) c.if-self-ne0.false ∙ bit_of_zero k)
    (λ k l. ap (λ n. bit n k) c.if-self-ne0-2.false ∙ bit_of_zero k)
    (λ d g. refl)
