use Rattle.std.proofs.Common.{◌≡◌, ℕ, ◌+◌, ◌-◌, false, eqb, ◌∙◌, arith}
use Rattle.std.proofs.lemmas.Bool.Decides.{nat_tests}
use Rattle.cells.proofs.Digits.{bit_of_zero}
use Rattle.cells.proofs.Words.{only_words, one_bit, eqb_high}
use Rattle.cells.proofs.CellSet.only.Goals as goal

apart : (c d : ℕ) → (c ≡ d → ⊥) → false ≡ eqb c d
apart c d h = grind (arith, nat_tests)

pub returns-then-cell-lt64-clause-members : goal.returns-then-cell-lt64-clause-members
returns-then-cell-lt64-clause-members c =
    let n = c.args.cell in
    only_words _ n (λ k l. one_bit n c.if-cell-lt64.true k) (λ k l. bit_of_zero k ∙ apart n (64 + k) (λ e. omega arith))

pub returns-then-cell-lt128-clause-members : goal.returns-then-cell-lt128-clause-members
returns-then-cell-lt128-clause-members c =
    let n = c.args.cell in
    only_words _ n (λ k l. bit_of_zero k ∙ apart n k (λ e. omega arith)) (λ k l. one_bit (n - 64) (omega arith) k ∙ eqb_high n k (omega arith))
