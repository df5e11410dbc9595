use Rattle.std.proofs.Common.{◌+◌, eqb, sym, ◌∙◌, arith}
use Rattle.cells.proofs.Words.{without_words, bit_cleared, has_low, has_high, eqb_cell}
use Rattle.cells.proofs.CellSet.without.Goals as goal

pub returns-clause-members : goal.returns-clause-members
returns-clause-members c =
    let s = c.args.self in
    let n = c.args.cell in
    let o = c.only-low.result in
    let only = c.only-low.ensures.members in
    without_words s _ n
    (λ k l. bit_cleared s.low o.low (eqb n k) k l (omega arith) (sym (has_low o k l) ∙ only k ∙ sym (eqb_cell n k (omega arith))))
    (λ k l. bit_cleared s.high o.high (eqb n (64 + k)) k l (omega arith) (sym (has_high o k l) ∙ only (64 + k) ∙ sym (eqb_cell n (64 + k) (omega arith))))
