use Rattle.std.proofs.Common.{◌||◌, sym, ◌∙◌, ap₂, arith}
use Rattle.std.proofs.lemmas.Nat.{or_lt}
use Rattle.cells.specs.Members.{has}
use Rattle.cells.proofs.Digits.{bit-bit_or}
use Rattle.cells.proofs.Words.{by_words, has_low, has_high, has_past}
use Rattle.cells.proofs.CellSet.union.Goals as goal

pub returns : goal.returns
returns c =
    let s = c.args.self in
    let t = c.args.other in
    record {
      members = by_words _ (λ d. has s d || has t d)
          (λ k l. bit-bit_or k s.low t.low ∙ sym (ap₂ (λ x y. x || y) (has_low s k l) (has_low t k l)))
          (λ k l. bit-bit_or k s.high t.high ∙ sym (ap₂ (λ x y. x || y) (has_high s k l) (has_high t k l)))
          (λ d g. ap₂ (λ x y. x || y) (has_past s d g) (has_past t d g));
      words = record {
        low_fits = or_lt 64 s.low t.low (omega arith) (omega arith);
        high_fits = or_lt 64 s.high t.high (omega arith) (omega arith);
      };
    }
