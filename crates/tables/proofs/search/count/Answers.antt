use Rattle.std.proofs.Common.{true, false, sym, arith}
use Rattle.tables.proofs.Found.{count_start, count_pass, count_fail}
use Rattle.tables.proofs.search.count.Goals as goal
use Rattle.tables.proofs.search.count.Goals.{then-passes, else-passes}

pub loop-i-init : goal.loop-i-init
loop-i-init g c = record { few = omega arith; is = λ t k. sym (count_start t) }

pub loop-i-preserved : goal.loop-i-preserved
loop-i-preserved g c =
    let few = c.loop-i.invariant.few in
    elim c.if-passes.branch [
      | then-passes w ↦ record {
        few = omega (arith, w.passed-is);
        is = λ t k. omega (arith, w.passed-is, c.loop-i.invariant.is t k, count_pass t c.loop-i.i (k c.loop-i.i true (omega arith) w.if-passes.ensures));
      }
      | else-passes w ↦ record {
        few = omega (arith, w.passed-is);
        is = λ t k. omega (arith, w.passed-is, c.loop-i.invariant.is t k, count_fail t c.loop-i.i (k c.loop-i.i false (omega arith) w.if-passes.ensures));
      }
    ]
