use Rattle.std.proofs.Common.{sym, arith}
use Rattle.tables.specs.Listed.{listed}
use Rattle.tables.proofs.Laws.{below_start, below_next}
use Rattle.tables.proofs.fill.fill.Goals as goal

pub loop-i-init : goal.loop-i-init
loop-i-init g c = λ t k. sym (below_start _ t _)

pub loop-i-preserved : goal.loop-i-preserved
loop-i-preserved g c = λ t k. below_next t (listed c.args.out.now) c.loop-i.i c.loop-i.out _ c.item.result (c.loop-i.invariant t k) (k c.loop-i.i c.item.result (omega arith) c.item.ensures) c.push.ensures
