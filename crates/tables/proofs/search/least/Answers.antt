use Rattle.std.proofs.Common.{sym, arith}
use Rattle.tables.proofs.Found.{least_start, least_next}
use Rattle.tables.proofs.search.least.Goals as goal

pub loop-i-init : goal.loop-i-init
loop-i-init g c = λ t k. sym (least_start t)

pub loop-i-preserved : goal.loop-i-preserved
loop-i-preserved g c = λ t k. least_next t c.loop-i.i c.loop-i.best c.place.result _ (c.loop-i.invariant t k) (k c.loop-i.i c.place.result (omega arith) c.place.ensures) c.lesser_of-best.ensures
