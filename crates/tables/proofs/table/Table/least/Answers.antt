use Rattle.std.proofs.Common.{sym}
use Rattle.tables.proofs.Found.{least_start, least_next}
use Rattle.tables.proofs.Laws.{turn_item, turns}
use Rattle.tables.proofs.table.Table.least.Goals as goal

pub loop-i-init : goal.loop-i-init
loop-i-init g c = λ t k. sym (least_start t)

pub loop-i-preserved : goal.loop-i-preserved
loop-i-preserved g c =
    λ t k.
    least_next t c.loop-i.i c.loop-i.best c.f.result c.lesser_of-best.result (c.loop-i.invariant t k)
    (k c.loop-i.i c.x-item.result c.f.result (turn_item _ _ _ _ c.as_slice-x-items.ensures c.loop-i-test.true c.x-item.is) c.f.ensures)
    c.lesser_of-best.ensures

pub returns : goal.returns
returns g c = λ t k. rw (← turns _ _ _ c.as_slice-x-items.ensures c.loop-i.auto.i-end c.loop-i-test.false) (c.loop-i.invariant t k)
