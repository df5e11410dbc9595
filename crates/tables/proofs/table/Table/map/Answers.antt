use Rattle.std.proofs.Common.{sym, refl, [], ◌∙◌}
use Rattle.tables.proofs.Laws.{below_start, below_next, few_listed, fill_tabulated, turn_item, turns}
use Rattle.tables.proofs.table.Table.map.Goals as goal

pub loop-i-init : goal.loop-i-init
loop-i-init g c = λ t k. c.new-made.ensures ∙ sym (below_start _ t [])

pub loop-i-preserved : goal.loop-i-preserved
loop-i-preserved g c =
    λ t k.
    below_next t [] c.loop-i.i c.loop-i.made _ c.f.result (c.loop-i.invariant t k)
    (k c.loop-i.i c.x-item.result c.f.result (turn_item _ _ _ _ c.as_slice-x-items.ensures c.loop-i-test.true c.x-item.is) c.f.ensures)
    c.push.ensures

pub returns : goal.returns
returns g c =
    λ t k.
    fill_tabulated _ t _ [] _ refl (few_listed c.args.self.now)
    (rw (← turns _ _ _ c.as_slice-x-items.ensures c.loop-i.auto.i-end c.loop-i-test.false) (c.loop-i.invariant t k))
