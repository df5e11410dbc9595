use Rattle.std.proofs.Common.{◌∙◌, ap, length, arith}
use Rattle.outline.specs.Contents.{contents}
use Rattle.tables.specs.Below.{tabulated}
use Rattle.tables.proofs.Laws.{few_listed}
use Rattle.declarations.proofs.Growing.{grows, parent_low, parent_next}
use Rattle.declarations.proofs.source.Source.line.Goals as goal

pub loop-i-init : goal.loop-i-init
unfolding tabulated
loop-i-init c = c.new-line.ensures

pub loop-i-preserved : goal.loop-i-preserved
loop-i-preserved c =
    let rows = c.as_slice-row-items.ensures ∙ c.rows.ensures in
    let p = parent_next _ _ _ _ _ _ _ _ rows c.loop-i-test.true c.parent.ensures c.unwrap_or.ensures in
    let h = parent_low c.args.self.now.text.now (contents c.args.self.now.outline.now) c.args.lineage c.loop-i.i in
    let n = few_listed c.rows.result.now in
    let m = ap length c.as_slice-row-items.ensures in
    grows _ _ _ _ _ _ c.loop-i.invariant p (omega (arith, p, h)) (omega (arith, n, m, c.loop-i-test.true)) c.add.ensures
