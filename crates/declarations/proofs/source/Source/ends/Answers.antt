use Rattle.std.proofs.Common.{◌+◌, length, ap, arith}
use Rattle.outline.specs.Contents.{contents}
use Rattle.tables.specs.Below.{tabulated}
use Rattle.tables.proofs.Laws.{few_listed}
use Rattle.declarations.specs.Resolved.{ends_of}
use Rattle.declarations.proofs.Growing.{ends_next, tabulated_more}
use Rattle.declarations.proofs.source.Source.ends.Goals as goal

pub loop-row-init : goal.loop-row-init
unfolding tabulated
loop-row-init c =
    let d = c.default.ensures in
    tabulated_more (ends_of c.args.self.now.text.now (contents c.args.self.now.outline.now)) 0 _ _ _ c.new-ends.ensures (λ i. record { first = record { lineage = d.0.0 i; number = d.0.1 i }; second = record { lineage = d.1.0 i; number = d.1.1 i } }) (omega arith) c.push.ensures

pub loop-row-preserved : goal.loop-row-preserved
loop-row-preserved c =
    let n = few_listed c.args.self.now.outline.now.relationships in
    let m = ap length c.as_slice-row-items.ensures in
    tabulated_more _ (c.loop-row.row-index + 1) _ _ _ c.loop-row.invariant
    (ends_next _ _ _ _ _ _ c.as_slice-row-items.ensures c.loop-row-test.true c.ends_of.ensures)
    (omega (arith, n, m, c.loop-row-test.true)) c.push-in-loop-row.ensures
