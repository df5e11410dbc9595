use Rattle.std.proofs.Common.{◌≡◌, ℕ, ◌<◌, ◌≤◌, min, length, get_or, take, sym, ap, ◌∙◌, arith, length-take}
use Rattle.outline.specs.Contents.{contents}
use Rattle.tables.specs.Below.{pushed_below, least_below}
use Rattle.tables.specs.Listed.{listed}
use Rattle.tables.proofs.Found.{least_start, least_next}
use Rattle.tables.proofs.Laws.{below_start, below_next, few_listed, fill_tabulated}
use Rattle.values.proofs.Fitting.{are_lines}
use Rattle.declarations.specs.Resolved.{declared}
use Rattle.typing.specs.Passing.{node_at, ruling_at, untyped, instruction_at}
use Rattle.typing.proofs.Judging.{no_node, node_here, keeps_none, keeps_more, part_is, ruling_is, place_is, instruction_is}
use Rattle.typing.proofs.Faulting.{first_fault}
use Rattle.typing.proofs.TypesHold.{type_laws}
use Rattle.typing.proofs.typer.Typer.judge.Goals as goal

pub loop-i-init : goal.loop-i-init
loop-i-init c = (keeps_none _ _ _ _, sym (least_start _), sym (below_start _ _ _))

pub loop-i-preserved : goal.loop-i-preserved
loop-i-preserved c =
    let text = c.args.self.now.source.text.now in
    let k = contents c.args.self.now.source.outline.now in
    let d = declared c.args.self.now.declarations.now in
    let i = c.loop-i.i in
    let n = c.min-n.result in
    let nodes = c.as_slice-nodes.result.now in
    let v = get_or (take n nodes) i no_node in
    let at : v ≡ node_at k i = node_here text k d nodes n i no_node c.as_slice-nodes.ensures c.loop-i-test.true in
    let r = c.rule-ruling.result in
    let inv = c.loop-i.invariant in
    let room : i < length c.loop-i.scratch = omega (arith, c.min-n.ensures, c.loop-i-test.true, length-take n nodes) in
    let few : i ≤ length c.loop-i.scratch = omega arith in
    let left = c.part-left.ensures ∙ part_is text k d c.loop-i.scratch i v.left inv.0 few in
    let right = c.part-right.ensures ∙ part_is text k d c.loop-i.scratch i v.right inv.0 few in
    let is : r ≡ ruling_at text k d i = ruling_is text k d i v c.part-left.result c.part-right.result r at left right c.rule-ruling.ensures in (
      keeps_more text k d c.loop-i.scratch i c.encode.result r c.type_of.result inv.0 room is c.type_of.ensures c.encode.ensures,
      least_next _ i c.loop-i.least c.fault_place.result _ inv.1 (place_is text k d i v r c.fault_place.result at is c.fault_place.ensures) c.lesser_of-least.ensures,
      below_next _ (listed c.args.steps.now) i c.loop-i.steps _ c.instruction_for.result inv.2 (instruction_is text k d i v r c.instruction_for.result at is c.instruction_for.ensures) c.push.ensures,
    )

pub returns : goal.returns
returns c =
    let text = c.args.self.now.source.text.now in
    let k = contents c.args.self.now.source.outline.now in
    let d = declared c.args.self.now.declarations.now in
    let n = c.min-n.result in
    let nodes = c.as_slice-nodes.result.now in
    let end : c.loop-i.i ≡ n = omega (arith, c.min-n.ensures, c.loop-i-test.false, c.loop-i.auto.i-end, length-take n nodes) in
    let all : c.loop-i.i ≡ min (length k.nodes) (length c.args.scratch.now) =
    end ∙ c.min-n.ensures ∙ ap (λ (x : _). min (length x) (length c.args.scratch.now)) c.as_slice-nodes.ensures in
    let few : min (length k.nodes) (length c.args.scratch.now) ≤ 2048 = omega (arith, few_listed c.args.self.now.source.outline.now.nodes) in
    let listing = c.loop-i.invariant.2 ∙ ap (λ (m : ℕ). pushed_below 2048 (instruction_at text k d) m (listed c.args.steps.now)) all in
    let lines = are_lines c.args.self.now.declarations.now.lines in
    let first_one = c.refused_at.ensures ∙ c.loop-i.invariant.1 ∙ ap (least_below (untyped text k d)) all in
    record {
      first = first_one;
      kept = omega arith;
      added = listing;
      fresh = λ e. fill_tabulated 2048 (instruction_at text k d) _ (listed c.args.steps.now) _ e few listing;
      least = first_fault text k d lines _ _ (omega arith) first_one;
      laws = type_laws text k d lines;
    }
