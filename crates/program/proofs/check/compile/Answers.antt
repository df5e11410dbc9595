use Rattle.std.proofs.Common.{◌≡◌, ℕ, ◌≤◌, min, List, length, Err, ap, ◌∙◌, arith}
use Rattle.outline.specs.declared.outlining.Unlisted.{Unlisted}
use Rattle.outline.specs.declared.outlining.Unlisted.TheVariants.{Text, Limit}
use Rattle.outline.specs.Contents.{contents}
use Rattle.outline.specs.Outlined.{Outlined}
use Rattle.declarations.specs.Resolved.{declared}
use Rattle.tables.specs.Below.{tabulated}
use Rattle.tables.specs.Listed.{listed}
use Rattle.typing.specs.Passing.{instruction_at}
use Rattle.program.specs.Model.{model, model_of}
use Rattle.program.specs.Verdict.{Compiled}
use Rattle.program.specs.declared.refusal.Refusal.TheVariants.{Unlisted as NoTables}
use Rattle.program.proofs.Judging.{failed, too_large, scratch_small, faulty, mistyped, accepted}
use Rattle.program.proofs.check.compile.Goals as goal

unlisted : (text : List ℕ) (n : ℕ) (u : Unlisted) → Outlined text (Err u) → Compiled text n (Err (NoTables u))
unlisted text n (Text t) h = h
unlisted text n (Limit l) h = too_large n h

pub returns-in_err-outline : goal.returns-in_err-outline
returns-in_err-outline c = rw (failed c.from_residual.result c.from_residual.ensures.1) (unlisted _ _ _ c.in_err-outline.ensures)

pub returns-then-scratch-len : goal.returns-then-scratch-len
returns-then-scratch-len c =
    let e = c.len.ensures in
    let t = c.if-scratch-len.true in
    scratch_small _ c.in_ok-outline.ensures (omega (arith, e, t))

pub returns-in_err-judge_declarations : goal.returns-in_err-judge_declarations
returns-in_err-judge_declarations c =
    let e = c.len.ensures in
    let t = c.if-scratch-len.false in
    rw (failed c.from_residual-in_err-judge_declarations.result c.from_residual-in_err-judge_declarations.ensures.1)
    (faulty _ c.in_ok-outline.ensures (declared c.resolve-declarations.result) _ (omega (arith, e, t)) c.resolve-declarations.ensures
    c.in_err-judge_declarations.ensures.same)

pub returns-in_err-judge : goal.returns-in_err-judge
returns-in_err-judge c =
    let e = c.len.ensures in
    let t = c.if-scratch-len.false in
    rw (failed c.from_residual-in_err-judge.result c.from_residual-in_err-judge.ensures.1)
    (mistyped _ c.in_ok-outline.ensures (declared c.resolve-declarations.result) _ (omega (arith, e, t)) c.resolve-declarations.ensures
    c.in_ok-judge_declarations.ensures.same c.in_err-judge.ensures.first)

pub returns : goal.returns
unfolding model model_of
returns c =
    let e = c.len.ensures in
    let t = c.if-scratch-len.false in
    let text = c.args.text.now in
    let o = c.in_ok-outline.outline in
    let K = contents o in
    let d = declared c.resolve-declarations.result in
    let r = c.resolve-declarations.ensures in
    let few : length K.nodes ≤ length c.args.scratch.now = omega (arith, e, t) in
    let n : min (length K.nodes) (length c.args.scratch.now) ≡ length K.nodes = omega arith in
    let nodes = c.judge.ensures.fresh c.new-nodes.ensures in
    accepted _ c.in_ok-outline.ensures d _ few r c.in_ok-judge_declarations.ensures.same c.in_ok-judge.ensures.first
    (λ i. record {
      declared = r i;
      owners = c.field_owners-owners.ensures i;
      dispatches = c.method_dispatches-dispatches.ensures i;
      variables = c.variable_methods-variables.ensures i;
      nodes = (nodes ∙ ap (tabulated (instruction_at text K d)) n ∙ ap (λ y. tabulated (instruction_at text K y) (length K.nodes)) r) i;
      blocks = listed o.blocks;
      main = c.first_called-main.ensures i;
    })
