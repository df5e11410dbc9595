use Rattle.std.proofs.Common.{◌≡◌}
use Rattle.outline.specs.Contents.{contents}
use Rattle.tables.specs.Below.{pushed_below, least_below}
use Rattle.tables.specs.Listed.{listed}
use Rattle.declarations.specs.Resolved.{declared}
use Rattle.typing.specs.Passing.{untyped, instruction_at}
use Rattle.typing.proofs.Judging.{Keeps}
use Rattle.typing.proofs.typer.Typer.judge.Given as goal

abbrev pub invariant-loop-i : goal.invariant-loop-i
invariant-loop-i l =
    Keeps l.self.source.text.now (contents l.self.source.outline.now) (declared l.self.declarations.now) l.scratch l.i
    × (l.least ≡ least_below (untyped l.self.source.text.now (contents l.self.source.outline.now) (declared l.self.declarations.now)) l.i)
    × (listed l.steps ≡ pushed_below 2048 (instruction_at l.self.source.text.now (contents l.self.source.outline.now) (declared l.self.declarations.now)) l.i (listed l.initial.steps))
