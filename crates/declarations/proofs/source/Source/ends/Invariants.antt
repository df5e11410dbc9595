use Rattle.std.proofs.Common.{◌≡◌, ◌+◌}
use Rattle.outline.specs.Contents.{contents}
use Rattle.tables.specs.Below.{tabulated}
use Rattle.tables.specs.Listed.{listed}
use Rattle.declarations.specs.Resolved.{ends_of}
use Rattle.declarations.proofs.source.Source.ends.Given as goal

abbrev pub invariant-loop-row : goal.invariant-loop-row
invariant-loop-row l = listed l.ends ≡ tabulated (ends_of l.self.text.now (contents l.self.outline.now)) (l.row-index + 1)
