use Rattle.std.proofs.Common.{◌≡◌, ◌∷◌}
use Rattle.descent.specs.Rows.{line_of}
use Rattle.outline.specs.Contents.{contents}
use Rattle.tables.specs.Below.{tabulated}
use Rattle.declarations.specs.Resolved.{parent_or_root}
use Rattle.declarations.proofs.source.Source.line.Given as goal

abbrev pub invariant-loop-i : goal.invariant-loop-i
invariant-loop-i l = line_of l.line ≡ 0 ∷ tabulated (parent_or_root l.self.text.now (contents l.self.outline.now) l.lineage) l.i
