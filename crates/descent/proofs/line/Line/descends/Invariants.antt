use Rattle.std.proofs.Common.{◌<◌}
use Rattle.descent.specs.Descent.{Descends}
use Rattle.descent.specs.Rows.{line_of}
use Rattle.descent.proofs.line.Line.descends.Given as goal

abbrev pub invariant-loop-at : goal.invariant-loop-at
invariant-loop-at l =
    (l.at < l.self.rows)
    × Descends (line_of l.self) l.row l.at
    × (Descends (line_of l.self) l.row l.to → Descends (line_of l.self) l.at l.to)

abbrev pub decreases-loop-at : goal.decreases-loop-at
decreases-loop-at l = l.at
