use Rattle.std.proofs.Common.{ℕ, Option}
use Rattle.descent.specs.Nearest.{Computes}
use Rattle.descent.specs.Rows.{line_of}
use Rattle.descent.proofs.Search.{Passed}
use Rattle.descent.proofs.members.nearest.Given as goal

abbrev pub invariant-loop-m : goal.invariant-loop-m
invariant-loop-m g l = (m : ℕ → Option _) → Computes (goal.F-post g l.member) m → Passed (line_of l.line) m l.row l.at

abbrev pub decreases-loop-m : goal.decreases-loop-m
decreases-loop-m g l = l.at
