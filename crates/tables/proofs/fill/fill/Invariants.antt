use Rattle.std.proofs.Common.{◌≡◌, ℕ}
use Rattle.tables.specs.Below.{pushed_below}
use Rattle.tables.specs.Listed.{listed}
use Rattle.tables.specs.Walks.{ComputesBelow}
use Rattle.tables.proofs.fill.fill.Given as goal

abbrev pub invariant-loop-i : goal.invariant-loop-i
invariant-loop-i g l = (t : ℕ → _) → ComputesBelow l.n (goal.F-post g l.item) t → listed l.out ≡ pushed_below g.row.N t l.i (listed l.initial.out)
