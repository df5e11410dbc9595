use Rattle.std.proofs.Common.{◌≡◌, ℕ, Option}
use Rattle.tables.specs.Below.{least_below}
use Rattle.tables.specs.Listed.{listed}
use Rattle.tables.specs.Walks.{Computes}
use Rattle.tables.proofs.table.Table.least.Given as goal

abbrev pub invariant-loop-i : goal.invariant-loop-i
invariant-loop-i g l = (t : ℕ → Option ℕ) → Computes g.F.Fn l.f (listed l.self) t → l.best ≡ least_below t l.i
