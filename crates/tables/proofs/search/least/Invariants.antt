use Rattle.std.proofs.Common.{◌≡◌, ℕ, Option}
use Rattle.tables.specs.Below.{least_below}
use Rattle.tables.specs.Walks.{ComputesBelow}
use Rattle.tables.proofs.search.least.Given as goal

abbrev pub invariant-loop-i : goal.invariant-loop-i
invariant-loop-i g l = (t : ℕ → Option ℕ) → ComputesBelow l.n (goal.F-post g l.place) t → l.best ≡ least_below t l.i
