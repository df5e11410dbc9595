use Rattle.std.proofs.Common.{◌≡◌, ℕ, Bool, None}
use Rattle.tables.specs.Below.{first_below}
use Rattle.tables.specs.Walks.{ComputesBelow}
use Rattle.tables.proofs.search.first.Given as goal

abbrev pub invariant-loop-i : goal.invariant-loop-i
invariant-loop-i g l = (t : ℕ → Bool) → ComputesBelow l.n (goal.F-post g l.passes) t → first_below t l.i ≡ None
