use Rattle.std.proofs.Common.{◌≡◌, ℕ, Bool, false}
use Rattle.tables.specs.Below.{any_below}
use Rattle.tables.specs.Walks.{ComputesBelow}
use Rattle.tables.proofs.search.any.Given as goal

abbrev pub invariant-loop-i : goal.invariant-loop-i
invariant-loop-i g l = (t : ℕ → Bool) → ComputesBelow l.n (goal.F-post g l.passes) t → any_below t l.i ≡ false
