use Rattle.std.proofs.Common.{◌≡◌, ◌≤◌, ℕ, Bool}
use Rattle.tables.specs.Below.{count_below}
use Rattle.tables.specs.Walks.{ComputesBelow}
use Rattle.tables.proofs.search.count.Given as goal

abbrev pub invariant-loop-i : goal.invariant-loop-i
invariant-loop-i g l = record {
  few : l.passed ≤ l.i;
  is : (t : ℕ → Bool) → ComputesBelow l.n (goal.F-post g l.passes) t → l.passed ≡ count_below t l.i;
}
