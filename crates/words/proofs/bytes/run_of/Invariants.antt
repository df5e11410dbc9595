use Rattle.std.proofs.Common.{ℕ, ◌<◌, true, slice_index}
use Rattle.words.proofs.bytes.run_of.Given as goal

abbrev pub invariant-loop-n : goal.invariant-loop-n
invariant-loop-n g l = (k : ℕ) → k < l.n → goal.F-post g l.passes (slice_index l.s k) true
