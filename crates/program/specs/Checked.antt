-- What the check of a text answers, and what it leaves.
use Rattle.std.specs.Prelude.{◌≡◌, ℕ, List, Ok, Err, Result}
use Rattle.program.specs.declared.program.Program.{Program}
use Rattle.program.specs.declared.refusal.Refusal.{Refusal}
use Rattle.program.specs.Verdict.{Accepted, Compiled}

-- with a scratch of n entries, where the place held p and then holds q
abbrev pub Checked : List ℕ → ℕ → Program → Result (Unit {0}) Refusal → Program → Type 0
Checked text n p (Ok _) q = Accepted text n q.code
Checked text n p (Err e) q = Compiled text n (Err e) × (q ≡ p)
