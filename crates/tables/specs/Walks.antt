-- What a closure makes of a table's items, and of numbers.
use Rattle.std.specs.Prelude.{◌≡◌, ℕ, ◌<◌, List, Some}
use Rattle.std.specs.Fn.{Shared}
use Rattle.std.specs.List.{slice_get}

-- f may be called with each place and the item there
abbrev pub Callable : {F T R : Type 0} → Shared F (ℕ × (T × Unit {0})) R → F → List T → Type 0
Callable {T = T} g f xs = (i : ℕ) (x : T) → Some x ≡ slice_get xs i → g.pre f (i, (x, tt))

-- at each place i, of the item there, f gives t i
abbrev pub Computes : {F T R : Type 0} → Shared F (ℕ × (T × Unit {0})) R → F → List T → (ℕ → R) → Type 0
Computes {T = T} {R = R} g f xs t = (i : ℕ) (x : T) (r : R) → Some x ≡ slice_get xs i → g.post f (i, (x, tt)) r → r ≡ t i

-- `post i r` says that a call at i may answer r; each answer at a number below n is that of t
abbrev pub ComputesBelow : {R : Type 0} → ℕ → (ℕ → R → Type 0) → (ℕ → R) → Type 0
ComputesBelow {R} n post t = (i : ℕ) (r : R) → i < n → post i r → r ≡ t i
