-- The search upward for a member, over any line and any kind of member.
use Rattle.std.specs.Prelude.{◌≡◌, ℕ, zero, suc, ◌<◌, cond, List, length, Some, None, Option, ◌==◌, ◌≢◌, nat_lt, slice_index}
use Rattle.descent.specs.Descent.{Descends}

-- `post r o` says that a call at r may answer o; each answer, at a number that fits a byte, is that of m
abbrev pub Computes : {M : Type 0} → (ℕ → Option M → Type 0) → (ℕ → Option M) → Type 0
Computes {M} post m = (r : ℕ) (o : Option M) → r < 256 → post r o → o ≡ m r

-- `member r` is what row r has, if anything. Upward from a, f is the nearest row that has one, and it has m:
-- a descends to f, and the rows on the way up to it have none.
pub record Nearest {M : Type 0} (line : List ℕ) (member : ℕ → Option M) (a f : ℕ) (m : M) : Type 0 where
  pub upward : Descends line a f
  pub has : member f ≡ Some m
  pub between : (r : ℕ) → Descends line a r → Descends line r f → (r ≢ f) → member r ≡ None

-- no row upward from a has one
pub record Lacking {M : Type 0} (line : List ℕ) (member : ℕ → Option M) (a : ℕ) : Type 0 where
  pub none : (r : ℕ) → Descends line a r → member r ≡ None

-- what a search from a answers: the nearest row with its member, or nothing exactly where no row upward has one
abbrev pub Found : {M : Type 0} → List ℕ → (ℕ → Option M) → ℕ → Option (ℕ × M) → Type 0
Found line member a None = Lacking line member a
Found line member a (Some x) = Nearest line member a x.0 x.1

-- the same as a function, for definitions that compute: go up at most n times
abbrev pub here_or : {M : Type 0} → ℕ → Option M → Option (ℕ × M) → Option (ℕ × M)
here_or a None rest = rest
here_or a (Some m) rest = Some (a, m)

unfoldable pub climb : {M : Type 0} → ℕ → List ℕ → (ℕ → Option M) → ℕ → Option (ℕ × M)
climb zero line member a = here_or a (member a) None
climb (suc n) line member a = here_or a (member a) (cond (a == 0) None (climb n line member (slice_index line a)))

unfoldable pub nearest_up : {M : Type 0} → List ℕ → (ℕ → Option M) → ℕ → Option (ℕ × M)
nearest_up line member a = cond (nat_lt a (length line)) (climb a line member a) None
