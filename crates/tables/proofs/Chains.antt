-- Chains of iterators over a list are searches over the numbers of its places.
use Rattle.std.proofs.Common.{◌≡◌, ℕ, zero, suc, ◌+◌, Bool, true, false, cond, ◌||◌, List, [], ◌∷◌, length, take, Some, None, Option, sym, refl, ap, ◌∙◌, arith}
use Rattle.std.proofs.Math.Bool.{or_assoc, or-false}
use Rattle.std.proofs.Math.Seq.{take-length}
use Rattle.std.specs.Prelude.{position, count_by}
use Rattle.std.specs.List.{list_any, slice_get, position_from}
use Rattle.std.proofs.lemmas.Iterator.Adapters.{position_from-zero}
use Rattle.std.proofs.lemmas.List.Sums.{sum_by-cons}
use Rattle.tables.specs.Below.{any_below, first_below, count_below, or_else}
use Rattle.tables.specs.Items.{holds}

-- a search from 0 on is a look at 0 and a search from 1 on

any_shift : (f : ℕ → Bool) (n : ℕ) → any_below f (suc n) ≡ f 0 || any_below (λ i. f (suc i)) n
unfolding any_below
any_shift f zero = sym (or-false (f 0))
any_shift f (suc n) = ap (λ b. b || f (suc n)) (any_shift f n) ∙ or_assoc (f 0) (any_below (λ i. f (suc i)) n) (f (suc n))

count_shift : (f : ℕ → Bool) (n : ℕ) → count_below f (suc n) ≡ cond (f 0) 1 0 + count_below (λ i. f (suc i)) n
unfolding count_below
count_shift f zero = omega arith
count_shift f (suc n) = omega (arith, count_shift f n)

-- one place further on
abbrev pub further : ℕ → Option ℕ → Option ℕ
further k None = None
further k (Some i) = Some (k + i)

first_later : (o : Option ℕ) (b : Bool) (n : ℕ) → or_else (further 1 o) (cond b (Some (suc n)) None) ≡ further 1 (or_else o (cond b (Some n) None))
first_later (Some x) b n = refl
first_later None true n = ap Some (omega arith)
first_later None false n = refl

first_choice : (a : Bool) (o p : Option ℕ) → or_else (cond a (Some 0) o) p ≡ cond a (Some 0) (or_else o p)
first_choice true o p = refl
first_choice false o p = refl

first_shift : (f : ℕ → Bool) (n : ℕ) → first_below f (suc n) ≡ cond (f 0) (Some 0) (further 1 (first_below (λ i. f (suc i)) n))
unfolding first_below
first_shift f zero = refl
first_shift f (suc n) =
    ap (λ o. or_else o (cond (f (suc n)) (Some (suc n)) None)) (first_shift f n)
    ∙ first_choice (f 0) (further 1 (first_below (λ i. f (suc i)) n)) (cond (f (suc n)) (Some (suc n)) None)
    ∙ ap (cond (f 0) (Some 0)) (first_later (first_below (λ i. f (suc i)) n) (f (suc n)) n)

further_twice : (k : ℕ) (a : Bool) (o : Option ℕ) → cond a (Some k) (further (k + 1) o) ≡ further k (cond a (Some 0) (further 1 o))
further_twice k true o = ap Some (omega arith)
further_twice k false None = refl
further_twice k false (Some i) = ap Some (omega arith)

further_none : (o : Option ℕ) → further 0 o ≡ o
further_none None = refl
further_none (Some i) = ap Some (omega arith)

module _ {X : Type 0} (p : X → Bool) where
  -- the item at place i passes
  abbrev pub passes : List X → ℕ → Bool
  passes xs i = holds (slice_get xs i) p

  any_empty : (n : ℕ) → false ≡ any_below (passes []) n
  unfolding any_below
  any_empty zero = refl
  any_empty (suc n) = ap (λ b. b || false) (any_empty n)

  -- `xs.iter().take(n).any(p)`
  pub any_take : (xs : List X) (n : ℕ) → list_any p (take n xs) ≡ any_below (passes xs) n
  unfolding any_below
  any_take xs zero = refl
  any_take [] (suc n) = any_empty (suc n)
  any_take (x ∷ xs) (suc n) = ap (λ b. p x || b) (any_take xs n) ∙ sym (any_shift (passes (x ∷ xs)) n)

  -- `xs.iter().any(p)`
  pub any_all : (xs : List X) → list_any p xs ≡ any_below (passes xs) (length xs)
  any_all xs = ap (list_any p) (sym (take-length xs)) ∙ any_take xs (length xs)

  count_empty : (n : ℕ) → 0 ≡ count_below (passes []) n
  unfolding count_below
  count_empty zero = refl
  count_empty (suc n) = omega (arith, count_empty n)

  -- `xs.iter().take(n).filter(p).count()`
  pub count_take : (xs : List X) (n : ℕ) → count_by p (take n xs) ≡ count_below (passes xs) n
  unfolding count_below
  count_take xs zero = refl
  count_take [] (suc n) = count_empty (suc n)
  count_take (x ∷ xs) (suc n) =
      sum_by-cons (λ y. cond (p y) 1 0) x (take n xs) ∙ ap (λ k. cond (p x) 1 0 + k) (count_take xs n) ∙ sym (count_shift (passes (x ∷ xs)) n)

  -- `xs.iter().filter(p).count()`
  pub count_all : (xs : List X) → count_by p xs ≡ count_below (passes xs) (length xs)
  count_all xs = ap (count_by p) (sym (take-length xs)) ∙ count_take xs (length xs)

  position_later : (k : ℕ) (xs : List X) → position_from p k xs ≡ further k (first_below (passes xs) (length xs))
  unfolding first_below
  position_later k [] = refl
  position_later k (x ∷ xs) =
      ap (cond (p x) (Some k)) (position_later (k + 1) xs)
      ∙ further_twice k (p x) (first_below (passes xs) (length xs))
      ∙ ap (further k) (sym (first_shift (passes (x ∷ xs)) (length xs)))

  -- `xs.iter().position(p)`
  pub position_all : (xs : List X) → position p xs ≡ first_below (passes xs) (length xs)
  position_all xs = position_from-zero p xs ∙ position_later 0 xs ∙ further_none _
