-- Searches over the numbers below a number.
use Rattle.std.specs.Prelude.{ℕ, zero, suc, ◌+◌, min, Bool, false, cond, ◌||◌, List, [], ◌∷◌, ◌++◌, length, Some, None, Option, nat_lt}

-- some number below n passes
unfoldable pub any_below : (ℕ → Bool) → ℕ → Bool
any_below f zero = false
any_below f (suc n) = any_below f n || f n

abbrev pub or_else : {X : Type 0} → Option X → Option X → Option X
or_else None b = b
or_else (Some x) b = Some x

-- the lowest number below n that passes
unfoldable pub first_below : (ℕ → Bool) → ℕ → Option ℕ
first_below f zero = None
first_below f (suc n) = or_else (first_below f n) (cond (f n) (Some n) None)

-- how many numbers below n pass
unfoldable pub count_below : (ℕ → Bool) → ℕ → ℕ
count_below f zero = 0
count_below f (suc n) = count_below f n + cond (f n) 1 0

-- the lesser of two places, where there are any
abbrev pub lesser : Option ℕ → Option ℕ → Option ℕ
lesser None b = b
lesser (Some p) None = Some p
lesser (Some p) (Some q) = Some (min p q)

-- the least of the places of the numbers below n
unfoldable pub least_below : (ℕ → Option ℕ) → ℕ → Option ℕ
least_below f zero = None
least_below f (suc n) = lesser (least_below f n) (f n)

-- one item more at the end, where there are fewer than room
abbrev pub added : {X : Type 0} → ℕ → List X → X → List X
added room xs x = cond (nat_lt (length xs) room) (xs ++ x ∷ []) xs

-- the items of 0 to n - 1 added in their order, while there is room
unfoldable pub pushed_below : {X : Type 0} → ℕ → (ℕ → X) → ℕ → List X → List X
pushed_below room f zero xs = xs
pushed_below room f (suc n) xs = added room (pushed_below room f n xs) (f n)

-- the items of 0 to n - 1
unfoldable pub tabulated : {X : Type 0} → (ℕ → X) → ℕ → List X
tabulated f zero = []
tabulated f (suc n) = tabulated f n ++ f n ∷ []
