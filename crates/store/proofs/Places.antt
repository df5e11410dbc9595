-- Lists by place.
use Rattle.std.proofs.Common.{◌≡◌, ℕ, zero, suc, ◌<◌, ◌≤◌, List, [], ◌∷◌, map, length, get_or, take, set, Some, refl, ap, ◌∙◌, arith, length-take}
use Rattle.std.specs.List.{slice_get}
use Rattle.std.proofs.lemmas.List.{length-map, get_or-map, get_or-take}
use Rattle.std.proofs.lemmas.Option.{slice_get-get_or}

-- the front of a list, seen through f
pub length_front : {X Y : Type 0} (f : X → Y) (xs : List X) (n : ℕ) → n ≤ length xs → length (map f (take n xs)) ≡ n
length_front f xs n h = simp (length-map, length-take) (omega arith)

pub slice_get_front : {X Y : Type 0} (f : X → Y) (xs : List X) (n i : ℕ) (d : X) → i < n → n ≤ length xs → slice_get (map f (take n xs)) i ≡ Some (f (get_or xs i d))
slice_get_front f xs n i d h k =
    let l = length_front f xs n k in
    let lt : i < length (map f (take n xs)) = omega arith in
    let lu : i < length (take n xs) = simp length-take (omega arith) in
    slice_get-get_or (map f (take n xs)) i (f d) lt ∙ ap Some (get_or-map f (take n xs) i d (f d) lu ∙ ap f (get_or-take n xs i d h))

pub set_front : {X : Type 0} (xs : List X) (n i : ℕ) (y : X) → i < n → take n (set xs i y) ≡ set (take n xs) i y
set_front xs zero i y h = absurd (omega arith)
set_front [] (suc n) i y h = refl
set_front (x ∷ xs) (suc n) zero y h = refl
set_front (x ∷ xs) (suc n) (suc i) y h = ap (λ l. x ∷ l) (set_front xs n i y (omega arith))

pub slice_get-take : {X : Type 0} (xs : List X) (n i : ℕ) (d : X) → i < n → n ≤ length xs → slice_get (take n xs) i ≡ Some (get_or xs i d)
slice_get-take xs n i d h k =
    let l : i < length (take n xs) = simp length-take (omega arith) in
    slice_get-get_or (take n xs) i d l ∙ ap Some (get_or-take n xs i d h)
