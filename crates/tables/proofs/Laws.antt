-- Laws of tables.
use Rattle.std.proofs.Common.{◌≡◌, ℕ, zero, suc, ◌+◌, ◌-◌, ◌<◌, ◌≤◌, Bool, true, false, cond, ltb, List, [], ◌∷◌, ◌++◌, length, get_or, take, set, Some, None, sym, refl, ap, ◌∙◌, add-one, arith, length-take}
use mathlib.Core.HLevel.{is_prop→PathP}
use native.Mathlib.Nat.{ℕ_set}
use native.Mathlib.Bridge.{le_prop}
use Rattle.std.specs.List.{slice_get}
use Rattle.std.proofs.lemmas.List.{take_more_set, take-take, take_at, length_push, get_or_push, get_or-take}
use Rattle.std.proofs.lemmas.Option.{slice_get-get_or, slice_get_past}
use Rattle.std.proofs.lemmas.Bool.{both_ways, lt-ltb, le-ltb, ltb-true, cond-true, cond-false}
use Rattle.tables.specs.declared.table.Table.{Table}
use Rattle.tables.specs.Listed.{newest, listed, pushed_where, pushed, shortened}
use Rattle.tables.specs.Below.{added, pushed_below, tabulated}

pub newest_push : {X : Type 0} (xs : List X) (x : X) → newest (xs ++ x ∷ []) ≡ Some x
newest_push xs x =
    let n = length_push xs x in
    let at : length xs ≡ length (xs ++ x ∷ []) - 1 = omega arith in
    slice_get-get_or (xs ++ x ∷ []) (length (xs ++ x ∷ []) - 1) x (omega arith) ∙ ap Some (get_or_push xs x x (length (xs ++ x ∷ []) - 1) at)

pub shorten_push : {X : Type 0} (xs : List X) (x : X) → take (length (xs ++ x ∷ []) - 1) (xs ++ x ∷ []) ≡ xs
shorten_push xs x =
    let n = length_push xs x in
    take_at xs (x ∷ []) (length (xs ++ x ∷ []) - 1) (omega arith)

module _ {T : Type 0} {N : ℕ} where
  -- tables with the same memory and length are equal
  pub table_same : (s t : Table T N) → s.items ≡ t.items → s.len ≡ t.len → s ≡ t
  table_same s t p q =
      λ i. record {
        items = p i;
        len = q i;
        whole = is_prop→PathP (λ j. length (p j) ≡ N) (λ j. ℕ_set _ _) s.whole t.whole i;
        few = is_prop→PathP (λ j. q j ≤ N) (λ j. le_prop) s.few t.few i;
      }

  pub length-listed : (t : Table T N) → length (listed t) ≡ t.len
  unfolding listed
  length-listed t = simp length-take (omega (arith, t.whole, t.few))

  pub few_listed : (t : Table T N) → length (listed t) ≤ N
  few_listed t = omega (arith, length-listed t, t.few)

  where_listed : (t : Table T N) (x : T) (b : Bool) (e : ltb t.len N ≡ b) → listed (pushed_where t x b e) ≡ cond b (listed t ++ x ∷ []) (listed t)
  unfolding listed
  where_listed t x true e = take_more_set t.items t.len x (omega (arith, ltb-true t.len N e, t.whole))
  where_listed t x false e = refl

  pub listed_pushed : (t : Table T N) (x : T) → listed (pushed t x) ≡ cond (ltb (length (listed t)) N) (listed t ++ x ∷ []) (listed t)
  unfolding pushed
  listed_pushed t x = rw (length-listed t) (where_listed t x (ltb t.len N) refl)

  pub listed_room : (t : Table T N) (x : T) → length (listed t) < N → listed (pushed t x) ≡ listed t ++ x ∷ []
  listed_room t x h = listed_pushed t x ∙ cond-true (ltb (length (listed t)) N) _ _ (lt-ltb _ _ h)

  pub listed_full : (t : Table T N) (x : T) → N ≤ length (listed t) → listed (pushed t x) ≡ listed t
  listed_full t x h = listed_pushed t x ∙ cond-false (ltb (length (listed t)) N) _ _ (le-ltb _ _ h)

  pub listed_shortened : (t : Table T N) → listed (shortened t) ≡ take (length (listed t) - 1) (listed t)
  unfolding listed shortened
  listed_shortened t =
      sym (take-take (t.len - 1) t.len t.items (omega arith))
      ∙ ap (λ (k : ℕ). take (k - 1) (take t.len t.items)) (sym (length-listed t))

  -- what a place holds, read from the memory
  pub listed_item : (t : Table T N) (i : ℕ) (d : T) → i < t.len → Some (get_or t.items i d) ≡ slice_get (listed t) i
  unfolding listed
  listed_item t i d h =
      let k : i < length (take t.len t.items) = omega (arith, length-listed t) in
      sym (slice_get-get_or (take t.len t.items) i d k ∙ ap Some (get_or-take t.len t.items i d h))

  pub listed_past : (t : Table T N) (i : ℕ) → t.len ≤ i → None ≡ slice_get (listed t) i
  listed_past t i h = sym (slice_get_past (listed t) i (omega (arith, length-listed t)))

  -- a table with the memory and the length of the pushed one is the pushed one
  where_room : (s t : Table T N) (x : T) (b : Bool) (e : ltb t.len N ≡ b) → t.len < N → s.items ≡ set t.items t.len x → s.len ≡ t.len + 1 → s ≡ pushed_where t x b e
  where_room s t x true e h p q = table_same s (pushed_where t x true e) p q
  where_room s t x false e h p q = absurd (both_ways _ e (lt-ltb _ _ h))

  where_full : (t : Table T N) (x : T) (b : Bool) (e : ltb t.len N ≡ b) → N ≤ t.len → t ≡ pushed_where t x b e
  where_full t x true e h = absurd (both_ways _ (le-ltb _ _ h) e)
  where_full t x false e h = refl

  pub pushed_room : (s t : Table T N) (x : T) → t.len < N → s.items ≡ set t.items t.len x → s.len ≡ t.len + 1 → s ≡ pushed t x
  unfolding pushed
  pushed_room s t x h p q = where_room s t x (ltb t.len N) refl h p q

  pub pushed_full : (t : Table T N) (x : T) → N ≤ t.len → t ≡ pushed t x
  unfolding pushed
  pushed_full t x h = where_full t x (ltb t.len N) refl h

  pub shortened_same : (s t : Table T N) → s.items ≡ t.items → s.len ≡ t.len - 1 → s ≡ shortened t
  unfolding shortened
  shortened_same s t p q = table_same s (shortened t) p q

-- Items added one after the other.

module _ {X : Type 0} (room : ℕ) (f : ℕ → X) (xs : List X) where
  pub below_start : pushed_below room f 0 xs ≡ xs
  unfolding pushed_below
  below_start = refl

  pub below_more : (n : ℕ) → pushed_below room f (n + 1) xs ≡ added room (pushed_below room f n xs) (f n)
  unfolding pushed_below
  below_more n = rw add-one

-- one turn of a loop that adds them to a table
pub below_next : {T : Type 0} {N : ℕ} (f : ℕ → T) (xs : List T) (n : ℕ) (before after : Table T N) (x : T) → listed before ≡ pushed_below N f n xs → x ≡ f n → after ≡ pushed before x → listed after ≡ pushed_below N f (n + 1) xs
below_next {N = N} f xs n before after x p q r =
    let m = below_more N f xs n in
    let k = listed_pushed before x in
    cc

pub length-tabulated : {X : Type 0} (f : ℕ → X) (n : ℕ) → length (tabulated f n) ≡ n
unfolding tabulated
length-tabulated f zero = refl
length-tabulated f (suc n) = omega (arith, length_push (tabulated f n) (f n), length-tabulated f n)

-- into an empty table with room for them, they are the items in their order
pub below_tabulated : {X : Type 0} (room : ℕ) (f : ℕ → X) (n : ℕ) → n ≤ room → pushed_below room f n [] ≡ tabulated f n
unfolding pushed_below tabulated
below_tabulated room f zero h = refl
below_tabulated room f (suc n) h =
    let e = below_tabulated room f n (omega arith) in
    let k : length (tabulated f n) < room = omega (arith, length-tabulated f n) in
    rw e (cond-true (ltb (length (tabulated f n)) room) _ _ (lt-ltb _ _ k))

pub fill_tabulated : {X : Type 0} (room : ℕ) (f : ℕ → X) (n : ℕ) (xs ys : List X) → xs ≡ [] → n ≤ room → ys ≡ pushed_below room f n xs → ys ≡ tabulated f n
fill_tabulated room f n xs ys e h p = p ∙ ap (pushed_below room f n) e ∙ below_tabulated room f n h

-- the item of a turn of a loop over a table's items
pub turn_item : {X : Type 0} (xs ys : List X) (i : ℕ) (x : X) → ys ≡ xs → i < length ys → x ≡ get_or ys i x → Some x ≡ slice_get xs i
turn_item xs ys i x e h g = ap Some g ∙ sym (slice_get-get_or ys i x h) ∙ ap (λ (zs : List _). slice_get zs i) e

-- a loop over a table's items ends at its length
pub turns : {X : Type 0} (xs ys : List X) (i : ℕ) → ys ≡ xs → i ≤ length ys → length ys ≤ i → i ≡ length xs
turns xs ys i e h g = omega (arith, h, g, ap length e)
