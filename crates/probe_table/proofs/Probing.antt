-- Rows in places: what is held, what a change of one place leaves, and that rows stay reached.
use Rattle.std.proofs.Common.{◌≡◌, ℕ, zero, suc, ◌+◌, ◌-◌, ◌*◌, ◌%◌, ◌<◌, ◌≤◌, Bool, true, false, cond, ◌⊎◌, List, [], ◌∷◌, ◌++◌, length, take, drop, set, replicate, Some, None, sym, refl, ap, ◌∙◌, subst, inl, inr, arith, length-append}
use Rattle.std.specs.Prelude.{not, map, Option, IsSome}
use Rattle.std.specs.List.{find, range_with_len, filter_map, cons_option}
use Rattle.std.specs.Option.{option_map}
use Rattle.std.proofs.Common.{below_more}
use lib.Seq.{split_at, set_split}
use Rattle.std.proofs.lemmas.List.{append-nil, get_or-set_same, get_or-set_other, take_more, take_all}
use Rattle.std.proofs.lemmas.Bool.{not-false, not-true, both_ways, cases_lt, cases_eq, and_parts}
use Rattle.std.proofs.lemmas.Nat.{mod_below}
use Rattle.pairs.specs.declared.row.Row.{Row}
use Rattle.probe_table.specs.declared.place.Place.{Place}
use Rattle.probe_table.specs.declared.place.Place.TheVariants.{Free, Dropped, Held}
use Rattle.pairs.specs.Rows.{in_force, apart, small, all_small, Small}
use Rattle.probe_table.specs.Probing.{held, used, is_free, is_held, holds, place_at, start, along, Reached, First, FirstAt, Located, Open, Same, ends, row_in}
use Rattle.pairs.specs.Changes.{Added}
use Rattle.pairs.proofs.Rows.{joins, place_of, alike_parts, alike_self, in_force_nil, in_force_cons, in_force_here, in_force_more, all_small_more, apart_less, small_row, none_left}
use Rattle.pairs.proofs.Changed.{Grown, Gone, grown, gone}

-- ---- what is held

pub held_nil : held [] ≡ []
unfolding held
held_nil = refl

pub held_append : (xs ys : List Place) → held (xs ++ ys) ≡ held xs ++ held ys
unfolding held
held_append [] ys = refl
held_append (Free ∷ xs) ys = held_append xs ys
held_append (Dropped ∷ xs) ys = held_append xs ys
held_append (Held row ∷ xs) ys = ap (λ rows. row ∷ rows) (held_append xs ys)

pub row_in_held : (x : Place) (row : Row) → row_in x ≡ Some row → x ≡ Held row
row_in_held Free row h = let z : ◌≡◌ {A = ℕ} 0 1 = cc in absurd (omega arith)
row_in_held Dropped row h = let z : ◌≡◌ {A = ℕ} 0 1 = cc in absurd (omega arith)
row_in_held (Held other) row h = let same : other ≡ row = cc in ap Held same

pub no_row_in : (x : Place) (o : Option Row) → o ≡ row_in x → ((row : Row) → o ≡ Some row → ⊥) → is_held x ≡ false
no_row_in Free o e h = refl
no_row_in Dropped o e h = refl
no_row_in (Held row) o e h = absurd (h row e)

-- what the row of a place tells
abbrev pub told_in : {A : Type 0} → (Row → Option A) → Place → Option A
told_in told Free = None
told_in told Dropped = None
told_in told (Held row) = told row

pub told_held : {A : Type 0} (told : Row → Option A) (places : List Place) → filter_map (told_in told) places ≡ filter_map told (held places)
unfolding held
told_held told [] = refl
told_held told (Free ∷ places) = told_held told places
told_held told (Dropped ∷ places) = told_held told places
told_held told (Held row ∷ places) = ap (cons_option (told row)) (told_held told places)

held_vacant : (x : Place) (ys : List Place) → is_held x ≡ false → held (x ∷ ys) ≡ held ys
unfolding held
held_vacant Free ys h = refl
held_vacant Dropped ys h = refl
held_vacant (Held row) ys h = absurd (both_ways true h refl)

held_row : (row : Row) (ys : List Place) → held (Held row ∷ ys) ≡ row ∷ held ys
unfolding held
held_row row ys = refl

-- the rows around a place, by whether it holds one, as it is and as it is set
module _ (places : List Place) (p : ℕ) (l : p < length places) where
  pub held_around : (row : Row) → place_at places p ≡ Held row → held places ≡ held (take p places) ++ row ∷ held (drop (suc p) places)
  held_around row e =
      ap held (split_at places p Free l ∙ ap (λ x. take p places ++ x ∷ drop (suc p) places) e)
      ∙ held_append (take p places) (Held row ∷ drop (suc p) places)
      ∙ ap (λ rows. held (take p places) ++ rows) (held_row row (drop (suc p) places))

  pub held_between : is_held (place_at places p) ≡ false → held places ≡ held (take p places) ++ held (drop (suc p) places)
  held_between e =
      ap held (split_at places p Free l)
      ∙ held_append (take p places) (place_at places p ∷ drop (suc p) places)
      ∙ ap (λ rows. held (take p places) ++ rows) (held_vacant (place_at places p) (drop (suc p) places) e)

  pub held_set_row : (row : Row) → held (set places p (Held row)) ≡ held (take p places) ++ row ∷ held (drop (suc p) places)
  held_set_row row =
      ap held (set_split places p (Held row) l)
      ∙ held_append (take p places) (Held row ∷ drop (suc p) places)
      ∙ ap (λ rows. held (take p places) ++ rows) (held_row row (drop (suc p) places))

  pub held_set_dropped : held (set places p Dropped) ≡ held (take p places) ++ held (drop (suc p) places)
  held_set_dropped =
      ap held (set_split places p Dropped l)
      ∙ held_append (take p places) (Dropped ∷ drop (suc p) places)
      ∙ ap (λ rows. held (take p places) ++ rows) (held_vacant Dropped (drop (suc p) places) refl)

  -- one row more, in a place that holds none
  pub grown_place : (row : Row) → is_held (place_at places p) ≡ false → place_of (held places) row ≡ None → apart (held places) ≡ true → all_small (held places) ≡ true → Small row
      → Grown (held places) row (held (set places p (Held row)))
  grown_place row e absent h k s =
      let b = held_between e in
      subst (λ x. Grown x row (held (set places p (Held row)))) (sym b) (subst (λ x. Grown (held (take p places) ++ held (drop (suc p) places)) row x) (sym (held_set_row row))
      (grown (held (take p places)) (held (drop (suc p) places)) row (ap (λ x. place_of x row) (sym b) ∙ absent) (ap apart (sym b) ∙ h) (ap all_small (sym b) ∙ k) s))

  -- the row of a place dropped
  pub gone_place : (row : Row) → place_at places p ≡ Held row → apart (held places) ≡ true → all_small (held places) ≡ true → Gone (held places) row (held (set places p Dropped))
  gone_place row e h k =
      let b = held_around row e in
      subst (λ x. Gone x row (held (set places p Dropped))) (sym b) (subst (λ x. Gone (held (take p places) ++ row ∷ held (drop (suc p) places)) row x) (sym held_set_dropped)
      (gone (held (take p places)) (held (drop (suc p) places)) row (ap apart (sym b) ∙ h) (ap all_small (sym b) ∙ k)))

  -- the row of a place is in force
  pub in_force_place : (row : Row) → place_at places p ≡ Held row → apart (held places) ≡ true → (r f t : ℕ) → joins row r f t ≡ true
      → in_force (held places) r f t ≡ Some row.instance
  in_force_place row e h r f t j =
      let b = held_around row e in
      ap (λ x. in_force x r f t) b ∙ in_force_here (held (take p places)) (held (drop (suc p) places)) row (ap apart (sym b) ∙ h) r f t j

-- what no place holds is not in force
pub in_force_none : (places : List Place) (r f t : ℕ) → ((p : ℕ) → p < length places → holds (place_at places p) r f t ≡ false) → in_force (held places) r f t ≡ None
unfolding held
in_force_none [] r f t h = in_force_nil r f t
in_force_none (Free ∷ places) r f t h = in_force_none places r f t (λ p l. h (suc p) (omega arith))
in_force_none (Dropped ∷ places) r f t h = in_force_none places r f t (λ p l. h (suc p) (omega arith))
in_force_none (Held row ∷ places) r f t h =
    in_force_cons row (held places) r f t ∙ ap (λ b. cond b (Some row.instance) (in_force (held places) r f t)) (h zero (omega arith))
    ∙ in_force_none places r f t (λ p l. h (suc p) (omega arith))

-- where every place holds a row there are as many rows as places
pub held_full : (places : List Place) → ((p : ℕ) → p < length places → is_held (place_at places p) ≡ true) → length (held places) ≡ length places
unfolding held
held_full [] h = refl
held_full (Free ∷ places) h = absurd (both_ways false refl (h zero (omega arith)))
held_full (Dropped ∷ places) h = absurd (both_ways false refl (h zero (omega arith)))
held_full (Held row ∷ places) h = ap suc (held_full places (λ p l. h (suc p) (omega arith)))

-- ---- the rows of the places so far

pub held_next_row : (places : List Place) (p : ℕ) (row : Row) → p < length places → place_at places p ≡ Held row → held (take (p + 1) places) ≡ held (take p places) ++ row ∷ []
held_next_row places p row l e =
    ap held (take_more places p Free l ∙ ap (λ x. take p places ++ x ∷ []) e) ∙ held_append (take p places) (Held row ∷ [])
    ∙ ap (λ rows. held (take p places) ++ rows) (held_row row [] ∙ ap (λ rows. row ∷ rows) held_nil)

pub held_next_none : (places : List Place) (p : ℕ) → p < length places → is_held (place_at places p) ≡ false → held (take (p + 1) places) ≡ held (take p places)
held_next_none places p l e =
    ap held (take_more places p Free l) ∙ held_append (take p places) (place_at places p ∷ [])
    ∙ ap (λ rows. held (take p places) ++ rows) (held_vacant (place_at places p) [] e ∙ held_nil)
    ∙ append-nil (held (take p places))

pub held_all : (places : List Place) (p : ℕ) → length places ≤ p → held (take p places) ≡ held places
held_all places p l = ap held (take_all p places l)

-- a row that is held, by the rows before it: it is small, and none of them has its relationship and cells
pub record Next (places : List Place) (p : ℕ) (row : Row) : Type 0 where
  pub fit : Small row
  pub absent : place_of (held (take p places)) row ≡ None
  pub fewer : length (held (take p places)) < length (held places)

pub next_row : (places : List Place) (p : ℕ) (row : Row) → p < length places → place_at places p ≡ Held row → apart (held places) ≡ true → all_small (held places) ≡ true → Next places p row
next_row places p row l e h k =
    let us = held (take p places) in
    let vs = held (drop (suc p) places) in
    let b : held places ≡ us ++ row ∷ vs = held_around places p l row e in
    let n : length (held places) ≡ length (us ++ row ∷ vs) = ap length b in
    record {
      fit = small_row row (and_parts (small row) _ (sym (all_small_more us vs row) ∙ (ap all_small (sym b) ∙ k))).0;
      absent = none_left us vs row.relationship row.from row.to (apart_less us vs row (ap apart (sym b) ∙ h)).0;
      fewer = omega (arith, length-append us (row ∷ vs));
    }

-- ---- the same rows in other places

pub same_refl : (rows : List Row) → Same rows rows
same_refl rows = record { found = λ r f t. refl; count = refl }

pub same_nil : (rows : List Row) → rows ≡ [] → Same (held []) rows
same_nil rows e = subst (λ x. Same (held []) x) (held_nil ∙ sym e) (same_refl (held []))

pub same_more : (us xs ys : List Row) (row : Row) → Same us xs → place_of us row ≡ None → Added xs row ys → Same (us ++ row ∷ []) ys
same_more us xs ys row s absent a =
    let e : us ++ [] ≡ us = append-nil us in
    record {
      found = λ r f t.
          a.found r f t ∙ ap (cond (joins row r f t) (Some row.instance)) (s.found r f t ∙ ap (λ x. in_force x r f t) (sym e))
          ∙ sym (in_force_more us [] row (ap (λ x. place_of x row) e ∙ absent) r f t);
      count = a.count ∙ ap (λ n. n + 1) s.count ∙ simp length-append (omega arith);
    }

pub same_added : (us xs ys : List Row) (row : Row) → Same us xs → Added xs row ys → Added us row ys
same_added us xs ys row s a =
    record {
      found = λ r f t. a.found r f t ∙ ap (cond (joins row r f t) (Some row.instance)) (s.found r f t);
      count = a.count ∙ ap (λ n. n + 1) s.count;
    }

-- ---- free places

pub held_free : (n : ℕ) → held (replicate n Free) ≡ []
unfolding held
held_free zero = refl
held_free (suc n) = held_free n

free_at : (n p : ℕ) → place_at (replicate n Free) p ≡ Free
free_at zero p = refl
free_at (suc n) zero = refl
free_at (suc n) (suc p) = free_at n p

pub reached_free : (n : ℕ) → Reached (replicate n Free)
reached_free n w h =
    absurd (both_ways _ (ap (λ x. holds x w.relationship w.from w.to) (free_at n (along w.relationship w.from w.to w.step))) h)

-- ---- how many places are used

pub used_free : (n : ℕ) → used (replicate n Free) ≡ 0
unfolding used
used_free zero = refl
used_free (suc n) = omega (arith, used_free n)

one_more : (x : Place) → cond (is_free x) 0 1 ≤ 1
one_more Free = omega arith
one_more Dropped = omega arith
one_more (Held row) = omega arith

-- a change of one place takes at most one more into use, and none where that place was in use
pub used_set : (places : List Place) (p : ℕ) (x : Place) → used (set places p x) ≤ used places + 1
unfolding used
used_set [] p x = omega arith
used_set (y ∷ places) zero x = omega (arith, one_more x)
used_set (y ∷ places) (suc p) x = omega (arith, used_set places p x)

pub used_reset : (places : List Place) (p : ℕ) (x : Place) → p < length places → is_free (place_at places p) ≡ false → used (set places p x) ≤ used places
unfolding used
used_reset [] p x l h = absurd (omega arith)
used_reset (y ∷ places) zero x l h = rw h (omega (arith, one_more x))
used_reset (y ∷ places) (suc p) x l h = omega (arith, used_reset places p x (omega arith) h)

-- ---- the way of a search

pub along_below : (r f t k : ℕ) → along r f t k < 512
unfolding along
along_below r f t k = mod_below (start r f t + k) 512 (omega arith)

start_below : (r f t : ℕ) → start r f t < 512
unfolding start
start_below r f t = mod_below (r * 29 + f * 67 + t * 131) 512 (omega arith)

-- it comes to every place, and to none twice
pub along_every : (r f t p : ℕ) → p < 512 → (k : ℕ) × (k < 512) × (along r f t k ≡ p)
unfolding along
along_every r f t p l =
    let s = start_below r f t in
    ((p + 512 - start r f t) % 512, mod_below (p + 512 - start r f t) 512 (omega arith), round (start r f t) s)
  where
    round : (s : ℕ) → s < 512 → (s + (p + 512 - s) % 512) % 512 ≡ p
    round s h = omega arith

pub along_once : (r f t j k : ℕ) → j < 512 → k < 512 → along r f t j ≡ along r f t k → j ≡ k
unfolding along
along_once r f t j k h l e = omega arith

pub held_not_free : (x : Place) → is_held x ≡ true → is_free x ≡ false
held_not_free Free h = absurd (both_ways false refl h)
held_not_free Dropped h = refl
held_not_free (Held row) h = refl

-- a way on which every place holds a row
pub way_full : (places : List Place) → length places ≡ 512 → (r f t : ℕ) → ((i : ℕ) → i < 512 → is_held (place_at places (along r f t i)) ≡ true) → length (held places) ≡ 512
way_full places whole r f t h = held_full places (λ p l. go p (along_every r f t p (omega arith))) ∙ whole
  where
    go : (p : ℕ) → (j : ℕ) × (j < 512) × (along r f t j ≡ p) → is_held (place_at places p) ≡ true
    go p x = ap (λ q. is_held (place_at places q)) (sym x.2) ∙ h x.0 x.1

-- a row by the three numbers that it joins
pub row_is : (row : Row) (r f t : ℕ) → joins row r f t ≡ true → row ≡ record { relationship = r; from = f; to = t; instance = row.instance }
row_is row r f t h =
    let p = alike_parts row.relationship row.from row.to r f t h in
    λ i. record { relationship = p.0 i; from = p.1 i; to = p.2 i; instance = row.instance }

-- ---- a search by a test

-- the place at a step of the way, and what it is
abbrev pub step_of : List Place → ℕ → ℕ → ℕ → ℕ → ℕ × Place
step_of places r f t k = (along r f t k, place_at places (along r f t k))

first_from : (test : Place → Bool) (places : List Place) (r f t a n : ℕ) → a + n ≡ 512 → ((i : ℕ) → i < a → test (place_at places (along r f t i)) ≡ false)
    → First test places r f t (find (λ x. test x.1) (map (step_of places r f t) (range_with_len a n)))
first_from test places r f t a zero e before = λ i l. before i (omega arith)
first_from test places r f t a (suc n) e before = go (test (place_at places (along r f t a))) refl (first_from test places r f t (a + 1) n (omega arith))
  where
    go : (b : Bool) → test (place_at places (along r f t a)) ≡ b
        → (((i : ℕ) → i < a + 1 → test (place_at places (along r f t i)) ≡ false)
        → First test places r f t (find (λ x. test x.1) (map (step_of places r f t) (range_with_len (a + 1) n))))
        → First test places r f t (cond b (Some (along r f t a, place_at places (along r f t a))) (find (λ x. test x.1) (map (step_of places r f t) (range_with_len (a + 1) n))))
    go true h more = (record { steps = a; few = omega arith; here = refl; passes = h; before = before }, refl)
    go false h more = more (below_more (λ i. test (place_at places (along r f t i)) ≡ false) a before h)

pub first_found : (test : Place → Bool) (places : List Place) (r f t : ℕ) → First test places r f t (find (λ x. test x.1) (map (step_of places r f t) (range_with_len 0 512)))
first_found test places r f t = first_from test places r f t 0 512 refl (λ i l. absurd (omega arith))

pub first_below : {test : Place → Bool} {places : List Place} {r f t p : ℕ} → FirstAt test places r f t p → p < 512
first_below {r = r} {f = f} {t = t} h = omega (arith, along_below r f t h.steps, h.here)

-- what the test `ends` says of a place
pub ends_past : (r f t : ℕ) (x : Place) → ends r f t x ≡ false → holds x r f t ≡ false
ends_past r f t Free h = refl
ends_past r f t Dropped h = refl
ends_past r f t (Held row) h = h

pub ends_free : (r f t : ℕ) (x : Place) → ends r f t x ≡ true → row_in x ≡ None → is_free x ≡ true
ends_free r f t Free h e = refl
ends_free r f t Dropped h e = absurd (both_ways false refl h)
ends_free r f t (Held row) h e = let z : ◌≡◌ {A = ℕ} 0 1 = cc in absurd (omega arith)

pub ends_held : (r f t : ℕ) (x : Place) (row : Row) → ends r f t x ≡ true → row_in x ≡ Some row
    → x ≡ Held (record { relationship = r; from = f; to = t; instance = row.instance })
ends_held r f t Free row h e = let z : ◌≡◌ {A = ℕ} 0 1 = cc in absurd (omega arith)
ends_held r f t Dropped row h e = absurd (both_ways false refl h)
ends_held r f t (Held other) row h e = let same : other ≡ row = cc in ap Held (row_is other r f t h ∙ ap (λ x. record { relationship = r; from = f; to = t; instance = x.instance }) same)

-- the instance that a search told
pub located_told : (places : List Place) → length places ≡ 512 → apart (held places) ≡ true → (r f t : ℕ) (o : Option (ℕ × ℕ)) → Located places r f t o
    → option_map (λ x. x.1) o ≡ in_force (held places) r f t
located_told places whole h r f t None l = sym l
located_told places whole h r f t (Some x) l = sym (in_force_place places x.0 (omega arith) _ l.1 h r f t (alike_self r f t))

-- a search for a place that holds no row finds one, where there are fewer rows than places
module _ (places : List Place) (whole : length places ≡ 512) (few : length (held places) < 512) (r f t : ℕ) where
  pub room_found : (o : Option (ℕ × Place)) → First (λ x. not (is_held x)) places r f t o → IsSome o
  room_found None h =
      let all = way_full places whole r f t (λ i l. not-false (is_held (place_at places (along r f t i))) (h i l)) in
      absurd (omega arith)
  room_found (Some x) h = refl

pub open_found : (places : List Place) (r f t p : ℕ) → FirstAt (λ x. not (is_held x)) places r f t p → Open places r f t p
open_found places r f t p h =
    record {
      steps = h.steps;
      few = h.few;
      here = h.here;
      below = first_below h;
      vacant = not-true (is_held (place_at places p)) h.passes;
      before = λ i l. held_not_free _ (not-false (is_held (place_at places (along r f t i))) (h.before i l));
    }

-- ---- rows stay reached

free_holds : (x : Place) (r f t : ℕ) → is_free x ≡ true → holds x r f t ≡ true → ⊥
free_holds Free r f t h k = both_ways false refl k
free_holds Dropped r f t h k = both_ways false refl k
free_holds (Held row) r f t h k = both_ways false refl h

module _ (places : List Place) (whole : length places ≡ 512) (reached : Reached places) where
  reach : (r f t j k : ℕ) → j < 512 → k < j → holds (place_at places (along r f t j)) r f t ≡ true → is_free (place_at places (along r f t k)) ≡ false
  reach r f t j k l i h = reached (record { relationship = r; from = f; to = t; step = j; earlier = k; few = l; passed = i }) h

  -- a search that met the row at none of its steps so far, and then a free place or the last place, would not meet it
  pub not_met : (r f t k : ℕ) → ((i : ℕ) → i < k → holds (place_at places (along r f t i)) r f t ≡ false)
      → (is_free (place_at places (along r f t k)) ≡ true) ⊎ (512 ≤ k) → in_force (held places) r f t ≡ None
  not_met r f t k before ends = in_force_none places r f t (λ p i. go p (along_every r f t p (omega arith)))
    where
      later : (j : ℕ) → j < 512 → k ≤ j → (b : Bool) → holds (place_at places (along r f t j)) r f t ≡ b → b ≡ false
      later j m i true e = elim ends [
        | inl free ↦ elim (cases_lt k j) [
          | inl past ↦ absurd (both_ways (is_free (place_at places (along r f t k))) (reach r f t j k m past e) free)
          | inr here ↦
              let same : j ≡ k = omega arith in
              absurd (free_holds (place_at places (along r f t j)) r f t (ap (λ x. is_free (place_at places (along r f t x))) same ∙ free) e)
        ]
        | inr all ↦ absurd (omega arith)
      ]
      later j m i false e = refl

      go : (p : ℕ) → (j : ℕ) × (j < 512) × (along r f t j ≡ p) → holds (place_at places p) r f t ≡ false
      go p x = ap (λ q. holds (place_at places q) r f t) (sym x.2) ∙ elim (cases_lt x.0 k) [
        | inl l ↦ before x.0 l
        | inr l ↦ later x.0 x.1 l (holds (place_at places (along r f t x.0)) r f t) refl
      ]

  -- a row put into the first place on its way that holds none
  pub reached_put : (row : Row) (p : ℕ) → Open places row.relationship row.from row.to p → Reached (set places p (Held row))
  reached_put row p o w h =
      elim (cases_eq (along w.relationship w.from w.to w.earlier) p) [
        | inl e ↦ ap is_free (ap (place_at (set places p (Held row))) e ∙ get_or-set_same places p (Held row) Free inside)
        | inr apart-here ↦
            ap is_free (get_or-set_other places p (along w.relationship w.from w.to w.earlier) (Held row) Free apart-here)
            ∙ elim (cases_eq (along w.relationship w.from w.to w.step) p) [
              | inl e ↦ own e (ap (λ x. holds x w.relationship w.from w.to) (sym (ap (place_at (set places p (Held row))) e ∙ get_or-set_same places p (Held row) Free inside)) ∙ h)
              | inr other ↦ reached w (ap (λ x. holds x w.relationship w.from w.to) (sym (get_or-set_other places p (along w.relationship w.from w.to w.step) (Held row) Free other)) ∙ h)
            ]
      ]
    where
      inside : p < length places
      inside = omega arith

      own : along w.relationship w.from w.to w.step ≡ p → joins row w.relationship w.from w.to ≡ true
          → is_free (place_at places (along w.relationship w.from w.to w.earlier)) ≡ false
      own e j =
          let q = alike_parts row.relationship row.from row.to w.relationship w.from w.to j in
          let a = q.0 in
          let b = q.1 in
          let c = q.2 in
          let met : along row.relationship row.from row.to w.step ≡ along row.relationship row.from row.to o.steps = cc in
          let here : w.step ≡ o.steps = along_once row.relationship row.from row.to w.step o.steps w.few o.few met in
          let passed = o.before w.earlier (omega arith) in
          cc

  -- a row dropped
  pub reached_dropped : (p : ℕ) → p < length places → Reached (set places p Dropped)
  reached_dropped p l w h =
      elim (cases_eq (along w.relationship w.from w.to w.earlier) p) [
        | inl e ↦ ap is_free (ap (place_at (set places p Dropped)) e ∙ get_or-set_same places p Dropped Free l)
        | inr apart-here ↦
            ap is_free (get_or-set_other places p (along w.relationship w.from w.to w.earlier) Dropped Free apart-here)
            ∙ elim (cases_eq (along w.relationship w.from w.to w.step) p) [
              | inl e ↦ absurd (both_ways _ (ap (λ x. holds x w.relationship w.from w.to) (ap (place_at (set places p Dropped)) e ∙ get_or-set_same places p Dropped Free l)) h)
              | inr other ↦ reached w (ap (λ x. holds x w.relationship w.from w.to) (sym (get_or-set_other places p (along w.relationship w.from w.to w.step) Dropped Free other)) ∙ h)
            ]
      ]
