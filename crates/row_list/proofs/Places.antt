-- Rows by their place in a list: the row at a place, a list without it, and a row at the end.
use Rattle.std.proofs.Common.{◌≡◌, ℕ, suc, ◌+◌, ◌-◌, ◌<◌, ◌≤◌, Bool, true, false, cond, List, [], ◌∷◌, ◌++◌, length, take, drop, set, Some, None, sym, refl, ap, ◌∙◌, subst, inl, inr, arith, length-append, length-take, zero}
use lib.Seq.{split_at, set_split, take-set-lt, take-set-le}
use Rattle.std.specs.List.{position, position_or_len}
use Rattle.std.specs.Option.{option_map}
use Rattle.std.specs.Prelude.{nat_lt, not, Option}
use Rattle.std.proofs.lemmas.List.{append-nil, append_assoc, set_past, get_or_append_left, get_or_at, length-take-le, take_more, get_or-take, take_more_set}
use Rattle.std.proofs.lemmas.List.Sums.{passes_at_first}
use Rattle.std.proofs.lemmas.Bool.{and_parts, cases_lt, ltb-true, ltb-false}
use Rattle.pairs.specs.declared.row.Row.{Row}
use Rattle.pairs.specs.Rows.{in_force, apart, small, all_small, Small}
use Rattle.row_list.specs.Places.{row_at, Placed}
use Rattle.pairs.proofs.Rows.{joins, place_of, in_force_more, in_force_here, apart_less, all_small_more, small_row}
use Rattle.pairs.proofs.Changed.{Grown, Gone, grown, grown_push, gone}

-- what stands at a place past the end
abbrev pub no_row : Row
no_row = record { relationship = 0; from = 0; to = 0; instance = 0 }

pub small_at : (rows : List Row) (p : ℕ) → all_small rows ≡ true → p < length rows → Small (row_at rows p)
unfolding all_small
small_at [] p h l = absurd (omega arith)
small_at (row ∷ rows) zero h l = small_row row (and_parts (small row) (all_small rows) h).0
small_at (row ∷ rows) (suc p) h l = small_at rows p (and_parts (small row) (all_small rows) h).1 (omega arith)

-- the instance at the place of a relationship and two cells
pub in_force_at : (rows : List Row) (p : ℕ) → apart rows ≡ true → p < length rows → (r f t : ℕ) → joins (row_at rows p) r f t ≡ true
    → in_force rows r f t ≡ Some (row_at rows p).instance
in_force_at rows p h l r f t e =
    let split = split_at rows p no_row l in
    ap (λ x. in_force x r f t) split ∙ in_force_here (take p rows) (drop (suc p) rows) (row_at rows p) (ap apart (sym split) ∙ h) r f t e

-- the same, for the first n rows
pub in_force_among : (items : List Row) (n p : ℕ) → apart (take n items) ≡ true → p < length (take n items) → (r f t : ℕ) → joins (row_at (take n items) p) r f t ≡ true
    → (joins (row_at items p) r f t ≡ true) × (in_force (take n items) r f t ≡ Some (row_at items p).instance)
in_force_among items n p h l r f t e =
    let here : row_at (take n items) p ≡ row_at items p = get_or-take n items p no_row (omega (arith, length-take n items)) in
    (ap (λ row. joins row r f t) (sym here) ∙ e, in_force_at (take n items) p h l r f t e ∙ ap (λ row. Some row.instance) here)

-- one row at the end
pub none_push : (rows : List Row) (row : Row) (r f t : ℕ) → in_force rows r f t ≡ None → joins row r f t ≡ false → in_force (rows ++ row ∷ []) r f t ≡ None
unfolding in_force
none_push [] row r f t h k = ap (λ b. cond b (Some row.instance) None) k
none_push (a ∷ rows) row r f t h k = go (joins a r f t) (none_push rows row r f t) h
  where
    go : (b : Bool) → (in_force rows r f t ≡ None → joins row r f t ≡ false → in_force (rows ++ row ∷ []) r f t ≡ None)
        → cond b (Some a.instance) (in_force rows r f t) ≡ None → cond b (Some a.instance) (in_force (rows ++ row ∷ []) r f t) ≡ None
    go true more e = let z : ◌≡◌ {A = ℕ} 0 1 = cc in absurd (omega arith)
    go false more e = more e k

-- the last row in the place of the one that goes
gone_swap : (us vs : List Row) (row last : Row) → apart (us ++ row ∷ (vs ++ last ∷ [])) ≡ true → all_small (us ++ row ∷ (vs ++ last ∷ [])) ≡ true
    → Gone (us ++ row ∷ (vs ++ last ∷ [])) row (us ++ last ∷ vs)
gone_swap us vs row last h k =
    let first = gone us (vs ++ last ∷ []) row h k in
    let e : us ++ (vs ++ last ∷ []) ≡ (us ++ vs) ++ last ∷ [] = sym (append_assoc us vs (last ∷ [])) in
    let second = gone (us ++ vs) [] last (ap apart (sym e) ∙ first.differ) (ap all_small (sym e) ∙ first.little) in
    let n : (us ++ vs) ++ [] ≡ us ++ vs = append-nil (us ++ vs) in
    let absent : place_of (us ++ vs) last ≡ None = ap (λ x. place_of x last) (sym n) ∙ (apart_less (us ++ vs) [] last (ap apart (sym e) ∙ first.differ)).0 in
    let fit : Small last = small_row last (and_parts (small last) _ (sym (all_small_more (us ++ vs) [] last) ∙ (ap all_small (sym e) ∙ first.little))).0 in
    let back = grown us vs last absent (ap apart (sym n) ∙ second.differ) (ap all_small (sym n) ∙ second.little) fit in
    record {
      rest = λ r f t.
          back.added.found r f t
          ∙ ap (λ x. cond (joins last r f t) (Some last.instance) (in_force x r f t)) (sym n)
          ∙ sym (in_force_more (us ++ vs) [] last (ap (λ x. place_of x last) n ∙ absent) r f t)
          ∙ ap (λ x. in_force x r f t) (sym e)
          ∙ first.rest r f t;
      count = simp length-append (omega arith);
      differ = back.differ;
      little = back.little;
    }

gone_same : {before b after a : List Row} {row q : Row} → before ≡ b → row ≡ q → after ≡ a → Gone b q a → Gone before row after
gone_same {before} {b} {after} {a} {row} {q} e g h x =
    subst (λ y. Gone y row after) (sym e) (subst (λ y. Gone b y after) (sym g) (subst (λ y. Gone b q y) (sym h) x))

gone_swapped : (xs : List Row) (last : Row) (p : ℕ) → p < length xs + 1 → apart (xs ++ last ∷ []) ≡ true → all_small (xs ++ last ∷ []) ≡ true
    → Gone (xs ++ last ∷ []) (row_at (xs ++ last ∷ []) p) (set xs p last)
gone_swapped xs last p l h k = elim (cases_lt p (length xs)) [
  | inl i ↦
      let us = take p xs in
      let vs = drop (suc p) xs in
      let row = row_at xs p in
      let e : xs ++ last ∷ [] ≡ us ++ row ∷ (vs ++ last ∷ []) = ap (λ x. x ++ last ∷ []) (split_at xs p no_row i) ∙ append_assoc us (row ∷ vs) (last ∷ []) in
      gone_same e (get_or_append_left xs (last ∷ []) no_row p i) (set_split xs p last i)
      (gone_swap us vs row last (ap apart (sym e) ∙ h) (ap all_small (sym e) ∙ k))
  | inr i ↦
      gone_same refl (get_or_at xs last [] no_row p (omega arith)) (set_past xs p last i ∙ sym (append-nil xs))
      (gone xs [] last h k)
]

take-set : (n : ℕ) (xs : List Row) (p : ℕ) (row : Row) → take n (set xs p row) ≡ set (take n xs) p row
take-set n xs p row = elim (cases_lt p n) [
  | inl l ↦ take-set-lt n xs p row l
  | inr l ↦ take-set-le n xs p row l ∙ sym (set_past (take n xs) p row (simp length-take (omega arith)))
]

-- the first n rows and one more, without that at p: the last one takes its place
gone_next : (items : List Row) (n p : ℕ) → n < length items → p < n + 1 → apart (take (n + 1) items) ≡ true → all_small (take (n + 1) items) ≡ true
    → Gone (take (n + 1) items) (row_at items p) (take n (set items p (row_at items n)))
gone_next items n p l i h k =
    let e : take (n + 1) items ≡ take n items ++ row_at items n ∷ [] = take_more items n no_row l in
    let here : row_at items p ≡ row_at (take n items ++ row_at items n ∷ []) p = sym (ap (λ x. row_at x p) (sym e) ∙ get_or-take (n + 1) items p no_row i) in
    let m : length (take n items) ≡ n = length-take-le n items (omega arith) in
    gone_same e here (take-set n items p (row_at items n))
    (gone_swapped (take n items) (row_at items n) p (omega arith) (ap apart (sym e) ∙ h) (ap all_small (sym e) ∙ k))

-- the first m rows without that at p: the last of them takes its place
pub gone_at : (items : List Row) (m p : ℕ) → m ≤ length items → p < m → apart (take m items) ≡ true → all_small (take m items) ≡ true
    → Gone (take m items) (row_at items p) (take (m - 1) (set items p (row_at items (m - 1))))
gone_at items m p l i h k =
    let e : (m - 1) + 1 ≡ m = omega arith in
    subst (λ x. Gone (take x items) (row_at items p) (take (m - 1) (set items p (row_at items (m - 1))))) e
    (gone_next items (m - 1) p (omega arith) (omega arith) (ap (λ x. apart (take x items)) e ∙ h) (ap (λ x. all_small (take x items)) e ∙ k))

pub gone_placed : (items : List Row) (m p : ℕ) → m ≤ length items → p < length (take m items) → apart (take m items) ≡ true → all_small (take m items) ≡ true
    → Gone (take m items) (row_at items p) (take (m - 1) (set items p (row_at items (m - 1))))
gone_placed items m p l i h k = gone_at items m p l (omega (arith, length-take m items)) h k

-- the first n rows and one more at the end
pub grown_at : (items : List Row) (n : ℕ) (row : Row) → n < length items → place_of (take n items) row ≡ None → apart (take n items) ≡ true → all_small (take n items) ≡ true
    → Small row → Grown (take n items) row (take (n + 1) (set items n row))
grown_at items n row l absent h k s =
    subst (λ x. Grown (take n items) row x) (sym (take_more_set items n row l)) (grown_push (take n items) row absent h k s)

unplaced : (rows : List Row) (r f t : ℕ) → length rows ≤ position_or_len (λ row. joins row r f t) rows → in_force rows r f t ≡ None
unfolding in_force
unplaced [] r f t h = refl
unplaced (a ∷ rows) r f t h = go (joins a r f t) (unplaced rows r f t) h
  where
    go : (b : Bool) → (length rows ≤ position_or_len (λ row. joins row r f t) rows → in_force rows r f t ≡ None)
        → suc (length rows) ≤ cond (not b) (1 + position_or_len (λ row. joins row r f t) rows) 0 → cond b (Some a.instance) (in_force rows r f t) ≡ None
    go true more k = absurd (omega arith)
    go false more k = more (omega arith)

-- the place of the first row that joins, as a search from the front finds it
pub placed_first : (rows : List Row) (r f t : ℕ) → Placed rows r f t (position (λ row. joins row r f t) rows)
placed_first rows r f t = go (nat_lt (position_or_len (λ row. joins row r f t) rows) (length rows)) refl
  where
    go : (b : Bool) → nat_lt (position_or_len (λ row. joins row r f t) rows) (length rows) ≡ b → Placed rows r f t (cond b (Some (position_or_len (λ row. joins row r f t) rows)) None)
    go true e = let l = ltb-true _ _ e in (l, passes_at_first (λ row. joins row r f t) rows no_row l)
    go false e = unplaced rows r f t (ltb-false _ _ e)

-- the instance at the place, among the first n rows
pub placed_among : (items : List Row) (n : ℕ) → apart (take n items) ≡ true → (r f t : ℕ) (o : Option ℕ) → Placed (take n items) r f t o
    → option_map (λ p. (row_at items p).instance) o ≡ in_force (take n items) r f t
placed_among items n h r f t None l = sym l
placed_among items n h r f t (Some p) l = sym (in_force_among items n p h l.0 r f t l.1).1
