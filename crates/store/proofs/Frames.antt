-- What is read after a make or a put, in any store.
use Rattle.std.proofs.Common.{◌≡◌, ℕ, zero, suc, ◌+◌, ◌<◌, ltb, List, [], ◌∷◌, ◌++◌, length, set, replicate, Some, None, Ok, Err, Option, Result, sym, refl, ap, ◌∙◌, inl, inr, arith, length-append, length-set, MatchResult}
use lib.ListN.{length-replicate}
use Rattle.std.specs.List.{slice_get}
use Rattle.std.proofs.lemmas.List.{get_or-replicate}
use Rattle.std.proofs.lemmas.Option.{slice_get-get_or, slice_get_past}
use Rattle.std.proofs.lemmas.Bool.{cases_eq, cases_Bool, cases_lt}
use Rattle.values.specs.declared.value.Value.{Value}
use Rattle.values.specs.declared.value.Value.TheVariants.{Null}
use Rattle.store.specs.declared.cell.Head.{Head}
use Rattle.store.specs.declared.cell.MakeRefusal.{MakeRefusal}
use Rattle.store.specs.declared.cell.Absent.{Absent}
use Rattle.store.specs.Frames.{OneField, OneCell}
use Rattle.store.specs.Rows.{KeepsRows, row_in}
use Rattle.store.specs.Model.{Model, StoredCell, holding, new_cell, changed, written, done, make_answer, put_answer, after_make, after_put, slots_of, field_at, field_in, fields_at, fields_in, head_at, head_in, value_in}

-- a list with one element more
pub slice_get_old : {X : Type 0} (xs : List X) (y : X) (i : ℕ) → i < length xs → slice_get (xs ++ (y ∷ [])) i ≡ slice_get xs i
slice_get_old [] y i h = absurd (omega arith)
slice_get_old (x ∷ xs) y zero h = refl
slice_get_old (x ∷ xs) y (suc i) h = slice_get_old xs y i (omega arith)

pub slice_get_new : {X : Type 0} (xs : List X) (y : X) → slice_get (xs ++ (y ∷ [])) (length xs) ≡ Some y
slice_get_new [] y = refl
slice_get_new (x ∷ xs) y = slice_get_new xs y

-- a list with one element set
pub slice_get-set_other : {X : Type 0} (xs : List X) (i j : ℕ) (y : X) → (j ≡ i → ⊥) → slice_get (set xs i y) j ≡ slice_get xs j
slice_get-set_other [] i j y ne = refl
slice_get-set_other (x ∷ xs) zero zero y ne = absurd (ne refl)
slice_get-set_other (x ∷ xs) zero (suc j) y ne = refl
slice_get-set_other (x ∷ xs) (suc i) zero y ne = refl
slice_get-set_other (x ∷ xs) (suc i) (suc j) y ne = slice_get-set_other xs i j y (λ e. ne (ap suc e))

pub slice_get-set_same : {X : Type 0} (xs : List X) (i : ℕ) (x y : X) → slice_get xs i ≡ Some x → slice_get (set xs i y) i ≡ Some y
slice_get-set_same [] i x y e = absurd cc
slice_get-set_same (z ∷ xs) zero x y e = refl
slice_get-set_same (z ∷ xs) (suc i) x y e = slice_get-set_same xs i x y e

-- the cells with one field changed
pub slice_get-changed_other : (cs : List StoredCell) (c f d : ℕ) (v : Value) → (d ≡ c → ⊥) → slice_get (changed cs c f v) d ≡ slice_get cs d
unfolding changed
slice_get-changed_other [] c f d v ne = refl
slice_get-changed_other (x ∷ cs) zero f zero v ne = absurd (ne refl)
slice_get-changed_other (x ∷ cs) zero f (suc d) v ne = refl
slice_get-changed_other (x ∷ cs) (suc c) f zero v ne = refl
slice_get-changed_other (x ∷ cs) (suc c) f (suc d) v ne = slice_get-changed_other cs c f d v (λ e. ne (ap suc e))

pub slice_get-changed : (cs : List StoredCell) (c f : ℕ) (v : Value) (x : StoredCell) → slice_get cs c ≡ Some x → slice_get (changed cs c f v) c ≡ Some (written x f v)
unfolding changed
slice_get-changed [] c f v x e = absurd cc
slice_get-changed (y ∷ cs) zero f v x e = let p : y ≡ x = cc in ap (λ z. Some (written z f v)) p
slice_get-changed (y ∷ cs) (suc c) f v x e = slice_get-changed cs c f v x e

pub length-changed : (cs : List StoredCell) (c f : ℕ) (v : Value) → length (changed cs c f v) ≡ length cs
unfolding changed
length-changed [] c f v = refl
length-changed (x ∷ cs) zero f v = refl
length-changed (x ∷ cs) (suc c) f v = ap suc (length-changed cs c f v)

-- a field that is read stands in a cell
pub record Found (m : Model) (c f : ℕ) (w : Value) : Type 0 where
  pub cell : StoredCell
  pub at_cell : slice_get m.cells c ≡ Some cell
  pub at_field : slice_get cell.fields f ≡ Some w

found_in : (m : Model) (c f : ℕ) (w : Value) (o : Option StoredCell) → slice_get m.cells c ≡ o → field_in o f ≡ Ok w → Found m c f w
found_in m c f w None e r = absurd cc
found_in m c f w (Some x) e r = go (slice_get x.fields f) refl r
  where
    go : (o : Option Value) → slice_get x.fields f ≡ o → value_in o ≡ Ok w → Found m c f w
    go None p q = absurd cc
    go (Some y) p q = let g : y ≡ w = cc in record { cell = x; at_cell = e; at_field = p ∙ ap Some g }

pub found : (m : Model) (c f : ℕ) (w : Value) → field_at m c f ≡ Ok w → Found m c f w
unfolding field_at
found m c f w r = found_in m c f w (slice_get m.cells c) refl r

-- where the heads stay, the rows stay
pub rows_kept : (m m' : Model) → ((d : ℕ) → d < length m.cells → head_at m' d ≡ head_at m d) → KeepsRows m m'
unfolding head_at
rows_kept m m' same =
    record {
      keeps = λ d r e.
          elim (cases_lt d (length m.cells)) [
            | inl h ↦ ap row_in (same d h) ∙ e
            | inr h ↦ let z = slice_get_past m.cells d h in let e' = simp z at e in absurd cc
          ];
    }

module _ (m : Model) (c f : ℕ) (v : Value) where
  -- a cell of the changed store has the head and the number of fields of the old one
  kept_in : {A : Type 0} (g : Option StoredCell → A) → ((x : StoredCell) → g (Some (written x f v)) ≡ g (Some x))
      → (x : StoredCell) → slice_get m.cells c ≡ Some x → (d : ℕ) → g (slice_get (changed m.cells c f v) d) ≡ g (slice_get m.cells d)
  kept_in g same x e d =
      elim (cases_eq d c) [
        | inl z ↦ rw z (ap g (slice_get-changed m.cells c f v x e) ∙ same x ∙ ap g (sym e))
        | inr ne ↦ ap g (slice_get-changed_other m.cells c f d v ne)
      ]

  pub one_field : (w : Value) → field_at m c f ≡ Ok w → OneField m (holding m (changed m.cells c f v)) c f v
  unfolding field_at fields_at head_at
  one_field w r =
      let x = found m c f w r in
      let y = x.cell in
      let n = slice_get-changed m.cells c f v y x.at_cell in
      let s = slice_get-set_same y.fields f w v x.at_field in
      record {
        reads = simp (n, s);
        others = λ d g apart.
            elim (cases_eq d c) [
              | inl z ↦
                  let k = slice_get-set_other y.fields f g v (λ e. apart z e) in
                  let a = x.at_cell in
                  rw z (simp (n, k, a))
              | inr ne ↦ let k = slice_get-changed_other m.cells c f d v ne in simp k
            ];
        heads = kept_in head_in (λ z. refl) y x.at_cell;
        counts = kept_in fields_in (λ z. ap Some (length-set z.fields f v)) y x.at_cell;
        cells = length-changed m.cells c f v;
        rows = rows_kept m (holding m (changed m.cells c f v)) (λ d h. kept_in head_in (λ z. refl) y x.at_cell d);
        fixed = refl;
      }

module _ (m : Model) (h : Head) (n : ℕ) where
  pub one_cell : OneCell m (holding m (m.cells ++ (new_cell h n ∷ []))) h n (length m.cells)
  unfolding field_at fields_at head_at
  one_cell =
      let e = slice_get_new m.cells (new_cell h n) in
      record {
        next = refl;
        head = simp e;
        count = simp e (ap Some (length-replicate n Null));
        nulls = λ f k.
            let l : f < length (replicate n Null) = let r = length-replicate n Null in omega arith in
            let p = slice_get-get_or (replicate n Null) f Null l in
            let q = get_or-replicate n f Null Null k in
            simp (e, p, q);
        heads = λ d k. let o = slice_get_old m.cells (new_cell h n) d k in simp o;
        fields = λ d f k. let o = slice_get_old m.cells (new_cell h n) d k in simp o;
        cells = length-append m.cells (new_cell h n ∷ []);
        rows = rows_kept m (holding m (m.cells ++ (new_cell h n ∷ []))) (λ d k. let o = slice_get_old m.cells (new_cell h n) d k in simp o);
        fixed = refl;
      }

-- what an answer of put says of the field
pub done_ok : (o : Result Value Absent) (u : Unit {0}) → done o ≡ Ok u → (w : Value) × (o ≡ Ok w)
done_ok (Ok w) u e = (w, refl)
done_ok (Err x) u e = absurd cc

-- what an answer of make says of the number
pub make_number : (m : Model) (n c : ℕ) → make_answer m n ≡ Ok c → c ≡ length m.cells
unfolding make_answer
make_number m n c e =
    elim (cases_Bool (ltb 8 n)) [
      | inl a ↦ let e' = simp a at e in absurd cc
      | inr a ↦ elim (cases_Bool (ltb m.cell_limit (length m.cells + 1))) [
        | inl b ↦ let e' = simp (a, b) at e in absurd cc
        | inr b ↦ elim (cases_Bool (ltb m.slot_limit (slots_of m + m.charge n))) [
          | inl d ↦ let e' = simp (a, b, d) at e in absurd cc
          | inr d ↦ let e' = simp (a, b, d) at e in cc
        ]
      ]
    ]

-- the calls as a caller sees them: the store before and after, and the answer
pub made_cell : (m m' : Model) (h : Head) (n : ℕ) (r : Result ℕ MakeRefusal) → r ≡ make_answer m n → m' ≡ after_make m h n r
    → MatchResult r (OneCell m m' h n) (λ e. (make_answer m n ≡ Err e) × (m' ≡ m))
made_cell m m' h n (Ok c) a b = let k = make_number m n c (sym a) in rw (b, k) (one_cell m h n)
made_cell m m' h n (Err e) a b = (sym a, b)

pub put_field : (m m' : Model) (c f : ℕ) (v : Value) (u : Unit {0}) (r : Result (Unit {0}) Absent) → r ≡ Ok u → r ≡ put_answer m c f → m' ≡ after_put m c f v r
    → OneField m m' c f v
put_field m m' c f v u r t a b =
    let w = done_ok (field_at m c f) u (sym a ∙ t) in
    let e : m' ≡ holding m (changed m.cells c f v) = b ∙ ap (after_put m c f v) t in
    rw e (one_field m c f v w.0 w.1)

pub read_back : (m m' : Model) (c f : ℕ) (v : Value) (w : Result Value Absent) → OneField m m' c f v → w ≡ field_at m' c f
    → MatchResult w (λ x. (x ≡ v) × OneField m m' c f v) (λ e. (field_at m c f ≡ Err e) × (m' ≡ m))
read_back m m' c f v (Ok x) o e = (let r = o.reads in cc, o)
read_back m m' c f v (Err x) o e = let r = o.reads in absurd cc
