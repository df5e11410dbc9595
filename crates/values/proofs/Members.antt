-- The tests of admission tell.
use Rattle.std.proofs.Common.{◌≡◌, ◌+◌, ◌∙◌, subst, length, arith, ℕ, ◌<◌, Bool, true, Some, None, Decides, Option, sym, refl, inl, inr}
use Rattle.std.proofs.lemmas.Bool.{both_ways, cases_Bool, cases_lt}
use Rattle.std.proofs.lemmas.Bool.Decides.{Decides-at, Decides-below_and, same_from_decides}
use Rattle.std.specs.List.{list_all, range_with_len}
use Rattle.std.proofs.lemmas.List.FromFn.{length-range_with_len, get_or-range_with_len}
use Rattle.std.proofs.lemmas.List.Sums.{AllPass-from_list_all, list_all-from_AllPass}
use Rattle.cells.specs.declared.CellSet.{CellSet}
use Rattle.cells.specs.Members.{has}
use Rattle.cells.proofs.Laws.{has_past}
use Rattle.values.specs.declared.types.Lineage.{Lineage}
use Rattle.values.specs.declared.types.Kind.{Kind}
use Rattle.values.specs.declared.types.Kind.TheVariants as kinds
use Rattle.values.specs.declared.types.CellRow.{CellRow}
use Rattle.values.specs.declared.types.Ty.{Ty}
use Rattle.values.specs.declared.value.Value.{Value}
use Rattle.values.specs.declared.value.Value.TheVariants.{Truth, Null, Cell, Set}
use Rattle.values.specs.Fits.{Ancestry, AreLines}
use Rattle.values.specs.Admits.{CellFits, Admits, admits_truth, null_admits, admits_null, admits_cell, admits_set, cell_fits_to, all_below, member_fits_to, members_fit_to, admits_to}
use Rattle.values.proofs.Fitting.{are_lines, row_fits_decides}
use Rattle.values.specs.Lines.{ancestry}
use Rattle.values.specs.declared.lines.Lines.{Lines}
use Rattle.values.proofs.SameType.{never}

below_decides : (f : ℕ → Bool) (n : ℕ) → Decides (all_below f n) ((k : ℕ) → k < n → f k ≡ true)
unfolding all_below
below_decides f n = Decides-below_and f (λ k. f k ≡ true) (all_below f) (λ k. (λ e. e, λ e. e)) refl (λ _. refl) n

-- a test of all numbers of a range from 0 on
pub all_told : (f : ℕ → Bool) (n : ℕ) (r : Bool) → r ≡ list_all f (range_with_len 0 n) → r ≡ all_below f n
all_told f n r e = same_from_decides r (all_below f n) (there, back) (below_decides f n)
  where
    long : length (range_with_len 0 n) ≡ n
    long = length-range_with_len 0 n

    there : r ≡ true → (k : ℕ) → k < n → f k ≡ true
    there t k h =
        let z : 0 + k ≡ k = omega arith in
        subst (λ x. f x ≡ true) (get_or-range_with_len 0 n k 0 h ∙ z) (AllPass-from_list_all f (range_with_len 0 n) (sym e ∙ t) k 0 (omega (arith, long)))

    back : ((k : ℕ) → k < n → f k ≡ true) → r ≡ true
    back h =
        e
        ∙ list_all-from_AllPass f (range_with_len 0 n) (λ k d l.
        let b : k < n = omega (arith, long) in
        let z : 0 + k ≡ k = omega arith in
        subst (λ x. f x ≡ true) (sym (get_or-range_with_len 0 n k d b ∙ z)) (h k b))

module _ {a : Ancestry} (lines : AreLines a) (rows : ℕ → Option CellRow) where
  cell_true : (l : Lineage) (n c : ℕ) (o : Option CellRow) → rows c ≡ o → cell_fits_to a o l n ≡ true → CellFits a rows l n c
  cell_true l n c None e t = never t
  cell_true l n c (Some r) e t = record { row = r; there = e; fits = (row_fits_decides lines r.lineage r.number l n).0 t }

  cell_decides : (l : Lineage) (n c : ℕ) → Decides (cell_fits_to a (rows c) l n) (CellFits a rows l n c)
  cell_decides l n c = (
    cell_true l n c (rows c) refl,
    λ f. let e = f.there in simp e ((row_fits_decides lines f.row.lineage f.row.number l n).1 f.fits),
  )

  members_decides : (s : CellSet) (l : Lineage) (n : ℕ) → Decides (members_fit_to a rows s l n) ((c : ℕ) → has s c ≡ true → CellFits a rows l n c)
  unfolding members_fit_to
  members_decides s l n =
      let d = below_decides (member_fits_to a rows s l n) 128 in (
        λ t c m.
            elim (cases_lt c 128) [
              | inl h ↦ (cell_decides l n c).0 (let e = d.0 t c h in simp m at e)
              | inr h ↦ absurd (both_ways (has s c) (has_past s c h) m)
            ],
        λ f. d.1 (λ k h.
            elim (cases_Bool (has s k)) [
              | inl m ↦ simp m ((cell_decides l n k).1 (f k m))
              | inr m ↦ simp m
            ]),
      )

  admits_true : (t : Ty) (k : Kind) (v : Value) → t.kind ≡ k → admits_to a rows k t.row v ≡ true → Admits a rows t v
  admits_true t kinds.Boolean (Truth b) e h = admits_truth e
  admits_true t kinds.Null (Truth b) e h = never h
  admits_true t (kinds.Row l) (Truth b) e h = never h
  admits_true t (kinds.Set l) (Truth b) e h = never h
  admits_true t kinds.Boolean Null e h = never h
  admits_true t kinds.Null Null e h = null_admits e
  admits_true t (kinds.Row l) Null e h = admits_null e
  admits_true t (kinds.Set l) Null e h = never h
  admits_true t kinds.Boolean (Cell c) e h = never h
  admits_true t kinds.Null (Cell c) e h = never h
  admits_true t (kinds.Row l) (Cell c) e h = admits_cell e ((cell_decides l t.row c).0 h)
  admits_true t (kinds.Set l) (Cell c) e h = never h
  admits_true t kinds.Boolean (Set s) e h = never h
  admits_true t kinds.Null (Set s) e h = never h
  admits_true t (kinds.Row l) (Set s) e h = never h
  admits_true t (kinds.Set l) (Set s) e h = admits_set e ((members_decides s l t.row).0 h)

  admits_from : (t : Ty) {v : Value} → Admits a rows t v → admits_to a rows t.kind t.row v ≡ true
  admits_from t (admits_truth e) = simp e
  admits_from t (null_admits e) = simp e
  admits_from t (admits_null e) = simp e
  admits_from t (admits_cell {l} {c} e f) = simp e ((cell_decides l t.row c).1 f)
  admits_from t (admits_set {l} {s} e f) = simp e ((members_decides s l t.row).1 f)

  pub admits_decides : (t : Ty) (v : Value) → Decides (admits_to a rows t.kind t.row v) (Admits a rows t v)
  admits_decides t v = (admits_true t t.kind v refl, admits_from t)

-- an answer that is the function's tells
pub admits_told : (l : Lines) (rows : ℕ → Option CellRow) (t : Ty) (v : Value) {r : Bool} → r ≡ admits_to (ancestry l) rows t.kind t.row v
    → Decides r (Admits (ancestry l) rows t v)
admits_told l rows t v e = Decides-at _ _ e (admits_decides (are_lines l) rows t v)
