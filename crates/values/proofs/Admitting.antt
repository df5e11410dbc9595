-- What fits is admitted more widely, and every type admits its initial value.
use Rattle.std.proofs.Common.{◌≡◌, ℕ, true, Some, Option, refl, arith}
use Rattle.std.proofs.lemmas.Bool.{both_ways}
use Rattle.cells.specs.Members.{has, none}
use Rattle.cells.proofs.Laws.{has_none}
use Rattle.values.specs.declared.types.Lineage.{Lineage}
use Rattle.values.specs.declared.types.Kind.{Kind}
use Rattle.values.specs.declared.types.Kind.TheVariants as kinds
use Rattle.values.specs.declared.types.CellRow.{CellRow}
use Rattle.values.specs.declared.types.Ty.{Ty}
use Rattle.values.specs.declared.value.Value.{Value}
use Rattle.values.specs.Fits.{Ancestry, AreLines, RowFits, Fits, fits_itself, fits_row, null_fits, fits_set}
use Rattle.values.specs.Admits.{CellFits, Admits, admits_truth, null_admits, admits_null, admits_cell, admits_set, FitLaws, Initially, initial_of}
use Rattle.values.proofs.Fitting.{row_transitive}

-- two kinds that differ are not equal
never : {C : Type 0} → ◌≡◌ {A = ℕ} 0 1 → C
never z = absurd (omega arith)

module _ {a : Ancestry} (lines : AreLines a) where
  cell_wider : {rows : ℕ → Option CellRow} {k l : Lineage} {m n c : ℕ} → RowFits a k m l n → CellFits a rows k m c → CellFits a rows l n c
  cell_wider r f = record { row = f.row; there = f.there; fits = row_transitive lines f.fits r }

  transitive : (s t u : Ty) → Fits a s t → Fits a t u → Fits a s u
  transitive s t u (fits_itself e) g = rw e g
  transitive s t u (fits_row p q r) (fits_itself e) = rw (← e) (fits_row p q r)
  transitive s t u (fits_row {l = j} p q r) (fits_row {k = k} p' q' r') =
      let e : k ≡ j = cc in fits_row p q' (row_transitive lines r (rw e at r'))
  transitive s t u (fits_row p q r) (null_fits p' q') = never (cc)
  transitive s t u (fits_row p q r) (fits_set p' q' r') = never (cc)
  transitive s t u (null_fits p q) (fits_itself e) = rw (← e) (null_fits p q)
  transitive s t u (null_fits p q) (fits_row p' q' r') = null_fits p q'
  transitive s t u (null_fits p q) (null_fits p' q') = null_fits p q'
  transitive s t u (null_fits p q) (fits_set p' q' r') = never (cc)
  transitive s t u (fits_set p q r) (fits_itself e) = rw (← e) (fits_set p q r)
  transitive s t u (fits_set p q r) (fits_row p' q' r') = never (cc)
  transitive s t u (fits_set p q r) (null_fits p' q') = never (cc)
  transitive s t u (fits_set {l = j} p q r) (fits_set {k = k} p' q' r') =
      let e : k ≡ j = cc in fits_set p q' (row_transitive lines r (rw e at r'))

  widening : (rows : ℕ → Option CellRow) (s t : Ty) (v : Value) → Fits a s t → Admits a rows s v → Admits a rows t v
  widening rows s t v (fits_itself e) g = rw (← e) g
  widening rows s t v (fits_row p q r) (admits_null h) = admits_null q
  widening rows s t v (fits_row {k = k} p q r) (admits_cell {l = l} h f) = let e : l ≡ k = cc in admits_cell q (cell_wider r (rw e at f))
  widening rows s t v (fits_row p q r) (admits_truth h) = never (cc)
  widening rows s t v (fits_row p q r) (null_admits h) = never (cc)
  widening rows s t v (fits_row p q r) (admits_set h f) = never (cc)
  widening rows s t v (null_fits p q) (null_admits h) = admits_null q
  widening rows s t v (null_fits p q) (admits_null h) = admits_null q
  widening rows s t v (null_fits p q) (admits_truth h) = never (cc)
  widening rows s t v (null_fits p q) (admits_cell h f) = never (cc)
  widening rows s t v (null_fits p q) (admits_set h f) = never (cc)
  widening rows s t v (fits_set p q r) (admits_truth h) = never (cc)
  widening rows s t v (fits_set p q r) (null_admits h) = never (cc)
  widening rows s t v (fits_set p q r) (admits_null h) = never (cc)
  widening rows s t v (fits_set p q r) (admits_cell h f) = never (cc)
  widening rows s t v (fits_set {k = k} p q r) (admits_set {l = l} h f) =
      let e : l ≡ k = cc in admits_set q (λ c m. let g = f c m in cell_wider r (rw e at g))

  cell_lasts : {rows later : ℕ → Option CellRow} → ((c : ℕ) (r : CellRow) → rows c ≡ Some r → later c ≡ Some r)
      → {l : Lineage} {n c : ℕ} → CellFits a rows l n c → CellFits a later l n c
  cell_lasts keep {c = c} f = record { row = f.row; there = keep c f.row f.there; fits = f.fits }

  lasting : (rows later : ℕ → Option CellRow) → ((c : ℕ) (r : CellRow) → rows c ≡ Some r → later c ≡ Some r)
      → (t : Ty) (v : Value) → Admits a rows t v → Admits a later t v
  lasting rows later keep t v (admits_truth h) = admits_truth h
  lasting rows later keep t v (null_admits h) = null_admits h
  lasting rows later keep t v (admits_null h) = admits_null h
  lasting rows later keep t v (admits_cell h f) = admits_cell h (cell_lasts keep f)
  lasting rows later keep t v (admits_set h f) = admits_set h (λ c m. cell_lasts keep (f c m))

  pub fit_laws : FitLaws a
  fit_laws = record { reflexive = λ t. fits_itself refl; transitive = transitive; widening = widening; lasting = lasting }

none_has : (c : ℕ) → has none c ≡ true → ⊥
none_has c e = both_ways (has none c) (has_none c) e

initial_at : (t : Ty) (k : Kind) → t.kind ≡ k → Initially t (initial_of k)
initial_at t kinds.Boolean e = λ a rows. admits_truth e
initial_at t kinds.Null e = λ a rows. null_admits e
initial_at t (kinds.Row l) e = λ a rows. admits_null e
initial_at t (kinds.Set l) e = λ a rows. admits_set e (λ c m. absurd (none_has c m))

pub initially : (t : Ty) {v : Value} → v ≡ initial_of t.kind → Initially t v
initially t e = rw e (initial_at t t.kind refl)
