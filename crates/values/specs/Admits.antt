-- Which values a type admits, and the values that variables and fields begin with.
use Rattle.std.specs.Prelude.{◌≡◌, ℕ, zero, suc, Bool, true, false, not, ◌&&◌, ◌||◌, Some, None, Option}
use Rattle.cells.specs.declared.CellSet.{CellSet}
use Rattle.cells.specs.Members.{has, none}
use Rattle.values.specs.declared.types.Lineage.{Lineage}
use Rattle.values.specs.declared.types.Kind.{Kind}
use Rattle.values.specs.declared.types.Kind.TheVariants as kinds
use Rattle.values.specs.declared.types.CellRow.{CellRow}
use Rattle.values.specs.declared.types.Ty.{Ty}
use Rattle.values.specs.declared.value.Value.{Value}
use Rattle.values.specs.declared.value.Value.TheVariants.{Truth, Null, Cell, Set}
use Rattle.values.specs.Fits.{Ancestry, RowFits, Fits, row_fits_to, at_row, at_set}

-- row n of a line admits cell c: there is such a cell, and its row fits
pub record CellFits (a : Ancestry) (rows : ℕ → Option CellRow) (l : Lineage) (n : ℕ) (c : ℕ) : Type 0 where
  pub row : CellRow
  pub there : rows c ≡ Some row
  pub fits : RowFits a row.lineage row.number l n

-- `rows c` is the row of cell c, if there is such a cell. Boolean admits true and false; a row null and every cell whose
-- row fits it; a set of a row each set whose members the row admits; the type of null just null.
pub data Admits (a : Ancestry) (rows : ℕ → Option CellRow) (t : Ty) : Value → Type 0 where
  admits_truth : {b : Bool} → t.kind ≡ kinds.Boolean → Admits a rows t (Truth b)
  null_admits : t.kind ≡ kinds.Null → Admits a rows t Null
  admits_null : {l : Lineage} → t.kind ≡ kinds.Row l → Admits a rows t Null
  admits_cell : {l : Lineage} {c : ℕ} → t.kind ≡ kinds.Row l → CellFits a rows l t.row c → Admits a rows t (Cell c)
  admits_set : {l : Lineage} {s : CellSet} → t.kind ≡ kinds.Set l → ((c : ℕ) → has s c ≡ true → CellFits a rows l t.row c) → Admits a rows t (Set s)

-- The same as tests, for definitions that compute: of one cell, of all below n, and of a value.
abbrev pub cell_fits_to : Ancestry → Option CellRow → Lineage → ℕ → Bool
cell_fits_to a None l n = false
cell_fits_to a (Some r) l n = row_fits_to a r.lineage r.number l n

unfoldable pub all_below : (ℕ → Bool) → ℕ → Bool
all_below f zero = true
all_below f (suc n) = f n && all_below f n

-- each member of the set passes
abbrev pub member_fits_to : Ancestry → (ℕ → Option CellRow) → CellSet → Lineage → ℕ → ℕ → Bool
member_fits_to a rows s l n c = not (has s c) || cell_fits_to a (rows c) l n

unfoldable pub members_fit_to : Ancestry → (ℕ → Option CellRow) → CellSet → Lineage → ℕ → Bool
members_fit_to a rows s l n = all_below (member_fits_to a rows s l n) 128

abbrev pub admits_to : Ancestry → (ℕ → Option CellRow) → Kind → ℕ → Value → Bool
admits_to a rows kinds.Boolean n (Truth b) = true
admits_to a rows kinds.Null n (Truth b) = false
admits_to a rows (kinds.Row l) n (Truth b) = false
admits_to a rows (kinds.Set l) n (Truth b) = false
admits_to a rows kinds.Boolean n Null = false
admits_to a rows kinds.Null n Null = true
admits_to a rows (kinds.Row l) n Null = true
admits_to a rows (kinds.Set l) n Null = false
admits_to a rows k n (Cell c) = at_row k (λ l. cell_fits_to a (rows c) l n)
admits_to a rows k n (Set s) = at_set k (λ l. members_fit_to a rows s l n)

-- false, null, or the empty set
abbrev pub initial_of : Kind → Value
initial_of kinds.Boolean = Truth false
initial_of kinds.Null = Null
initial_of (kinds.Row l) = Null
initial_of (kinds.Set l) = Set none

-- every type admits its initial value, whatever cells there are
abbrev pub Initially : Ty → Value → Type 0
Initially t v = (a : Ancestry) (rows : ℕ → Option CellRow) → Admits a rows t v

-- the laws of fitting on one pair of lines: what fits is admitted more widely, and what is admitted stays so while the
-- cells keep their rows
pub record FitLaws (a : Ancestry) : Type 0 where
  pub reflexive : (t : Ty) → Fits a t t
  pub transitive : (s t u : Ty) → Fits a s t → Fits a t u → Fits a s u
  pub widening : (rows : ℕ → Option CellRow) (s t : Ty) (v : Value) → Fits a s t → Admits a rows s v → Admits a rows t v
  pub lasting : (rows later : ℕ → Option CellRow) → ((c : ℕ) (r : CellRow) → rows c ≡ Some r → later c ≡ Some r)
      → (t : Ty) (v : Value) → Admits a rows t v → Admits a later t v
