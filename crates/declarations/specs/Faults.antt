-- The refusal of declarations: each fault with its number and its place, and the first of them.
use Rattle.std.specs.Prelude.{◌≡◌, ℕ, ◌<◌, ◌≤◌, false, ◌⊎◌, List, length, Some, None, Ok, Err, Option, Result}
use Rattle.values.specs.declared.types.Lineage.{Lineage}
use Rattle.outline.specs.Contents.{Contents}
use Rattle.declarations.specs.declared.refusal.Misdeclared.{Misdeclared}
use Rattle.declarations.specs.declared.refusal.Misdeclared.TheVariants as refusal
use Rattle.declarations.specs.Rows.{rows_of}
use Rattle.declarations.specs.Resolved.{Declared}
use Rattle.declarations.specs.Naming.{name_taken_place, first_taken, parent_missing_place, end_missing_place, field_type_missing_place, result_type_missing_place, variable_type_missing_place, first_missing}
use Rattle.declarations.specs.Clashes.{field_clashes_place, method_twice_place, variable_twice_place, first_clash}
use Rattle.declarations.specs.Misfits.{end_misfit_place, first_end_misfit, override_misfit_place, first_override_misfit}
use Rattle.declarations.specs.Counts.{main_stands, main_missing_place, too_many_fields_place, first_too_many}

abbrev pub number_of : Misdeclared → ℕ
number_of (refusal.NameTaken p) = 21
number_of (refusal.NotDeclared p) = 22
number_of (refusal.Clash p) = 23
number_of (refusal.EndMisfit p) = 24
number_of (refusal.OverrideMisfit p) = 25
number_of refusal.NoMain = 26
number_of (refusal.TooManyFields p) = 27

abbrev pub place_of : Misdeclared → ℕ
place_of (refusal.NameTaken p) = p
place_of (refusal.NotDeclared p) = p
place_of (refusal.Clash p) = p
place_of (refusal.EndMisfit p) = p
place_of (refusal.OverrideMisfit p) = p
place_of refusal.NoMain = 0
place_of (refusal.TooManyFields p) = p

-- refused at the place, if there is one; else the rest is asked
abbrev pub refused_at : Option ℕ → (ℕ → Misdeclared) → Option Misdeclared → Option Misdeclared
refused_at None m rest = rest
refused_at (Some p) m rest = Some (m p)

-- the first kind of fault that occurs, at its first place
unfoldable pub misdeclared_of : List ℕ → Contents → Declared → Option Misdeclared
misdeclared_of text k d =
    refused_at (first_taken text k) refusal.NameTaken
    (refused_at (first_missing text k) refusal.NotDeclared
    (refused_at (first_clash text k d.ancestry) refusal.Clash
    (refused_at (first_end_misfit k d) refusal.EndMisfit
    (refused_at (first_override_misfit text k d) refusal.OverrideMisfit
    (refused_at (main_missing_place text k d) (λ p. refusal.NoMain) (refused_at (first_too_many k d.ancestry) refusal.TooManyFields None))))))

-- the declarations have a fault of that number at that place
pub data Fault (text : List ℕ) (k : Contents) (d : Declared) : ℕ → ℕ → Type 0 where
  name_taken : (l : Lineage) {i p : ℕ} → i < length (rows_of k l) → name_taken_place text k l i ≡ Some p → Fault text k d 21 p
  parent_missing : (l : Lineage) {i p : ℕ} → i < length (rows_of k l) → parent_missing_place text k l i ≡ Some p → Fault text k d 22 p
  end_missing : {i p : ℕ} → i < length k.relationships → end_missing_place text k i ≡ Some p → Fault text k d 22 p
  field_type_missing : {i p : ℕ} → i < length k.fields → field_type_missing_place text k i ≡ Some p → Fault text k d 22 p
  result_type_missing : {i p : ℕ} → i < length k.methods → result_type_missing_place text k i ≡ Some p → Fault text k d 22 p
  variable_type_missing : {i p : ℕ} → i < length k.variables → variable_type_missing_place text k i ≡ Some p → Fault text k d 22 p
  field_clashes : {i p : ℕ} → i < length k.fields → field_clashes_place text k d.ancestry i ≡ Some p → Fault text k d 23 p
  method_twice : {i p : ℕ} → i < length k.methods → method_twice_place text k i ≡ Some p → Fault text k d 23 p
  variable_twice : {i p : ℕ} → i < length k.variables → variable_twice_place text k i ≡ Some p → Fault text k d 23 p
  end_misfit : {i p : ℕ} → i < length k.relationships → end_misfit_place k d i ≡ Some p → Fault text k d 24 p
  override_misfit : {i p : ℕ} → i < length k.methods → override_misfit_place text k d i ≡ Some p → Fault text k d 25 p
  main_missing : main_stands text k d ≡ false → Fault text k d 26 0
  too_many_fields : (l : Lineage) {i p : ℕ} → i < length (rows_of k l) → too_many_fields_place k d.ancestry l i ≡ Some p → Fault text k d 27 p

pub record Faultless (text : List ℕ) (k : Contents) (d : Declared) : Type 0 where
  pub none : (n p : ℕ) → Fault text k d n p → ⊥

-- a fault with a number no larger than any fault's, and of that number at the first place
pub record FirstFault (text : List ℕ) (k : Contents) (d : Declared) (n p : ℕ) : Type 0 where
  pub fault : Fault text k d n p
  pub first : (m q : ℕ) → Fault text k d m q → (n < m) ⊎ ((n ≡ m) × (p ≤ q))

-- the answer of a check: it accepts exactly where there is no fault, else it tells the first
abbrev pub Judged : List ℕ → Contents → Declared → Result (Unit {0}) Misdeclared → Type 0
Judged text k d (Ok u) = Faultless text k d
Judged text k d (Err m) = FirstFault text k d (number_of m) (place_of m)
