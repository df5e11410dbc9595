-- Which types fit which, over any lines of descent.
use Rattle.std.specs.Prelude.{◌≡◌, ℕ, ◌<◌, Bool, true, false, ◌&&◌, ◌||◌, List, length, ◌==◌, nat_lt}
use Rattle.descent.specs.Descent.{Descends, IsLine, descends_to}
use Rattle.values.specs.declared.types.Lineage.{Lineage}
use Rattle.values.specs.declared.types.Lineage.TheVariants.{Class, Relationship}
use Rattle.values.specs.declared.types.Kind.{Kind}
use Rattle.values.specs.declared.types.Kind.TheVariants.{Boolean, Null, Row, Set}
use Rattle.values.specs.declared.types.Ty.{Ty}

-- the parents of the rows of each line
pub record Ancestry : Type 0 where
  pub classes : List ℕ
  pub relationships : List ℕ

-- the line of a lineage
abbrev pub line_in : Ancestry → Lineage → List ℕ
line_in a Class = a.classes
line_in a Relationship = a.relationships

pub record AreLines (a : Ancestry) : Type 0 where
  pub classes : IsLine a.classes
  pub relationships : IsLine a.relationships

-- row m of one line fits row n of the same or another line: it descends to it, or a relationship stands as an Object, class row 0
pub data RowFits (a : Ancestry) : Lineage → ℕ → Lineage → ℕ → Type 0 where
  class_row : {m n : ℕ} → Descends a.classes m n → RowFits a Class m Class n
  relationship_row : {m n : ℕ} → Descends a.relationships m n → RowFits a Relationship m Relationship n
  as_object : {m n : ℕ} → m < length a.relationships → n ≡ 0 → RowFits a Relationship m Class n

-- a type fits itself, whatever its number; a row fits by descent; null fits every row; sets fit as their rows do
pub data Fits (a : Ancestry) (s t : Ty) : Type 0 where
  fits_itself : s ≡ t → Fits a s t
  fits_row : {k l : Lineage} → s.kind ≡ Row k → t.kind ≡ Row l → RowFits a k s.row l t.row → Fits a s t
  null_fits : {l : Lineage} → s.kind ≡ Null → t.kind ≡ Row l → Fits a s t
  fits_set : {k l : Lineage} → s.kind ≡ Set k → t.kind ≡ Set l → RowFits a k s.row l t.row → Fits a s t

-- The same as tests, for definitions that compute.
unfoldable pub row_fits_to : Ancestry → Lineage → ℕ → Lineage → ℕ → Bool
row_fits_to a Class m Class n = descends_to a.classes m n
row_fits_to a Class m Relationship n = false
row_fits_to a Relationship m Class n = n == 0 && nat_lt m (length a.relationships)
row_fits_to a Relationship m Relationship n = descends_to a.relationships m n

-- a test of the line of a row, or of a set's row; false at every other kind
abbrev pub at_row : Kind → (Lineage → Bool) → Bool
at_row Boolean f = false
at_row Null f = false
at_row (Row l) f = f l
at_row (Set l) f = false

abbrev pub at_set : Kind → (Lineage → Bool) → Bool
at_set Boolean f = false
at_set Null f = false
at_set (Row l) f = false
at_set (Set l) f = f l

-- of two types that differ
abbrev pub kind_fits_to : Ancestry → Kind → ℕ → Kind → ℕ → Bool
kind_fits_to a Boolean m t n = false
kind_fits_to a Null m t n = at_row t (λ l. true)
kind_fits_to a (Row k) m t n = at_row t (λ l. row_fits_to a k m l n)
kind_fits_to a (Set k) m t n = at_set t (λ l. row_fits_to a k m l n)

abbrev pub same_lineage : Lineage → Lineage → Bool
same_lineage Class Class = true
same_lineage Class Relationship = false
same_lineage Relationship Class = false
same_lineage Relationship Relationship = true

abbrev pub same_kind : Kind → Kind → Bool
same_kind Boolean Boolean = true
same_kind Boolean Null = false
same_kind Boolean (Row l) = false
same_kind Boolean (Set l) = false
same_kind Null Boolean = false
same_kind Null Null = true
same_kind Null (Row l) = false
same_kind Null (Set l) = false
same_kind (Row k) t = at_row t (same_lineage k)
same_kind (Set k) t = at_set t (same_lineage k)

unfoldable pub same_type : Ty → Ty → Bool
same_type s t = same_kind s.kind t.kind && s.row == t.row

unfoldable pub fits_to : Ancestry → Ty → Ty → Bool
fits_to a s t = same_type s t || kind_fits_to a s.kind s.row t.kind t.row
