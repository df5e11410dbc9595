-- The laws of fitting.
use Rattle.std.proofs.Common.{◌≡◌, ℕ, ◌&&◌, eqb, ltb, Bool, true, false, length, Decides, sym, refl, inl, inr, arith}
use Rattle.std.proofs.lemmas.Bool.{both_ways, eqb-true, eq-eqb, ltb-true, lt-ltb, and_parts, and_from, cases_Bool, or_left}
use Rattle.std.proofs.lemmas.Bool.Decides.{Decides-at, same_from_decides}
use Rattle.descent.specs.Descent.{descends_to}
use Rattle.descent.proofs.Order as order
use Rattle.descent.proofs.Rows.{is_line}
use Rattle.values.specs.declared.types.Lineage.{Lineage}
use Rattle.values.specs.declared.types.Lineage.TheVariants.{Class, Relationship}
use Rattle.values.specs.declared.types.Kind.{Kind}
use Rattle.values.specs.declared.types.Kind.TheVariants.{Boolean, Null, Row, Set}
use Rattle.values.specs.declared.types.Ty.{Ty}
use Rattle.values.specs.declared.lines.Lines.{Lines}
use Rattle.values.specs.Fits.{Ancestry, AreLines, RowFits, class_row, relationship_row, as_object, Fits, fits_itself, fits_row, null_fits, fits_set, line_in, row_fits_to, kind_fits_to, same_type, fits_to}
use Rattle.values.specs.Lines.{ancestry}
use Rattle.values.proofs.SameType.{never, lineages_apart, same_decides}

pub are_lines : (l : Lines) → AreLines (ancestry l)
unfolding ancestry
are_lines l = record { classes = is_line l.classes; relationships = is_line l.relationships }

-- rows of one line, and of two
pub fits_in_line : (a : Ancestry) (k l : Lineage) (m n : ℕ) → k ≡ l → row_fits_to a k m l n ≡ descends_to (line_in a k) m n
unfolding row_fits_to
fits_in_line a Class Class m n e = refl
fits_in_line a Class Relationship m n e = absurd (lineages_apart e)
fits_in_line a Relationship Class m n e = absurd (lineages_apart (sym e))
fits_in_line a Relationship Relationship m n e = refl

pub class_fits_none : (a : Ancestry) (l : Lineage) (m n : ℕ) → (Class ≡ l → ⊥) → row_fits_to a Class m l n ≡ false
unfolding row_fits_to
class_fits_none a Class m n ne = absurd (ne refl)
class_fits_none a Relationship m n ne = refl

pub relationship_fits : (a : Ancestry) (l : Lineage) (m n : ℕ) → (Relationship ≡ l → ⊥) → row_fits_to a Relationship m l n ≡ (eqb n 0 && ltb m (length a.relationships))
unfolding row_fits_to
relationship_fits a Class m n ne = refl
relationship_fits a Relationship m n ne = absurd (ne refl)

module _ {a : Ancestry} (lines : AreLines a) where
  pub row_transitive : {j k l : Lineage} {m n o : ℕ} → RowFits a j m k n → RowFits a k n l o → RowFits a j m l o
  row_transitive (class_row d) (class_row e) = class_row (order.transitive d e)
  row_transitive (relationship_row d) (relationship_row e) = relationship_row (order.transitive d e)
  row_transitive (relationship_row d) (as_object h z) = as_object (order.starts d) z
  row_transitive (as_object h z) (class_row e) = let f = order.falling lines.classes e in as_object h (omega arith)

  pub row_fits_decides : (k : Lineage) (m : ℕ) (l : Lineage) (n : ℕ) → Decides (row_fits_to a k m l n) (RowFits a k m l n)
  unfolding row_fits_to
  row_fits_decides Class m Class n =
      let d = order.descends_decides lines.classes m n in
      (λ e. class_row (d.0 e), λ f. elim f [ class_row e ↦ d.1 e ])
  row_fits_decides Class m Relationship n = (λ e. absurd (both_ways false refl e), λ f. elim f [ ])
  row_fits_decides Relationship m Class n = (
    λ e. let h = and_parts _ _ e in as_object (ltb-true m (length a.relationships) h.1) (eqb-true n 0 h.0),
    λ f. elim f [ as_object h z ↦ and_from _ _ (eq-eqb n 0 z) (lt-ltb m (length a.relationships) h) ],
  )
  row_fits_decides Relationship m Relationship n =
      let d = order.descends_decides lines.relationships m n in
      (λ e. relationship_row (d.0 e), λ f. elim f [ relationship_row e ↦ d.1 e ])

  -- a test that says what the function says tells
  pub row_told : {k l : Lineage} {m n : ℕ} {r : Bool} → r ≡ row_fits_to a k m l n
      → record { relation : Decides r (RowFits a k m l n); same : r ≡ row_fits_to a k m l n }
  row_told {k} {l} {m} {n} {r} e = record { relation = Decides-at r _ e (row_fits_decides k m l n); same = e }

  kinds_fit : (s t : Ty) (k l : Kind) → s.kind ≡ k → t.kind ≡ l → kind_fits_to a k s.row l t.row ≡ true → Fits a s t
  kinds_fit s t Boolean l p q e = never e
  kinds_fit s t Null Boolean p q e = never e
  kinds_fit s t Null Null p q e = never e
  kinds_fit s t Null (Row l) p q e = null_fits p q
  kinds_fit s t Null (Set l) p q e = never e
  kinds_fit s t (Row k) Boolean p q e = never e
  kinds_fit s t (Row k) Null p q e = never e
  kinds_fit s t (Row k) (Row l) p q e = fits_row p q ((row_fits_decides k s.row l t.row).0 e)
  kinds_fit s t (Row k) (Set l) p q e = never e
  kinds_fit s t (Set k) Boolean p q e = never e
  kinds_fit s t (Set k) Null p q e = never e
  kinds_fit s t (Set k) (Row l) p q e = never e
  kinds_fit s t (Set k) (Set l) p q e = fits_set p q ((row_fits_decides k s.row l t.row).0 e)

  -- of two types that differ, the test of their kinds tells
  pub fits_apart : (s t : Ty) → (s ≡ t → ⊥) → Decides (kind_fits_to a s.kind s.row t.kind t.row) (Fits a s t)
  fits_apart s t ne = (kinds_fit s t s.kind t.kind refl refl, back)
    where
      back : Fits a s t → kind_fits_to a s.kind s.row t.kind t.row ≡ true
      back (fits_itself e) = absurd (ne e)
      back (fits_row {k} {l} p q r) = simp (p, q) ((row_fits_decides k s.row l t.row).1 r)
      back (null_fits p q) = simp (p, q)
      back (fits_set {k} {l} p q r) = simp (p, q) ((row_fits_decides k s.row l t.row).1 r)

  pub fits_decides : (s t : Ty) → Decides (fits_to a s t) (Fits a s t)
  unfolding fits_to
  fits_decides s t =
      elim (cases_Bool (same_type s t)) [
        | inl e ↦ (λ x. fits_itself ((same_decides s t).0 e), λ f. or_left (same_type s t) _ e)
        | inr e ↦ simp e (fits_apart s t (λ z. both_ways (same_type s t) e ((same_decides s t).1 z)))
      ]

  pub fits_same : (s t : Ty) (r : Bool) → Decides r (Fits a s t) → r ≡ fits_to a s t
  fits_same s t r d = same_from_decides r (fits_to a s t) d (fits_decides s t)
