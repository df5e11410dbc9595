-- Members found upward, by the function and as a relation.
use Rattle.std.proofs.Common.{◌≡◌, ℕ, List, Some, None, Option, sym, refl, ap, ◌∙◌, arith}
use Rattle.words.specs.Names.{name_at}
use Rattle.descent.specs.Descent.{IsLine}
use Rattle.descent.specs.Nearest.{Found, Nearest, nearest_up}
use Rattle.descent.proofs.Search.{nearest_found, nearest_same_as}
use Rattle.values.specs.declared.types.Lineage.{Lineage}
use Rattle.values.specs.declared.types.Lineage.TheVariants.{Class, Relationship}
use Rattle.values.specs.declared.types.Kind.{Kind}
use Rattle.values.specs.declared.types.Kind.TheVariants.{Boolean, Null, Row, Set}
use Rattle.values.specs.declared.types.Ty.{Ty}
use Rattle.values.specs.Fits.{Ancestry, AreLines}
use Rattle.outline.specs.Contents.{Contents}
use Rattle.values.specs.Fits.{line_in}
use Rattle.declarations.specs.Resolved.{Declared}
use Rattle.tables.specs.Items.{given}
use Rattle.typing.specs.HasType.{Upward}
use Rattle.typing.specs.Lookup.{row_of_kind, found_there, field_of, field_upward, field_from, method_of_row, method_upward, method_from}

clash : {C : Type 0} {o : Option ℕ} {m : ℕ} → o ≡ None → o ≡ Some m → C
clash p q = let z : ◌≡◌ {A = ℕ} 0 1 = cc in absurd (omega arith)

pub line_there : {a : Ancestry} → AreLines a → (l : Lineage) → IsLine (line_in a l)
line_there h Class = h.classes
line_there h Relationship = h.relationships

module _ {a : Ancestry} (lines : AreLines a) (member : Lineage → ℕ → Option ℕ) where
  -- the member found upward from row n, if the kind is a row's
  abbrev pub found_from : Kind → ℕ → Option ℕ
  found_from j n = given (row_of_kind j n) None (λ r. found_there (nearest_up (line_in a r.lineage) (member r.lineage) r.number))

  found_up : (l : Lineage) (n m : ℕ) (o : Option (ℕ × ℕ)) → Found (line_in a l) (member l) n o → found_there o ≡ Some m → (at : ℕ) × Nearest (line_in a l) (member l) n at m
  found_up l n m None f e = clash refl e
  found_up l n m (Some x) f e = let z : x.1 ≡ m = cc in (x.0, rw z at f)

  pub up_found : (t : Ty) (m : ℕ) → found_from t.kind t.row ≡ Some m → Upward a member t m
  up_found t m q = go t.kind refl q
    where
      go : (j : Kind) → t.kind ≡ j → found_from j t.row ≡ Some m → Upward a member t m
      go Boolean e q = clash refl q
      go Null e q = clash refl q
      go (Set l) e q = clash refl q
      go (Row l) e q =
          let z = found_up l t.row m _ (nearest_found (line_in a l) (member l) (line_there lines l) t.row) q in
          record { line = l; at = z.0; row = e; nearest = z.1 }

  pub found_from_lem : (t : Ty) (m : ℕ) → Upward a member t m → found_from t.kind t.row ≡ Some m
  found_from_lem t m u =
      ap (λ (j : Kind). found_from j t.row) u.row
      ∙ sym (ap found_there (nearest_same_as (line_in a u.line) (member u.line) (line_there lines u.line) t.row (Some (u.at, m)) u.nearest))

module _ (text : List ℕ) (k : Contents) (d : Declared) (lines : AreLines d.ancestry) (p : ℕ) where
  pub field_up : (t : Ty) (f : ℕ) → field_from text k d t p ≡ Some f → Upward d.ancestry (λ l. field_of text k l (name_at text p)) t f
  unfolding field_upward
  field_up t f e = up_found lines (λ l. field_of text k l (name_at text p)) t f e

  pub up_field : (t : Ty) (f : ℕ) → Upward d.ancestry (λ l. field_of text k l (name_at text p)) t f → field_from text k d t p ≡ Some f
  unfolding field_upward
  up_field t f u = found_from_lem lines (λ l. field_of text k l (name_at text p)) t f u

  pub method_up : (t : Ty) (m : ℕ) → method_from text k d t p ≡ Some m → Upward d.ancestry (λ l. method_of_row text k l (name_at text p)) t m
  unfolding method_upward
  method_up t m e = up_found lines (λ l. method_of_row text k l (name_at text p)) t m e

  pub up_method : (t : Ty) (m : ℕ) → Upward d.ancestry (λ l. method_of_row text k l (name_at text p)) t m → method_from text k d t p ≡ Some m
  unfolding method_upward
  up_method t m u = found_from_lem lines (λ l. method_of_row text k l (name_at text p)) t m u
