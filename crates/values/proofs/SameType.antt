-- Types with the same kind and row are equal.
use Rattle.std.proofs.Common.{◌≡◌, Bool, true, false, Decides, refl, ap}
use mathlib.Core.Bool.{Bool-set}
use mathlib.Core.HLevel.{is_prop→PathP}
use Rattle.values.specs.declared.types.Ty.{Ty}
use Rattle.std.proofs.lemmas.Bool.{both_ways, and_parts, and_from, eqb-true, eq-eqb}
use Rattle.values.specs.declared.types.Kind.{Kind}
use Rattle.values.specs.declared.types.Kind.TheVariants.{Boolean, Null, Row, Set}
use Rattle.values.specs.declared.types.Lineage.{Lineage}
use Rattle.values.specs.declared.types.Lineage.TheVariants.{Class, Relationship}
use Rattle.values.specs.Fits.{same_lineage, same_kind, same_type}
use Rattle.values.specs.Kinds.{plain_row}

pub ty_same : (s t : Ty) → s.kind ≡ t.kind → s.row ≡ t.row → s ≡ t
ty_same s t p q =
    λ i. record {
      kind = p i;
      row = q i;
      plain = is_prop→PathP (λ j. plain_row (p j) (q j) ≡ true) (λ j. Bool-set _ _) s.plain t.plain i;
    }

-- where `==` compares both fields, it tells
pub ty_told : {s t : Ty} {r : Bool} → Decides r ((s.kind ≡ t.kind) × (s.row ≡ t.row)) → Decides r (s ≡ t)
ty_told {s} {t} d = (λ e. let h = d.0 e in ty_same s t h.0 h.1, λ e. d.1 (ap (λ u. u.kind) e, ap (λ u. u.row) e))

pub never : {C : Type 0} → false ≡ true → C
never e = absurd (both_ways false refl e)

pub lineages_apart : Class ≡ Relationship → ⊥
lineages_apart e = never (ap (same_lineage Relationship) e)

lineage_true : (k l : Lineage) → same_lineage k l ≡ true → k ≡ l
lineage_true Class Class e = refl
lineage_true Class Relationship e = never e
lineage_true Relationship Class e = never e
lineage_true Relationship Relationship e = refl

lineage_itself : (l : Lineage) → same_lineage l l ≡ true
lineage_itself Class = refl
lineage_itself Relationship = refl

kind_true : (j k : Kind) → same_kind j k ≡ true → j ≡ k
kind_true Boolean Boolean e = refl
kind_true Boolean Null e = never e
kind_true Boolean (Row l) e = never e
kind_true Boolean (Set l) e = never e
kind_true Null Boolean e = never e
kind_true Null Null e = refl
kind_true Null (Row l) e = never e
kind_true Null (Set l) e = never e
kind_true (Row k) Boolean e = never e
kind_true (Row k) Null e = never e
kind_true (Row k) (Row l) e = ap Row (lineage_true k l e)
kind_true (Row k) (Set l) e = never e
kind_true (Set k) Boolean e = never e
kind_true (Set k) Null e = never e
kind_true (Set k) (Row l) e = never e
kind_true (Set k) (Set l) e = ap Set (lineage_true k l e)

kind_itself : (k : Kind) → same_kind k k ≡ true
kind_itself Boolean = refl
kind_itself Null = refl
kind_itself (Row l) = lineage_itself l
kind_itself (Set l) = lineage_itself l

pub same_decides : (s t : Ty) → Decides (same_type s t) (s ≡ t)
unfolding same_type
same_decides s t = (
  λ e.
      let h = and_parts (same_kind s.kind t.kind) _ e in
      ty_same s t (kind_true s.kind t.kind h.0) (eqb-true s.row t.row h.1),
  λ e. rw (← e) (and_from _ _ (kind_itself s.kind) (eq-eqb s.row s.row refl)),
)
