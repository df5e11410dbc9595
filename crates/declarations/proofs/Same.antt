-- Equality of lineages, rows and kinds, as definitions test it.
use Rattle.std.proofs.Common.{◌≡◌, Bool, true, false, Decides, refl, subst, ap}
use Rattle.std.specs.Bool.{one_answer}
use Rattle.std.proofs.lemmas.Bool.{both_ways, and_parts, and_from, eqb-true, eq-eqb}
use Rattle.values.specs.declared.types.Lineage.{Lineage}
use Rattle.values.specs.declared.types.Lineage.TheVariants.{Class, Relationship}
use Rattle.values.specs.declared.types.Kind.{Kind}
use Rattle.values.specs.declared.types.Kind.TheVariants as kinds
use Rattle.values.specs.declared.types.CellRow.{CellRow}
use Rattle.values.specs.Fits.{same_lineage}
use Rattle.declarations.specs.Descending.{same_row}
use Rattle.declarations.specs.Counts.{is_boolean}

never : {C : Type 0} → false ≡ true → C
never e = absurd (both_ways false refl e)

lineage_true : (l m : Lineage) → same_lineage l m ≡ true → l ≡ m
lineage_true Class Class e = refl
lineage_true Class Relationship e = never e
lineage_true Relationship Class e = never e
lineage_true Relationship Relationship e = refl

lineage_itself : (l : Lineage) → same_lineage l l ≡ true
lineage_itself Class = refl
lineage_itself Relationship = refl

lineage_decides : (l m : Lineage) → Decides (same_lineage l m) (l ≡ m)
lineage_decides l m = (lineage_true l m, λ e. subst (λ k. same_lineage l k ≡ true) e (lineage_itself l))

pub lineage_is : (b : Bool) (l m : Lineage) → Decides b (l ≡ m) → b ≡ same_lineage l m
lineage_is b l m d = one_answer b (same_lineage l m) d (lineage_decides l m)

row_true : (r s : CellRow) → same_row r s ≡ true → r ≡ s
row_true r s e =
    let h = and_parts _ _ e in
    let p = lineage_true r.lineage s.lineage h.0 in
    let q = eqb-true r.number s.number h.1 in λ i. record { lineage = p i; number = q i }

row_from : (r s : CellRow) → r ≡ s → same_row r s ≡ true
row_from r s e = subst (λ t. same_row r t ≡ true) e (and_from _ _ (lineage_itself r.lineage) (eq-eqb r.number r.number refl))

pub row_is : (b : Bool) (r s : CellRow) → Decides b (r ≡ s) → b ≡ same_row r s
row_is b r s d = one_answer b (same_row r s) d (row_true r s, row_from r s)

boolean_true : (k : Kind) → is_boolean k ≡ true → k ≡ kinds.Boolean
boolean_true kinds.Boolean e = refl
boolean_true kinds.Null e = never e
boolean_true (kinds.Row l) e = never e
boolean_true (kinds.Set l) e = never e

pub boolean_is : (b : Bool) (k : Kind) → Decides b (k ≡ kinds.Boolean) → b ≡ is_boolean k
boolean_is b k d = one_answer b (is_boolean k) d (boolean_true k, λ e. ap is_boolean e)
