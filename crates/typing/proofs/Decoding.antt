-- What the numbers of types stand for.
use Rattle.std.proofs.Common.{◌≡◌, ℕ, ◌+◌, ◌-◌, ◌<◌, ◌≤◌, true, cond, ltb, Some, None, sym, ap, ◌∙◌, arith}
use Rattle.std.proofs.lemmas.Bool.{lt-ltb, le-ltb, cond-true, cond-false, eqb-true}
use Rattle.values.specs.declared.types.Lineage.{Lineage}
use Rattle.values.specs.declared.types.Lineage.TheVariants.{Class, Relationship}
use Rattle.values.specs.declared.types.Kind.{Kind}
use Rattle.values.specs.declared.types.Kind.TheVariants.{Boolean, Null, Row, Set}
use Rattle.values.specs.declared.types.Ty.{Ty}
use Rattle.values.specs.Kinds.{plain_row}
use Rattle.values.specs.Types.{boolean, null_type, row_type, set_type}
use Rattle.values.proofs.SameType.{ty_same}
use Rattle.typing.specs.Coding.{plainly, decoded, row_code}

pub at_plain : (n : ℕ) → n < 256 → decoded n ≡ plainly n
unfolding decoded
at_plain n h = cond-true (ltb n 256) _ _ (lt-ltb _ _ h)

pub at_class : (n : ℕ) → 256 ≤ n → n < 512 → decoded n ≡ Some (row_type Class (n - 256))
unfolding decoded
at_class n h k = cond-false (ltb n 256) _ _ (le-ltb _ _ h) ∙ cond-true (ltb n 512) _ _ (lt-ltb _ _ k)

pub at_relationship : (n : ℕ) → 512 ≤ n → n < 768 → decoded n ≡ Some (row_type Relationship (n - 512))
unfolding decoded
at_relationship n h k =
    cond-false (ltb n 256) _ _ (le-ltb _ _ (omega arith))
    ∙ cond-false (ltb n 512) _ _ (le-ltb _ _ h)
    ∙ cond-true (ltb n 768) _ _ (lt-ltb _ _ k)

pub at_class_set : (n : ℕ) → 768 ≤ n → n < 1024 → decoded n ≡ Some (set_type Class (n - 768))
unfolding decoded
at_class_set n h k =
    cond-false (ltb n 256) _ _ (le-ltb _ _ (omega arith))
    ∙ cond-false (ltb n 512) _ _ (le-ltb _ _ (omega arith))
    ∙ cond-false (ltb n 768) _ _ (le-ltb _ _ h)
    ∙ cond-true (ltb n 1024) _ _ (lt-ltb _ _ k)

past_sets : (n : ℕ) → 1024 ≤ n → decoded n ≡ cond (ltb n 1280) (Some (set_type Relationship (n - 1024))) None
unfolding decoded
past_sets n h =
    cond-false (ltb n 256) _ _ (le-ltb _ _ (omega arith))
    ∙ cond-false (ltb n 512) _ _ (le-ltb _ _ (omega arith))
    ∙ cond-false (ltb n 768) _ _ (le-ltb _ _ (omega arith))
    ∙ cond-false (ltb n 1024) _ _ (le-ltb _ _ h)

pub at_relationship_set : (n : ℕ) → 1024 ≤ n → n < 1280 → decoded n ≡ Some (set_type Relationship (n - 1024))
at_relationship_set n h k = past_sets n h ∙ cond-true (ltb n 1280) _ _ (lt-ltb _ _ k)

pub at_none : (n : ℕ) → 1280 ≤ n → decoded n ≡ None
at_none n h = past_sets n (omega arith) ∙ cond-false (ltb n 1280) _ _ (le-ltb _ _ h)

-- a kind with no row has the number 0

clash : {C : Type 0} → ◌≡◌ {A = ℕ} 0 1 → C
clash z = absurd (omega arith)

boolean_row : (j : Kind) (n : ℕ) → plain_row j n ≡ true → Boolean ≡ j → 0 ≡ n
boolean_row Boolean n p e = sym (eqb-true n 0 p)
boolean_row Null n p e = clash (cc)
boolean_row (Row l) n p e = clash (cc)
boolean_row (Set l) n p e = clash (cc)

null_row : (j : Kind) (n : ℕ) → plain_row j n ≡ true → Null ≡ j → 0 ≡ n
null_row Null n p e = sym (eqb-true n 0 p)
null_row Boolean n p e = clash (cc)
null_row (Row l) n p e = clash (cc)
null_row (Set l) n p e = clash (cc)

-- a type is what its number stands for

pub code_boolean : (t : Ty) → Boolean ≡ t.kind → decoded 1 ≡ Some t
unfolding decoded
code_boolean t e = ap Some (ty_same boolean t e (boolean_row t.kind t.row t.plain e))

pub code_null : (t : Ty) → Null ≡ t.kind → decoded 2 ≡ Some t
unfolding decoded
code_null t e = ap Some (ty_same null_type t e (null_row t.kind t.row t.plain e))

pub code_row : (l : Lineage) (t : Ty) (n r : ℕ) → Row l ≡ t.kind → n ≡ t.row → n < 256 → r ≡ row_code l n → decoded r ≡ Some t
code_row Class t n r e f h g =
    let z : r - 256 ≡ t.row = omega arith in
    at_class r (omega arith) (omega arith) ∙ ap Some (ty_same (row_type Class (r - 256)) t e z)
code_row Relationship t n r e f h g =
    let z : r - 512 ≡ t.row = omega arith in
    at_relationship r (omega arith) (omega arith) ∙ ap Some (ty_same (row_type Relationship (r - 512)) t e z)

pub code_set : (l : Lineage) (t : Ty) (n r : ℕ) → Set l ≡ t.kind → n ≡ t.row → n < 256 → r ≡ row_code l n → decoded (r + 512) ≡ Some t
code_set Class t n r e f h g =
    let z : (r + 512) - 768 ≡ t.row = omega arith in
    at_class_set (r + 512) (omega arith) (omega arith) ∙ ap Some (ty_same (set_type Class ((r + 512) - 768)) t e z)
code_set Relationship t n r e f h g =
    let z : (r + 512) - 1024 ≡ t.row = omega arith in
    at_relationship_set (r + 512) (omega arith) (omega arith) ∙ ap Some (ty_same (set_type Relationship ((r + 512) - 1024)) t e z)
