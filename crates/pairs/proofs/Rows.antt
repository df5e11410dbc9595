-- Laws of rows in force: one row more, and one row less, anywhere in the list.
use Rattle.std.proofs.Common.{◌≡◌, ℕ, ◌+◌, Bool, true, false, cond, not, ◌&&◌, leb, List, [], ◌∷◌, ◌++◌, length, is_some, Some, None, Option, sym, refl, ap, ◌∙◌, arith, length-append}
use Rattle.std.proofs.lemmas.Bool.{and_parts, and_from, leb-true, both_ways}
use Rattle.std.proofs.lemmas.Bool.Decides.{nat_tests}
use Rattle.pairs.specs.declared.row.Row.{Row}
use Rattle.pairs.specs.declared.row.Link.{Link}
use Rattle.pairs.specs.Rows.{alike, link, in_force, apart, small, all_small, Small}

-- whether a row is that of a relationship and two cells
abbrev pub joins : Row → ℕ → ℕ → ℕ → Bool
joins row r f t = alike row.relationship row.from row.to r f t

-- the instance in force for a row's relationship and cells
abbrev pub place_of : List Row → Row → Option ℕ
place_of rows row = in_force rows row.relationship row.from row.to

-- the same by the row's link
pub place_of_link : (rows : List Row) (row : Row) (l : Link) → l ≡ link row → place_of rows row ≡ in_force rows l.relationship l.from l.to
place_of_link rows row l e = ap (λ x. in_force rows x.relationship x.from x.to) (sym e)

-- ---- alike is an equality of three numbers

pub alike_parts : (a b c r f t : ℕ) → alike a b c r f t ≡ true → (a ≡ r) × (b ≡ f) × (c ≡ t)
alike_parts a b c r f t h = grind (arith, nat_tests)

pub alike_self : (a b c : ℕ) → alike a b c a b c ≡ true
alike_self a b c = grind (arith, nat_tests)

pub alike_flip : (a b c r f t : ℕ) → alike a b c r f t ≡ alike r f t a b c
alike_flip a b c r f t = grind (arith, nat_tests)

alike_both : (a b c d e g r f t : ℕ) → alike a b c r f t ≡ true → alike d e g r f t ≡ true → alike a b c d e g ≡ true
alike_both a b c d e g r f t h k = grind (arith, nat_tests)

pub alike_same : (a b c r f t x y z : ℕ) → alike a b c r f t ≡ true → alike a b c x y z ≡ alike r f t x y z
alike_same a b c r f t x y z h = grind (arith, nat_tests)

never_both : (x y : Row) → joins x y.relationship y.from y.to ≡ false → (r f t : ℕ) → joins x r f t ≡ true → joins y r f t ≡ true → ⊥
never_both x y differ r f t h k =
    both_ways (joins x y.relationship y.from y.to) differ
    (alike_both x.relationship x.from x.to y.relationship y.from y.to r f t h k)

-- ---- an option behind a test

none_parts : (b : Bool) (i : ℕ) (o : Option ℕ) → cond b (Some i) o ≡ None → (b ≡ false) × (o ≡ None)
none_parts true i o h = let z : ◌≡◌ {A = ℕ} 0 1 = cc in absurd (omega arith)
none_parts false i o h = (refl, h)

cond_swap : {A : Type 0} (x y : Bool) (p q o : A) → (x ≡ true → y ≡ true → ⊥) → cond x p (cond y q o) ≡ cond y q (cond x p o)
cond_swap true true p q o h = absurd (h refl refl)
cond_swap true false p q o h = refl
cond_swap false true p q o h = refl
cond_swap false false p q o h = refl

not_some : (o : Option ℕ) → o ≡ None → not (is_some o) ≡ true
not_some o h = ap (λ x. not (is_some x)) h

is_none : (o : Option ℕ) → not (is_some o) ≡ true → o ≡ None
is_none None h = refl
is_none (Some i) h = absurd (both_ways true (sym h) refl)

-- ---- the laws by which others open the definitions

pub in_force_nil : (r f t : ℕ) → in_force [] r f t ≡ None
unfolding in_force
in_force_nil r f t = refl

pub in_force_cons : (row : Row) (rows : List Row) (r f t : ℕ) → in_force (row ∷ rows) r f t ≡ cond (joins row r f t) (Some row.instance) (in_force rows r f t)
unfolding in_force
in_force_cons row rows r f t = refl

pub apart_nil : apart [] ≡ true
unfolding apart
apart_nil = refl

pub all_small_nil : all_small [] ≡ true
unfolding all_small
all_small_nil = refl

pub apart_parts : (row : Row) (rows : List Row) → apart (row ∷ rows) ≡ true → (place_of rows row ≡ None) × (apart rows ≡ true)
unfolding apart
apart_parts row rows h = let p = and_parts _ (apart rows) h in (is_none (place_of rows row) p.0, p.1)

apart_from : (row : Row) (rows : List Row) → place_of rows row ≡ None → apart rows ≡ true → apart (row ∷ rows) ≡ true
unfolding apart
apart_from row rows h k = and_from _ (apart rows) (not_some (place_of rows row) h) k

-- ---- one row more

pub in_force_more : (us vs : List Row) (row : Row) → place_of (us ++ vs) row ≡ None
    → (r f t : ℕ) → in_force (us ++ row ∷ vs) r f t ≡ cond (joins row r f t) (Some row.instance) (in_force (us ++ vs) r f t)
unfolding in_force
in_force_more [] vs row absent r f t = refl
in_force_more (a ∷ us) vs row absent r f t =
    let p = none_parts (joins a row.relationship row.from row.to) a.instance (place_of (us ++ vs) row) absent in
    ap (cond (joins a r f t) (Some a.instance)) (in_force_more us vs row p.1 r f t)
    ∙ cond_swap (joins a r f t) (joins row r f t) (Some a.instance) (Some row.instance) (in_force (us ++ vs) r f t) (never_both a row p.0 r f t)

pub apart_more : (us vs : List Row) (row : Row) → place_of (us ++ vs) row ≡ None → apart (us ++ vs) ≡ true → apart (us ++ row ∷ vs) ≡ true
apart_more [] vs row absent h = apart_from row vs absent h
apart_more (a ∷ us) vs row absent h =
    let p = none_parts (joins a row.relationship row.from row.to) a.instance (place_of (us ++ vs) row) (sym (in_force_cons a (us ++ vs) row.relationship row.from row.to) ∙ absent) in
    let q = apart_parts a (us ++ vs) h in
    apart_from a (us ++ row ∷ vs)
    (in_force_more us vs row p.1 a.relationship a.from a.to
    ∙ ap (λ b. cond b (Some row.instance) (place_of (us ++ vs) a))
    (alike_flip row.relationship row.from row.to a.relationship a.from a.to ∙ p.0)
    ∙ q.0)
    (apart_more us vs row p.1 q.1)

pub all_small_more : (us vs : List Row) (row : Row) → all_small (us ++ row ∷ vs) ≡ (small row && all_small (us ++ vs))
unfolding all_small
all_small_more [] vs row = refl
all_small_more (a ∷ us) vs row = ap (λ b. small a && b) (all_small_more us vs row) ∙ turned (small a) (small row) (all_small (us ++ vs))
  where
    turned : (x y z : Bool) → (x && (y && z)) ≡ (y && (x && z))
    turned true y z = refl
    turned false true z = refl
    turned false false z = refl

pub length_more : (us vs : List Row) (row : Row) → length (us ++ row ∷ vs) ≡ length (us ++ vs) + 1
length_more us vs row = simp length-append (omega arith)

-- ---- one row less

none_less : (us vs : List Row) (row : Row) (r f t : ℕ) → in_force (us ++ row ∷ vs) r f t ≡ None → in_force (us ++ vs) r f t ≡ None
unfolding in_force
none_less [] vs row r f t h = (none_parts (joins row r f t) row.instance (in_force vs r f t) h).1
none_less (a ∷ us) vs row r f t h =
    let p = none_parts (joins a r f t) a.instance (in_force (us ++ row ∷ vs) r f t) h in
    ap (λ b. cond b (Some a.instance) (in_force (us ++ vs) r f t)) p.0 ∙ none_less us vs row r f t p.1

pub none_left : (us vs : List Row) (r f t : ℕ) → in_force (us ++ vs) r f t ≡ None → in_force us r f t ≡ None
unfolding in_force
none_left [] vs r f t h = refl
none_left (a ∷ us) vs r f t h =
    let p = none_parts (joins a r f t) a.instance (in_force (us ++ vs) r f t) h in
    ap (λ b. cond b (Some a.instance) (in_force us r f t)) p.0 ∙ none_left us vs r f t p.1

not_joined : (us vs : List Row) (row : Row) (r f t : ℕ) → in_force (us ++ row ∷ vs) r f t ≡ None → joins row r f t ≡ false
unfolding in_force
not_joined [] vs row r f t h = (none_parts (joins row r f t) row.instance (in_force vs r f t) h).0
not_joined (a ∷ us) vs row r f t h = not_joined us vs row r f t (none_parts (joins a r f t) a.instance (in_force (us ++ row ∷ vs) r f t) h).1

pub apart_less : (us vs : List Row) (row : Row) → apart (us ++ row ∷ vs) ≡ true → (place_of (us ++ vs) row ≡ None) × (apart (us ++ vs) ≡ true)
apart_less [] vs row h = apart_parts row vs h
apart_less (a ∷ us) vs row h =
    let p = apart_parts a (us ++ row ∷ vs) h in
    let q = apart_less us vs row p.1 in
    let other : joins a row.relationship row.from row.to ≡ false =
    alike_flip a.relationship a.from a.to row.relationship row.from row.to ∙ not_joined us vs row a.relationship a.from a.to p.0 in (
      in_force_cons a (us ++ vs) row.relationship row.from row.to ∙ ap (λ b. cond b (Some a.instance) (place_of (us ++ vs) row)) other ∙ q.0,
      apart_from a (us ++ vs) (none_less us vs row a.relationship a.from a.to p.0) q.1,
    )

-- what the rows say without one of them
pub in_force_less : (us vs : List Row) (row : Row) → apart (us ++ row ∷ vs) ≡ true
    → (r f t : ℕ) → in_force (us ++ vs) r f t ≡ cond (joins row r f t) None (in_force (us ++ row ∷ vs) r f t)
in_force_less us vs row h r f t =
    let q = apart_less us vs row h in
    sym (ap (cond (joins row r f t) None) (in_force_more us vs row q.0 r f t) ∙ go (joins row r f t) refl q.0)
  where
    go : (b : Bool) → joins row r f t ≡ b → place_of (us ++ vs) row ≡ None → cond b None (cond b (Some row.instance) (in_force (us ++ vs) r f t)) ≡ in_force (us ++ vs) r f t
    go true e gone =
        let p = alike_parts row.relationship row.from row.to r f t e in
        let a = p.0 in
        let b = p.1 in
        let c = p.2 in
        cc
    go false e gone = refl

-- the instance of a row in the list
pub in_force_here : (us vs : List Row) (row : Row) → apart (us ++ row ∷ vs) ≡ true → (r f t : ℕ) → joins row r f t ≡ true
    → in_force (us ++ row ∷ vs) r f t ≡ Some row.instance
in_force_here us vs row h r f t e =
    in_force_more us vs row (apart_less us vs row h).0 r f t ∙ ap (λ b. cond b (Some row.instance) (in_force (us ++ vs) r f t)) e

-- ---- what small rows promise

pub small_row : (row : Row) → small row ≡ true → Small row
small_row row h =
    let p = and_parts (leb row.relationship 31) _ h in
    let q = and_parts (leb row.from 127) _ p.1 in
    let s = and_parts (leb row.to 127) _ q.1 in
    record {
      relationship = leb-true row.relationship 31 p.0;
      from = leb-true row.from 127 q.0;
      to = leb-true row.to 127 s.0;
      instance = leb-true row.instance 127 s.1;
    }

pub row_small : (row : Row) → Small row → small row ≡ true
row_small row s = grind (arith, nat_tests)
