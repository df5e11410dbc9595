-- The laws of descent, shown once for every line.
use Rattle.std.proofs.Common.{◌≡◌, ℕ, zero, suc, ◌<◌, ◌≤◌, Bool, true, ltb, ◌⊎◌, List, [], ◌∷◌, length, get_or, Decides, refl, inl, inr, arith}
use Rattle.std.proofs.lemmas.Bool.{cases_eq, cases_Bool, ltb-true, eqb-true, lt-ltb, le-ltb, eq-eqb, and_parts, and_from, both_ways}
use Rattle.std.proofs.lemmas.Bool.Decides.{same_from_decides}
use Rattle.descent.specs.Descent.{IsLine, Parent, Descends, itself, upward, Chain, top, under, Order, climbs, descends_to}

pub transitive : {line : List ℕ} {a b c : ℕ} → Descends line a b → Descends line b c → Descends line a c
transitive (itself h) e = e
transitive (upward p d) e = upward p (transitive d e)

pub starts : {line : List ℕ} {a b : ℕ} → Descends line a b → a < length line
starts (itself h) = h
starts (upward p d) = p.there

pub ends : {line : List ℕ} {a b : ℕ} → Descends line a b → b < length line
ends (itself h) = h
ends (upward p d) = ends d

pub same_parent : {line : List ℕ} {a p q : ℕ} → Parent line a p → Parent line a q → p ≡ q
same_parent h k = cc

-- of two rows upward from one row, one descends to the other
pub single : {line : List ℕ} {a b c : ℕ} → Descends line a b → Descends line a c → Descends line b c ⊎ Descends line c b
single (itself h) e = inl e
single (upward p d) (itself k) = inr (upward p d)
single {line} {c = c} (upward p d) (upward {p = r} q e) =
    let g = same_parent q p in
    let f : Descends line _ c = rw g at e in
    single d f

-- upward from a, but not a itself: upward from its parent
pub over : {line : List ℕ} {a p b : ℕ} → Parent line a p → Descends line a b → (b ≡ a → ⊥) → Descends line p b
over h (itself k) ne = absurd (ne refl)
over {line} {b = b} h (upward q d) ne = let g = same_parent q h in rw g at d

module _ {line : List ℕ} (l : IsLine line) where
  pub parent_smaller : {a p : ℕ} → Parent line a p → p < a
  parent_smaller {a} h = let k = l.smaller a h.under h.there in omega arith

  pub parent_of : (a : ℕ) → 0 < a → a < length line → Parent line a (get_or line a 0)
  parent_of a h k = record { under = h; there = k; is = refl }

  -- only the root has no parent
  pub root_from : (a : ℕ) → a < length line → ((p : ℕ) → Parent line a p → ⊥) → a ≡ 0
  root_from a h none = elim (cases_eq a 0) [ inl z ↦ z | inr ne ↦ absurd (none (get_or line a 0) (parent_of a (omega arith) h)) ]

  pub falling : {a b : ℕ} → Descends line a b → b ≤ a
  falling (itself h) = omega arith
  falling (upward p d) = let k = parent_smaller p in let m = falling d in omega arith

  pub antisymmetric : {a b : ℕ} → Descends line a b → Descends line b a → a ≡ b
  antisymmetric d e = let h = falling d in let k = falling e in omega arith

  -- nothing descends to a row with a larger number
  pub below_none : {C : Type 0} {a b : ℕ} → a < b → Descends line a b → C
  below_none h d = let k = falling d in absurd (omega arith)

  pub chain : (n a : ℕ) → a ≤ n → a < length line → (rows : List ℕ) × Chain line a rows
  chain zero a h k = (a ∷ [], top (omega arith) k)
  chain (suc n) a h k =
      elim (cases_eq a 0) [
        | inl z ↦ (a ∷ [], top z k)
        | inr ne ↦
            let p = parent_of a (omega arith) k in
            let s = parent_smaller p in
            let c = chain n (get_or line a 0) (omega arith) (omega arith) in
            (a ∷ c.0, under p c.1)
      ]

  pub chain_rooted : {a : ℕ} {rows : List ℕ} → Chain line a rows → Descends line a 0
  chain_rooted {a} (top z k) = let h : 0 < length line = omega arith in rw z (itself h)
  chain_rooted (under p c) = upward p (chain_rooted c)

  pub rooted : (a : ℕ) → a < length line → Descends line a 0
  rooted a h = chain_rooted (chain a a (omega arith) h).1

  -- the test tells: where its steps suffice
  climbs_true : (n a b : ℕ) → a < length line → climbs n line a b ≡ true → Descends line a b
  unfolding climbs
  climbs_true zero a b k e = let z = eqb-true a b e in rw (← z) (itself k)
  climbs_true (suc n) a b k e =
      elim (cases_Bool (ltb b a)) [
        | inl t ↦
            let s = ltb-true b a t in
            let p = parent_of a (omega arith) k in
            let m = parent_smaller p in
            upward p (climbs_true n (get_or line a 0) b (omega arith) (simp t at e))
        | inr f ↦ let z = eqb-true a b (simp f at e) in rw (← z) (itself k)
      ]

  climbs_from : {a b : ℕ} (n : ℕ) → a ≤ n → Descends line a b → climbs n line a b ≡ true
  unfolding climbs
  climbs_from {a} zero h (itself k) = eq-eqb a a refl
  climbs_from {a} zero h (upward p d) = let u = p.under in absurd (omega arith)
  climbs_from {a} (suc n) h (itself k) = let f = le-ltb a a (omega arith) in simp f (eq-eqb a a refl)
  climbs_from {a} {b} (suc n) h (upward {p = q} p d) =
      let m = parent_smaller p in
      let s = falling d in
      let t = lt-ltb b a (omega arith) in
      simp (t, p.is) (climbs_from n (omega arith) d)

  pub descends_decides : (a b : ℕ) → Decides (descends_to line a b) (Descends line a b)
  unfolding descends_to
  descends_decides a b = (
    λ e. let h = and_parts (ltb a (length line)) (climbs a line a b) e in climbs_true a a b (ltb-true a (length line) h.0) h.1,
    λ d. and_from (ltb a (length line)) (climbs a line a b) (lt-ltb a (length line) (starts d)) (climbs_from a (omega arith) d),
  )

  pub descends_same : (a b : ℕ) (r : Bool) → Decides r (Descends line a b) → r ≡ descends_to line a b
  descends_same a b r d = same_from_decides r (descends_to line a b) d (descends_decides a b)

  pub decidable : (a b : ℕ) → Descends line a b ⊎ (Descends line a b → ⊥)
  decidable a b =
      elim (cases_Bool (descends_to line a b)) [
        | inl e ↦ inl ((descends_decides a b).0 e)
        | inr e ↦ inr (λ d. both_ways (descends_to line a b) e ((descends_decides a b).1 d))
      ]

  pub laws : Order line
  laws = record {
    reflexive = λ a h. itself h;
    transitive = λ a b c. transitive;
    antisymmetric = λ a b. antisymmetric;
    rooted = rooted;
    falling = λ a b. falling;
    there = λ a b d. (starts d, ends d);
    single = λ a b c. single;
    decidable = decidable;
    ending = λ a h. chain a a (omega arith) h;
  }
