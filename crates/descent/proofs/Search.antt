-- The search upward: its steps, that it has one answer, and the function that computes it.
use Rattle.std.proofs.Common.{◌≡◌, ℕ, zero, suc, ◌<◌, ◌≤◌, List, length, get_or, Some, None, Option, sym, refl, inl, inr, arith}
use Rattle.std.proofs.lemmas.Bool.{cases_eq, cases_lt, lt-ltb, le-ltb, eq-eqb, ne_eqb}
use Rattle.descent.specs.Descent.{IsLine, Parent, Descends, itself, upward}
use Rattle.descent.specs.Nearest.{Nearest, Lacking, Found, climb, nearest_up}
use Rattle.descent.proofs.Order.{starts, ends, over, single, antisymmetric, rooted, parent_of, parent_smaller, transitive}

clash : {M : Type 0} {C : Type 0} {o : Option M} {m : M} → o ≡ None → o ≡ Some m → C
clash p q = let z : ◌≡◌ {A = ℕ} 0 1 = cc in absurd (omega arith)

-- a search from a has come to row c: a descends to it, and the rows on the way have no member
pub record Passed {M : Type 0} (line : List ℕ) (member : ℕ → Option M) (a c : ℕ) : Type 0 where
  pub upward : Descends line a c
  pub none : (r : ℕ) → Descends line a r → Descends line r c → (r ≡ c → ⊥) → member r ≡ None

module _ {M : Type 0} {line : List ℕ} {member : ℕ → Option M} (l : IsLine line) where
  pub passed_none : (a : ℕ) → a < length line → Passed line member a a
  passed_none a h = record { upward = itself h; none = λ r d e ne. absurd (ne (antisymmetric l e d)) }

  pub passed_more : {a c p : ℕ} → Passed line member a c → None ≡ member c → Parent line c p → p < length line → Passed line member a p
  passed_more {a} {c} {p} s e h k =
      let b : Descends line c p = upward h (itself k) in
      record {
        upward = transitive s.upward b;
        none = λ r d f ne.
            elim (cases_eq r c) [
              | inl z ↦ rw z (sym e)
              | inr apart ↦ elim (single d s.upward) [
                | inl g ↦ s.none r d g apart
                | inr g ↦ absurd (ne (antisymmetric l f (over h g apart)))
              ]
            ];
      }

  pub passed_all : {a c : ℕ} → Passed line member a c → None ≡ member c → c ≡ 0 → Lacking line member a
  passed_all {a} {c} s e z =
      record {
        none = λ r d.
            elim (cases_eq r c) [
              | inl y ↦ rw y (sym e)
              | inr apart ↦ let t = rooted l r (ends d) in s.none r d (rw z t) apart
            ];
      }

  pub passed_found : {a c : ℕ} {m : M} → Passed line member a c → Some m ≡ member c → Nearest line member a c m
  passed_found s e = record { upward = s.upward; has = sym e; between = s.none }

  pub lacking_absent : (a : ℕ) → length line ≤ a → Lacking line member a
  lacking_absent a h = record { none = λ r d. let k = starts d in absurd (omega arith) }

  -- there is one answer
  pub nearest_same : {a f g : ℕ} {m n : M} → Nearest line member a f m → Nearest line member a g n → (f ≡ g) × (m ≡ n)
  nearest_same {a} {f} {g} {m} {n} x y =
      let e : f ≡ g =
      elim (cases_eq f g) [
        | inl z ↦ z
        | inr apart ↦ elim (single x.upward y.upward) [
          | inl d ↦ clash (y.between f x.upward d apart) x.has
          | inr d ↦ clash (x.between g y.upward d (λ z. apart (sym z))) y.has
        ]
      ] in
      let p : member g ≡ Some m = rw e at x.has in
      (e, cc (p, y.has))

module _ {M : Type 0} (line : List ℕ) (member : ℕ → Option M) (l : IsLine line) where
  pub found_same : (a : ℕ) (x y : Option (ℕ × M)) → Found line member a x → Found line member a y → x ≡ y
  found_same a None None p q = refl
  found_same a None (Some y) p q = clash (p.none y.0 q.upward) q.has
  found_same a (Some x) None p q = clash (q.none x.0 p.upward) p.has
  found_same a (Some (f, m)) (Some (g, n)) p q = let e = nearest_same l p q in cc (e.0, e.1)

  -- the function gives it
  climb_found : {a : ℕ} (n c : ℕ) → c ≤ n → c < length line → Passed line member a c → (o : Option M) → member c ≡ o → Found line member a (climb n line member c)
  unfolding climb
  climb_found zero c h k s (Some m) e = simp e (passed_found l s (sym e))
  climb_found (suc n) c h k s (Some m) e = simp e (passed_found l s (sym e))
  climb_found zero c h k s None e = simp e (passed_all l s (sym e) (omega arith))
  climb_found (suc n) c h k s None e =
      elim (cases_eq c 0) [
        | inl z ↦ let t = eq-eqb c 0 z in simp (e, t) (passed_all l s (sym e) z)
        | inr ne ↦
            let t = ne_eqb c 0 ne in
            let p = parent_of l c (omega arith) k in
            let m = parent_smaller l p in
            let u : get_or line c 0 < length line = omega arith in
            simp (e, t) (climb_found n (get_or line c 0) (omega arith) u (passed_more l s (sym e) p u) (member (get_or line c 0)) refl)
      ]

  pub nearest_found : (a : ℕ) → Found line member a (nearest_up line member a)
  unfolding nearest_up
  nearest_found a =
      elim (cases_lt a (length line)) [
        | inl h ↦ let t = lt-ltb a (length line) h in simp t (climb_found a a (omega arith) h (passed_none l a h) (member a) refl)
        | inr h ↦ let t = le-ltb a (length line) h in simp t (lacking_absent l a h)
      ]

  pub nearest_same_as : (a : ℕ) (x : Option (ℕ × M)) → Found line member a x → x ≡ nearest_up line member a
  nearest_same_as a x f = found_same a x (nearest_up line member a) f (nearest_found a)
