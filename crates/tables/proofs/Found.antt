-- What the searches over numbers find.
use Rattle.std.proofs.Common.{◌≡◌, ℕ, zero, suc, ◌+◌, ◌<◌, ◌≤◌, Bool, true, false, cond, ◌⊎◌, Some, None, Option, sym, refl, ap, ◌∙◌, inl, inr, add-one, arith}
use Rattle.std.proofs.lemmas.Bool.{both_ways, cases_eq, cases_lt, cases_Bool, or_cases, or_left, or_right, or_from}
use Rattle.tables.specs.Below.{any_below, first_below, count_below, lesser, least_below, or_else}

clash : {M : Type 0} {C : Type 0} {o : Option M} {m : M} → o ≡ None → o ≡ Some m → C
clash p q = let z : ◌≡◌ {A = ℕ} 0 1 = cc in absurd (omega arith)

some_same : {M : Type 0} {m n : M} → Some m ≡ Some n → m ≡ n
some_same p = cc

-- one step of the search for the first

first_step : (o : Option ℕ) (b : Bool) (n i : ℕ) → or_else o (cond b (Some n) None) ≡ Some i → (o ≡ Some i) ⊎ ((o ≡ None) × (b ≡ true) × (n ≡ i))
first_step (Some x) b n i e = inl e
first_step None true n i e = inr (refl, refl, some_same e)
first_step None false n i e = clash refl e

first_step_none : (o : Option ℕ) (b : Bool) (n : ℕ) → or_else o (cond b (Some n) None) ≡ None → (o ≡ None) × (b ≡ false)
first_step_none (Some x) b n e = clash e refl
first_step_none None true n e = clash e refl
first_step_none None false n e = (refl, refl)

first_both : (o : Option ℕ) (b : Bool) (n : ℕ) → o ≡ None → b ≡ false → or_else o (cond b (Some n) None) ≡ None
first_both None false n p q = refl
first_both None true n p q = absurd (both_ways true q refl)
first_both (Some x) b n p q = clash p refl

first_stop : (o : Option ℕ) (b : Bool) (n : ℕ) → o ≡ None → b ≡ true → or_else o (cond b (Some n) None) ≡ Some n
first_stop None true n p q = refl
first_stop None false n p q = absurd (both_ways false refl q)
first_stop (Some x) b n p q = clash p refl

first_keep : (o : Option ℕ) (b : Bool) (n i : ℕ) → o ≡ Some i → or_else o (cond b (Some n) None) ≡ Some i
first_keep None b n i p = clash refl p
first_keep (Some x) b n i p = p

cond_few : (b : Bool) → cond b 1 0 ≤ 1
cond_few true = omega arith
cond_few false = omega arith

module _ (f : ℕ → Bool) where
  -- some number passes

  pub some_any : (n i : ℕ) → i < n → f i ≡ true → any_below f n ≡ true
  unfolding any_below
  some_any zero i h e = absurd (omega arith)
  some_any (suc n) i h e =
      elim (cases_eq i n) [
        | inl z ↦ or_right (any_below f n) (f n) (rw (← z) e)
        | inr apart ↦ or_left (any_below f n) (f n) (some_any n i (omega arith) e)
      ]

  pub any_some : (n : ℕ) → any_below f n ≡ true → (i : ℕ) × (i < n) × (f i ≡ true)
  unfolding any_below
  any_some zero e = absurd (both_ways false refl e)
  any_some (suc n) e =
      elim (or_cases (any_below f n) (f n) e) [
        | inl h ↦ let k = any_some n h in (k.0, omega (arith, k.1), k.2)
        | inr h ↦ (n, omega arith, h)
      ]

  -- none passes
  pub any_none : (n i : ℕ) → any_below f n ≡ false → i < n → f i ≡ false
  any_none n i e h =
      elim (cases_Bool (f i)) [
        | inl t ↦ absurd (both_ways _ e (some_any n i h t))
        | inr t ↦ t
      ]

  pub none_any : (n : ℕ) → ((i : ℕ) → i < n → f i ≡ false) → any_below f n ≡ false
  none_any n h =
      elim (cases_Bool (any_below f n)) [
        | inl t ↦ let k = any_some n t in absurd (both_ways _ (h k.0 k.1) k.2)
        | inr t ↦ t
      ]

  pub any_start : any_below f 0 ≡ false
  unfolding any_below
  any_start = refl

  pub any_more : (n : ℕ) → any_below f n ≡ false → f n ≡ false → any_below f (n + 1) ≡ false
  unfolding any_below
  any_more n p q = rw add-one (or_from (any_below f n) (f n) p q)

  -- the first that passes

  pub first_none : (n : ℕ) → first_below f n ≡ None → (i : ℕ) → i < n → f i ≡ false
  unfolding first_below
  first_none zero e i h = absurd (omega arith)
  first_none (suc n) e i h =
      let s = first_step_none (first_below f n) (f n) n e in
      elim (cases_eq i n) [
        | inl z ↦ rw z s.1
        | inr apart ↦ first_none n s.0 i (omega arith)
      ]

  pub first_passes : (n p : ℕ) → first_below f n ≡ Some p → (p < n) × (f p ≡ true)
  unfolding first_below
  first_passes zero p e = clash refl e
  first_passes (suc n) p e =
      elim (first_step (first_below f n) (f n) n p e) [
        | inl h ↦ let k = first_passes n p h in (omega (arith, k.0), k.1)
        | inr h ↦ (omega (arith, h.2), rw (← h.2) h.1)
      ]

  pub first_lowest : (n p : ℕ) → first_below f n ≡ Some p → (i : ℕ) → i < n → f i ≡ true → p ≤ i
  unfolding first_below
  first_lowest zero p e i h t = absurd (omega arith)
  first_lowest (suc n) p e i h t =
      elim (first_step (first_below f n) (f n) n p e) [
        | inl k ↦ elim (cases_eq i n) [
          | inl z ↦ let b = first_passes n p k in omega (arith, b.0)
          | inr apart ↦ first_lowest n p k i (omega arith) t
        ]
        | inr k ↦ elim (cases_eq i n) [
          | inl z ↦ omega (arith, k.2)
          | inr apart ↦ absurd (both_ways _ (first_none n k.0 i (omega arith)) t)
        ]
      ]

  pub first_found : (n i : ℕ) → first_below f i ≡ None → i < n → f i ≡ true → first_below f n ≡ Some i
  unfolding first_below
  first_found zero i e h t = absurd (omega arith)
  first_found (suc n) i e h t =
      elim (cases_eq i n) [
        | inl z ↦
            let e' : first_below f n ≡ None = rw (← z) e in
            let t' : f n ≡ true = rw (← z) t in
            first_stop (first_below f n) (f n) n e' t' ∙ ap Some (sym z)
        | inr apart ↦ first_keep (first_below f n) (f n) n i (first_found n i e (omega arith) t)
      ]

  pub first_start : first_below f 0 ≡ None
  unfolding first_below
  first_start = refl

  pub first_more : (n : ℕ) → first_below f n ≡ None → f n ≡ false → first_below f (n + 1) ≡ None
  unfolding first_below
  first_more n p q = rw add-one (first_both (first_below f n) (f n) n p q)

  -- how many pass

  pub count_few : (n : ℕ) → count_below f n ≤ n
  unfolding count_below
  count_few zero = omega arith
  count_few (suc n) = omega (arith, count_few n, cond_few (f n))

  pub count_start : count_below f 0 ≡ 0
  unfolding count_below
  count_start = refl

  pub count_more : (n : ℕ) → count_below f (n + 1) ≡ count_below f n + cond (f n) 1 0
  unfolding count_below
  count_more n = rw add-one

  pub count_pass : (n : ℕ) → true ≡ f n → count_below f (n + 1) ≡ count_below f n + 1
  count_pass n t = count_more n ∙ ap (λ (b : Bool). count_below f n + cond b 1 0) (sym t)

  pub count_fail : (n : ℕ) → false ≡ f n → count_below f (n + 1) ≡ count_below f n
  count_fail n t = let e = count_more n ∙ ap (λ (b : Bool). count_below f n + cond b 1 0) (sym t) in omega arith

-- one step of the search for the least

lesser_none : (a b : Option ℕ) → lesser a b ≡ None → (a ≡ None) × (b ≡ None)
lesser_none None b e = (refl, e)
lesser_none (Some p) None e = clash e refl
lesser_none (Some p) (Some q) e = clash e refl

lesser_one : (a b : Option ℕ) (p : ℕ) → lesser a b ≡ Some p → (a ≡ Some p) ⊎ (b ≡ Some p)
lesser_one None b p e = inr e
lesser_one (Some x) None p e = inl e
lesser_one (Some x) (Some y) p e =
    let m = some_same e in
    elim (cases_lt x y) [
      | inl h ↦ let z : x ≡ p = omega arith in inl (ap Some z)
      | inr h ↦ let z : y ≡ p = omega arith in inr (ap Some z)
    ]

lesser_left : (a b : Option ℕ) (p q : ℕ) → lesser a b ≡ Some p → a ≡ Some q → p ≤ q
lesser_left None b p q e h = clash refl h
lesser_left (Some x) None p q e h = let z : p ≡ q = cc in omega arith
lesser_left (Some x) (Some y) p q e h = let m = some_same e in let k = some_same h in omega arith

lesser_right : (a b : Option ℕ) (p q : ℕ) → lesser a b ≡ Some p → b ≡ Some q → p ≤ q
lesser_right None b p q e h = let z : p ≡ q = cc in omega arith
lesser_right (Some x) None p q e h = clash refl h
lesser_right (Some x) (Some y) p q e h = let m = some_same e in let k = some_same h in omega arith

lesser_step : (a b : Option ℕ) (p q : ℕ) → lesser a b ≡ Some p → (a ≡ None → ⊥) → ((r : ℕ) → a ≡ Some r → r ≤ q) → p ≤ q
lesser_step None b p q e there low = absurd (there refl)
lesser_step (Some r) b p q e there low = omega (arith, lesser_left (Some r) b p r e refl, low r refl)

module _ (f : ℕ → Option ℕ) where
  pub least_start : least_below f 0 ≡ None
  unfolding least_below
  least_start = refl

  pub least_more : (n : ℕ) → least_below f (n + 1) ≡ lesser (least_below f n) (f n)
  unfolding least_below
  least_more n = rw add-one

  -- one turn of a search that keeps the least so far
  pub least_next : (n : ℕ) (best place next : Option ℕ) → best ≡ least_below f n → place ≡ f n → next ≡ lesser best place → next ≡ least_below f (n + 1)
  least_next n best place next p q r = let m = least_more n in cc

  pub least_none : (n : ℕ) → least_below f n ≡ None → (i : ℕ) → i < n → f i ≡ None
  unfolding least_below
  least_none zero e i h = absurd (omega arith)
  least_none (suc n) e i h =
      let s = lesser_none (least_below f n) (f n) e in
      elim (cases_eq i n) [
        | inl z ↦ rw z s.1
        | inr apart ↦ least_none n s.0 i (omega arith)
      ]

  pub least_among : (n p : ℕ) → least_below f n ≡ Some p → (i : ℕ) × (i < n) × (f i ≡ Some p)
  unfolding least_below
  least_among zero p e = clash refl e
  least_among (suc n) p e =
      elim (lesser_one (least_below f n) (f n) p e) [
        | inl h ↦ let k = least_among n p h in (k.0, omega (arith, k.1), k.2)
        | inr h ↦ (n, omega arith, h)
      ]

  pub least_lowest : (n p : ℕ) → least_below f n ≡ Some p → (i q : ℕ) → i < n → f i ≡ Some q → p ≤ q
  unfolding least_below
  least_lowest zero p e i q h t = absurd (omega arith)
  least_lowest (suc n) p e i q h t =
      elim (cases_eq i n) [
        | inl z ↦ lesser_right (least_below f n) (f n) p q e (rw (← z) t)
        | inr apart ↦
            lesser_step (least_below f n) (f n) p q e
            (λ o. clash (least_none n o i (omega arith)) t)
            (λ r o. least_lowest n r o i q (omega arith) t)
      ]
