-- What the machine accepts, and where it is stuck.
use Rattle.std.proofs.Common.{◌≡◌, Bool, true, false, cond, List, [], ◌∷◌, ◌++◌, map, Some, None, Option, sym, refl, ap, ◌∙◌, subst}
use Rattle.std.proofs.lemmas.Bool.{false≢true}
use Rattle.std.proofs.lemmas.Option.{none-some}
use Rattle.words.specs.Words.{Token}
use Rattle.grammar.specs.Machine.{Sym, runs, step, ends, either}
use Rattle.grammar.specs.Exact.{Begins, marked, next}

-- the words are accepted
abbrev pub Accepts : List Sym → List Token → Type 0
Accepts α [] = ends α ≡ true
Accepts α (w ∷ ws) = (β : List Sym) × (step α w.kind ≡ Some β) × Accepts β ws

-- the words `before` may come, and then not the first of `rest`
abbrev pub Stuck : List Sym → List Token → List Token → Type 0
Stuck α [] [] = ends α ≡ false
Stuck α [] (w ∷ ws) = step α w.kind ≡ None
Stuck α (w ∷ ws) rest = (β : List Sym) × (step α w.kind ≡ Some β) × Stuck β ws rest

pub over : (w : Token) (ws : List Token) → runs [] (w ∷ ws) ≡ Some (w ∷ ws)
unfolding runs step
over w ws = refl

pub some_inj : {A : Type 0} (a b : A) → ◌≡◌ {A = Option A} (Some a) (Some b) → a ≡ b
some_inj a b e = cc

pub stuck_from : (ws rest : List Token) (α : List Sym) → runs α ws ≡ Some rest → (before : List Token) × (ws ≡ before ++ rest) × Stuck α before rest
unfolding runs
stuck_from [] rest α e = go (ends α) refl e
  where
    go : (b : Bool) → ends α ≡ b → cond b None (Some []) ≡ Some rest → (before : List Token) × ([] ≡ before ++ rest) × Stuck α before rest
    go true f e = absurd (none-some rest e)
    go false f e = let g = some_inj [] rest e in ([], g, subst (Stuck α []) g f)
stuck_from (w ∷ ws) rest α e = go (step α w.kind) refl e (λ β f. stuck_from ws rest β f)
  where
    go : (o : Option (List Sym)) → step α w.kind ≡ o → either o (Some (w ∷ ws)) (λ β. runs β ws) ≡ Some rest
        → ((β : List Sym) → runs β ws ≡ Some rest → (before : List Token) × (ws ≡ before ++ rest) × Stuck β before rest)
        → (before : List Token) × (w ∷ ws ≡ before ++ rest) × Stuck α before rest
    go None f e h = let g = some_inj (w ∷ ws) rest e in ([], g, subst (Stuck α []) g f)
    go (Some β) f e h = let r = h β e in (w ∷ r.0, ap (λ x. w ∷ x) r.1, (β, f, r.2))

-- words that are all let pass are accepted
pub accepted_from : (ws : List Token) (α : List Sym) → runs α ws ≡ None → Accepts α ws
unfolding runs
accepted_from [] α e = go (ends α) refl e
  where
    go : (b : Bool) → ends α ≡ b → ◌≡◌ {A = Option (List Token)} (cond b None (Some [])) None → ends α ≡ true
    go true f e = f
    go false f e = absurd (none-some {A = List Token} [] (sym e))
accepted_from (w ∷ ws) α e = go (step α w.kind) refl e (λ β f. accepted_from ws β f)
  where
    go : (o : Option (List Sym)) → step α w.kind ≡ o → either o (Some (w ∷ ws)) (λ β. runs β ws) ≡ None
        → ((β : List Sym) → runs β ws ≡ None → Accepts β ws) → Accepts α (w ∷ ws)
    go None f e h = absurd (none-some (w ∷ ws) (sym e))
    go (Some β) f e h = (β, f, h β e)

pub passes : (ws : List Token) (α : List Sym) → Accepts α ws → runs α ws ≡ None
unfolding runs
passes [] α a = simp a
passes (w ∷ ws) α a = let e = a.1 in simp e (passes ws a.0 a.2)

-- what is stuck is no beginning of what is accepted
pub none_such : (before rest vs : List Token) (α : List Sym) → Stuck α before rest → Accepts α vs → Begins (map Some before ++ next rest ∷ []) (marked vs) → ⊥
none_such [] [] [] α s a b = false≢true (sym s ∙ a)
none_such [] [] (v ∷ vs) α s a b = absurd (none-some v b.0)
none_such [] (w ∷ ws) [] α s a b = absurd (none-some w (sym b.0))
none_such [] (w ∷ ws) (v ∷ vs) α s a b = absurd (none-some a.0 (sym s ∙ ap (λ x. step α x.kind) (some_inj w v b.0) ∙ a.1))
none_such (w ∷ ws) rest [] α s a b = absurd (none-some w (sym b.0))
none_such (w ∷ ws) rest (v ∷ vs) α s a b =
    let f : a.0 ≡ s.0 = some_inj a.0 s.0 (sym a.1 ∙ ap (λ x. step α x.kind) (sym (some_inj w v b.0)) ∙ s.1) in
    none_such ws rest vs s.0 s.2 (subst (λ β. Accepts β vs) f a.2) b.1
