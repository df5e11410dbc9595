-- What one word, or none, does to what is expected.
use Rattle.std.proofs.Common.{◌≡◌, ℕ, Bool, true, false, ◌&&◌, List, [], ◌∷◌, Some, None, sym, refl, ap, ◌∙◌, inl, inr}
use Rattle.std.proofs.lemmas.Bool.{cases_Bool, and_left, and_right}
use Rattle.words.specs.declared.kind.Kind.{Kind}
use Rattle.words.specs.declared.kind.Kind.TheVariants as kind
use Rattle.words.specs.Kinds.{is}
use Rattle.words.specs.Words.{Token}
use Rattle.grammar.specs.declared.parser.Parser.{Parser}
use Rattle.grammar.specs.declared.parser.reading.Unexpected.{Unexpected}
use Rattle.grammar.specs.Machine.{Sym, word, start, more, named, runs, step, begin, onward, ends, either, Use, Form, inner, closes, compares, assigns, settable, literal_word}
use Rattle.grammar.specs.Told.{rest, kind_at, place_at, Took, Fails, Leads}
use Rattle.grammar.specs.Trees.{tok}
use Rattle.grammar.proofs.WordKinds.{is_same, is_other, is_true}

-- a word that may come
pub step_leads : (k : Kind) (α β : List Sym) {p q : Parser} {at : ℕ} → step α k ≡ Some β → Took k p q at → runs α (rest p) ≡ runs β (rest q)
unfolding runs
step_leads k α β {p} {q} h t =
    ap (runs α) t.words ∙ ap (λ o. either o (Some (tok k t.mark ∷ rest q)) (λ γ. runs γ (rest q))) h

-- a word that is expected
pub took_leads : {k : Kind} {p q : Parser} {at : ℕ} → Took k p q at → (α : List Sym) → runs (word k ∷ α) (rest p) ≡ runs α (rest q)
unfolding step
took_leads {k} {p} {q} t α = step_leads k (word k ∷ α) α (rw (is_same k k refl)) t

-- no word, and not the end, may come
pub stuck_at : (α : List Sym) (ws : List Token) → ends α ≡ false → ((k : Kind) → kind_at ws ≡ Some k → step α k ≡ None) → runs α ws ≡ Some ws
unfolding runs
stuck_at α [] e h = rw e
stuck_at α (w ∷ ws) e h = rw (h w.kind refl)

-- what fails later fails
pub fails_after : {s q : Parser} {e : Unexpected} (γ δ : Sym) (then : List Sym → List Sym) → Leads s γ q (λ α. δ ∷ then α) → q.end ≡ s.end → Fails q δ e → Fails s γ e
fails_after γ δ then lead end f = record {
  from = f.from;
  stuck = λ α. lead α ∙ f.stuck (then α);
  place_is = f.place_is ∙ ap (λ n. place_at n f.from) end;
}

-- the first word is not of kind k
pub not_kind : (k j : Kind) (ws : List Token) → (kind_at ws ≡ Some k → ⊥) → kind_at ws ≡ Some j → is k j ≡ false
not_kind k j ws ne e = is_other k j (λ f. ne (e ∙ ap Some (sym f)))

pub ne_first : (k : Kind) (w : Token) (ws : List Token) → (kind_at (w ∷ ws) ≡ Some k → ⊥) → is k w.kind ≡ false
ne_first k w ws ne = is_other k w.kind (λ f. ne (ap Some (sym f)))

pub ne_both : (k : Kind) (b : Bool) (w : Token) (ws : List Token) → (kind_at (w ∷ ws) ≡ Some k → b ≡ false) → (is k w.kind && b) ≡ false
ne_both k b w ws h = elim (cases_Bool (is k w.kind)) [ inl t ↦ and_right _ _ (h (ap Some (is_true k w.kind t))) | inr t ↦ and_left _ _ t ]

-- an item of an expression, or of a side of ==, ends where no word goes on with it
pub more_done : (u : Use) (f : Form) (α : List Sym) (ws : List Token)
    → (kind_at ws ≡ Some kind.Dot → ⊥) → (kind_at ws ≡ Some kind.Colon → ⊥)
    → (kind_at ws ≡ Some kind.Equal → compares u ≡ false) → (kind_at ws ≡ Some kind.Assign → (assigns u && settable f) ≡ false)
    → closes u f ≡ true → runs (more u f ∷ α) ws ≡ runs α ws
unfolding runs step ends onward
more_done u f α [] nd nc nq na c = rw c
more_done u f α (w ∷ ws) nd nc nq na c =
    let d = ne_first kind.Dot w ws nd in
    let e = ne_first kind.Colon w ws nc in
    let q = ne_both kind.Equal (compares u) w ws nq in
    let a = ne_both kind.Assign (assigns u && settable f) w ws na in
    simp (d, e, q, a, c)

pub named_done : (u : Use) (α : List Sym) (ws : List Token) → (kind_at ws ≡ Some kind.OpenParen → ⊥) → runs (named u ∷ α) ws ≡ runs (more u inner ∷ α) ws
unfolding runs step ends
named_done u α [] ne = refl
named_done u α (w ∷ ws) ne = let h = ne_first kind.OpenParen w ws ne in simp h

pub start_stops : (u : Use) (α : List Sym) (ws : List Token) → (kind_at ws ≡ Some kind.Name → ⊥) → ((k : Kind) → kind_at ws ≡ Some k → literal_word k ≡ false) → (kind_at ws ≡ Some kind.New → ⊥) → (kind_at ws ≡ Some kind.OpenParen → ⊥) → runs (start u ∷ α) ws ≡ Some ws
unfolding step ends begin
start_stops u α ws a b c d =
    stuck_at (start u ∷ α) ws refl (λ k e. let h = not_kind kind.Name k ws a e in let l = b k e in let n = not_kind kind.New k ws c e in let o = not_kind kind.OpenParen k ws d e in simp (h, l, n, o))
