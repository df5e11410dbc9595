-- Only the keywords of its own size can be a word.
use Rattle.std.proofs.Common.{◌≡◌, ℕ, Bool, true, false, List, [], ◌∷◌, length, refl, ap, inl, inr, arith}
use Rattle.std.proofs.lemmas.Slice.Eq.{bytes_eq-Decides}
use Rattle.std.proofs.lemmas.Bool.{cases_Bool}
use Rattle.std.specs.Str.{bytes_eq}
use Rattle.words.specs.Spelling.{Keyword, among, of_size}

pub by_size : (p : ℕ → Bool) (ws : List Keyword) (bs : List ℕ) → p (length bs) ≡ true → among ws bs ≡ among (of_size p ws) bs
by_size p [] bs e = refl
by_size p (w ∷ ws) bs e =
    elim (cases_Bool (p (length w.bytes))) [
      | inl h ↦ simp (h, by_size p ws bs e)
      | inr h ↦ elim (cases_Bool (bytes_eq bs w.bytes)) [
        | inl s ↦ let l = ap length ((bytes_eq-Decides bs w.bytes).0 s) in let z : ◌≡◌ {A = Bool} true false = cc in let y : ◌≡◌ {A = ℕ} 0 1 = cc in absurd (omega arith)
        | inr s ↦ simp (h, s, by_size p ws bs e)
      ]
    ]
