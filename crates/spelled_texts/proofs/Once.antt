-- A line spells at most one text.
use Rattle.std.proofs.Common.{◌≡◌, ℕ, List, [], ◌∷◌, ◌++◌, drop, replicate, Bool, true, false, MatchBool, sym, refl, ◌∙◌, subst}
use Rattle.std.specs.List.{FoldsTo, before_first, slice_split}
use Rattle.spelled_texts.specs.declared.spelled.Spelled.{Spelled}
use Rattle.spelled_texts.specs.Spelling.{Adds, AddsPiece, IsTimes, IsNumber, Spells, has_star, spelling, is_bar, is_star}
use Rattle.spelled_texts.specs.Spelling.Adds.{none, one}

-- steps that lead to one state each lead to one state together
folds_once : {P A : Type 0} (R : P → A → P → Type 0) → ((p : P) (x : A) (q r : P) → R p x q → R p x r → q ≡ r) → (xs : List A) (p q r : P) → FoldsTo R p xs q → FoldsTo R p xs r → q ≡ r
folds_once R once [] p q r f g = sym f ∙ g
folds_once R once (x ∷ xs) p q r (j, s, f) (k, t, g) =
    folds_once R once xs k q r (subst (λ i. FoldsTo R i xs q) (once p x j k s t) f) g

adds_once : (text piece q r : List ℕ) → Adds text piece q → Adds text piece r → q ≡ r
adds_once text piece q r none none = refl
adds_once text piece q r none (one e f) = absurd (cc e)
adds_once text piece q r (one e f) none = absurd (cc e)
adds_once text piece q r (one {s = s} e f) (one {s = t} d g) =
    let same : s ≡ t = cc (e, d) in
    adds_once _ _ q r (subst (λ (u : Spelled). Adds (text ++ u.byte ∷ []) (drop u.length piece) q) same f) g

times_once : (piece : List ℕ) (n m : ℕ) → IsTimes piece n → IsTimes piece m → n ≡ m
times_once piece n m h k = go (has_star piece) h k where
  go : (b : Bool) → MatchBool b (IsNumber (before_first is_star piece) n) (n ≡ 1) → MatchBool b (IsNumber (before_first is_star piece) m) (m ≡ 1) → n ≡ m
  go true h k = h.1 ∙ sym k.1
  go false h k = h ∙ sym k

piece_once : (text piece q r : List ℕ) → AddsPiece text piece q → AddsPiece text piece r → q ≡ r
piece_once text piece q r (n, s, f) (m, t, g) =
    folds_once Adds adds_once (replicate m (spelling piece)) text q r (subst (λ i. FoldsTo Adds text (replicate i (spelling piece)) q) (times_once piece n m s t) f) g

pub spells_once : (line q r : List ℕ) → Spells line q → Spells line r → q ≡ r
spells_once line q r = folds_once AddsPiece piece_once (slice_split is_bar line) [] q r
