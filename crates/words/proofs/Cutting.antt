-- How the words of a text follow one another.
use Rattle.std.proofs.Common.{◌≡◌, ℕ, zero, suc, pred, ◌+◌, ◌<◌, ◌≤◌, Bool, true, false, cond, ◌&&◌, List, [], ◌∷◌, length, drop, Some, None, Option, refl, ap, ◌∙◌, subst, add-zero, one-add, arith, drop-drop}
use Rattle.std.proofs.lemmas.List.Sums.{prefix_len-le-length}
use Rattle.std.proofs.lemmas.Bool.{or_left}
use Rattle.std.specs.List.{prefix_len}
use Rattle.words.specs.declared.bytes.Begins.TheVariants.{Name, Sign}
use Rattle.words.specs.declared.kind.Kind.{Kind}
use Rattle.words.specs.declared.kind.Kind.TheVariants.{Assign, Equal}
use Rattle.words.specs.declared.spelling.Front.{Front}
use Rattle.words.specs.Bytes.{within, begins, letter, name_byte, separator, sign_of, signed}
use Rattle.words.specs.Spelling.{begun, front, front_of, equals_second}
use Rattle.words.specs.Kinds.{is}
use Rattle.words.specs.Words.{Token, token, cut}

-- what is left of a word that began before
pub cut_skip : (p n : ℕ) (s : List ℕ) → cut p n s ≡ cut (p + n) 0 (drop n s)
unfolding cut
cut_skip p zero s = rw add-zero
cut_skip p (suc n) [] = refl
cut_skip p (suc n) (b ∷ bs) = cut_skip (p + 1) n bs ∙ ap (λ k. cut k 0 (drop n bs)) (omega arith)

-- a word has a byte at least, and no more than there are
pub record Sized (s : List ℕ) (f : Front) : Type 0 where
  pub some : 0 < f.size
  pub within : f.size ≤ length s

two_bytes : (s : List ℕ) → equals_second s ≡ true → 2 ≤ length s
two_bytes [] e = let z : ◌≡◌ {A = ℕ} 0 1 = cc in absurd (omega arith)
two_bytes (a ∷ []) e = let z : ◌≡◌ {A = ℕ} 0 1 = cc in absurd (omega arith)
two_bytes (a ∷ b ∷ bs) e = omega arith

sign_sized : (k : Kind) (b : ℕ) (bs : List ℕ) → Sized (b ∷ bs) (begun (Sign k) (b ∷ bs))
sign_sized k b bs = go (is k Assign) (equals_second (b ∷ bs)) refl
  where
    go : (t e : Bool) → equals_second (b ∷ bs) ≡ e → Sized (b ∷ bs) (cond (t && e) (front Equal 2) (front k 1))
    go true true h = record { some = omega arith; within = two_bytes (b ∷ bs) h }
    go true false h = record { some = omega arith; within = omega arith }
    go false true h = record { some = omega arith; within = omega arith }
    go false false h = record { some = omega arith; within = omega arith }

sized : (b : ℕ) (bs : List ℕ) → Sized (b ∷ bs) (begun (begins b) (b ∷ bs))
sized b bs = go (letter b) (sign_of b) refl
  where
    go : (t : Bool) (o : Option Kind) → letter b ≡ t → Sized (b ∷ bs) (begun (cond t Name (signed o)) (b ∷ bs))
    go true o e =
        let h : name_byte b ≡ true = or_left (letter b) (within 48 57 b) e in
        record { some = simp h (omega arith); within = prefix_len-le-length name_byte (b ∷ bs) }
    go false None e = record { some = omega arith; within = omega arith }
    go false (Some k) e = sign_sized k b bs

pub front_sized : (s : List ℕ) (f : Front) → front_of s ≡ Some f → Sized s f
front_sized [] f e = let z : ◌≡◌ {A = ℕ} 0 1 = cc in absurd (omega arith)
front_sized (b ∷ bs) f e = let h : begun (begins b) (b ∷ bs) ≡ f = cc in subst (Sized (b ∷ bs)) h (sized b bs)

-- the words after the word at the front, or none
abbrev pub rest_of : ℕ → List ℕ → Option Front → List Token
rest_of p s None = []
rest_of p s (Some f) = token p s f ∷ cut (p + f.size) 0 (drop f.size s)

after_word : (p n b : ℕ) (bs : List ℕ) → 0 < n → cut (p + 1) (pred n) bs ≡ cut (p + n) 0 (drop n (b ∷ bs))
after_word p zero b bs h = absurd (omega arith)
after_word p (suc n) b bs h = cut_skip (p + 1) n bs ∙ ap (λ k. cut k 0 (drop n bs)) (omega arith)

by_first : (t : Bool) (p k b : ℕ) (bs : List ℕ) → cut (p + 1) 0 bs ≡ rest_of (p + 1 + k) (drop k bs) (front_of (drop k bs))
    → cond t (cut (p + 1) 0 bs) (token p (b ∷ bs) (begun (begins b) (b ∷ bs)) ∷ cut (p + 1) (pred (begun (begins b) (b ∷ bs)).size) bs)
    ≡ rest_of (p + cond t (1 + k) 0) (drop (cond t (1 + k) 0) (b ∷ bs)) (front_of (drop (cond t (1 + k) 0) (b ∷ bs)))
by_first true p k b bs e = rw (one-add k) (e ∙ ap (λ q. rest_of q (drop k bs) (front_of (drop k bs))) (omega arith))
by_first false p k b bs e = rw (add-zero p) (ap (λ ts. token p (b ∷ bs) (begun (begins b) (b ∷ bs)) ∷ ts) (after_word p (begun (begins b) (b ∷ bs)).size b bs (sized b bs).some))

-- the words of some bytes are those from the first byte on that is no separator
pub settle : (p : ℕ) (s : List ℕ) → cut p 0 s ≡ rest_of (p + prefix_len separator s) (drop (prefix_len separator s) s) (front_of (drop (prefix_len separator s) s))
unfolding cut
settle p [] = refl
settle p (b ∷ bs) = by_first (separator b) p (prefix_len separator bs) b bs (settle (p + 1) bs)

-- the words of a text from `at` on, where k separators come first
pub next_front : (text : List ℕ) (at k : ℕ) → k ≡ prefix_len separator (drop at text)
    → cut at 0 (drop at text) ≡ rest_of (at + k) (drop (at + k) text) (front_of (drop (at + k) text))
next_front text at k e =
    rw e (settle at (drop at text) ∙ ap (λ s. rest_of (at + prefix_len separator (drop at text)) s (front_of s)) (drop-drop (prefix_len separator (drop at text)) at text))
