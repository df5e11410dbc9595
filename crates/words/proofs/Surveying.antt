-- A text's words, seen one after another.
use Rattle.std.proofs.Common.{◌≡◌, ℕ, zero, suc, pred, ◌+◌, ◌-◌, ◌<◌, ◌≤◌, max, Bool, true, false, cond, ◌&&◌, leb, List, [], ◌∷◌, length, Some, None, Ok, Err, Option, Result, refl, sym, ap, ◌∙◌, arith}
use Rattle.std.proofs.lemmas.Bool.{le-ltb, lt-ltb}
use Rattle.words.specs.declared.kind.Kind.{Kind}
use Rattle.words.specs.declared.kind.Kind.TheVariants.{Fault}
use Rattle.words.specs.declared.nesting.Nesting.{Nesting}
use Rattle.words.specs.declared.refusal.Unreadable.{Unreadable}
use Rattle.words.specs.declared.refusal.Unreadable.TheVariants.{TooLong, NotAllowed, TooDeep}
use Rattle.words.specs.declared.survey.Extent.{Extent}
use Rattle.words.specs.Bytes.{begins, separator}
use Rattle.words.specs.Kinds.{is}
use Rattle.words.specs.Nesting.{opens, closes, open_after, too_deep, deepest}
use Rattle.words.specs.Nests.{nesting, first_some, passed}
use Rattle.words.specs.Spelling.{begun}
use Rattle.words.specs.Surveys.{first_fault, refused_at, extent, surveyed}
use Rattle.words.specs.Words.{Token, cut, token, words}

few_first : (t : Bool) (p b : ℕ) (bs : List ℕ) → length (cut (p + 1) 0 bs) ≤ length bs
    → length (cut (p + 1) (pred (begun (begins b) (b ∷ bs)).size) bs) ≤ length bs
    → length (cond t (cut (p + 1) 0 bs) (token p (b ∷ bs) (begun (begins b) (b ∷ bs)) ∷ cut (p + 1) (pred (begun (begins b) (b ∷ bs)).size) bs)) ≤ length (b ∷ bs)
few_first true p b bs h k = omega arith
few_first false p b bs h k = omega arith

-- there are no more words than bytes
pub cut_few : (p n : ℕ) (s : List ℕ) → length (cut p n s) ≤ length s
unfolding cut
cut_few p n [] = omega arith
cut_few p (suc n) (b ∷ bs) = let h = cut_few (p + 1) n bs in omega arith
cut_few p zero (b ∷ bs) = few_first (separator b) p b bs (cut_few (p + 1) 0 bs) (cut_few (p + 1) (pred (begun (begins b) (b ∷ bs)).size) bs)

-- what is said of the text, where the brackets stand as n after k words and the words ws are still to come
abbrev pub conclude : Nesting → ℕ → List Token → Result Extent Unreadable
conclude n k ws =
    refused_at (first_fault ws) NotAllowed
    (refused_at (first_some n.over (too_deep n.depth ws)) TooDeep
    (Ok (extent (k + length ws) (max n.most (deepest n.depth ws)))))

deep_at_least : (d : ℕ) (ws : List Token) → d ≤ deepest d ws
unfolding deepest
deep_at_least d [] = omega arith
deep_at_least d (w ∷ ws) = omega arith

-- a place found before stays the first
first_stays : (l : Bool) (v : Option ℕ) (p : ℕ) (t : Option ℕ) → first_some v (cond l (Some p) t) ≡ first_some (first_some v (cond l (Some p) None)) t
first_stays true None p t = refl
first_stays true (Some q) p t = refl
first_stays false None p t = refl
first_stays false (Some q) p t = refl

-- the ends are the same where their parts are
joined : (f u v : Option ℕ) {j k m n : ℕ} → u ≡ v → j ≡ k → m ≡ n
    → refused_at f NotAllowed (refused_at u TooDeep (Ok (extent j m))) ≡ refused_at f NotAllowed (refused_at v TooDeep (Ok (extent k n)))
joined f u v a b c = λ i. refused_at f NotAllowed (refused_at (a i) TooDeep (Ok (extent (b i) (c i))))

same_end : (o c : Bool) (n : Nesting) (k p : ℕ) (ws : List Token) → n.depth ≤ n.most
    → refused_at (first_fault ws) NotAllowed
    (refused_at (first_some n.over (cond (o && leb 16 n.depth) (Some p) (too_deep (cond o (n.depth + 1) (cond c (n.depth - 1) n.depth)) ws))) TooDeep
    (Ok (extent (k + suc (length ws)) (max n.most (max n.depth (deepest (cond o (n.depth + 1) (cond c (n.depth - 1) n.depth)) ws))))))
    ≡ conclude (cond o (nesting (n.depth + 1) (max n.most (n.depth + 1)) (first_some n.over (cond (leb 16 n.depth) (Some p) None))) (cond c (nesting (n.depth - 1) n.most n.over) n)) (k + 1) ws
same_end true c n k p ws h =
    let d = deep_at_least (n.depth + 1) ws in
    joined (first_fault ws) _ _ (first_stays (leb 16 n.depth) n.over p (too_deep (n.depth + 1) ws)) (omega arith) (omega arith)
same_end false true n k p ws h = let d = deep_at_least (n.depth - 1) ws in joined (first_fault ws) _ _ refl (omega arith) (omega arith)
same_end false false n k p ws h = let d = deep_at_least n.depth ws in joined (first_fault ws) _ _ refl (omega arith) (omega arith)

-- a word that is allowed is passed
pub conclude_word : (n : Nesting) (k : ℕ) (w : Token) (ws : List Token) → is w.kind Fault ≡ false → n.depth ≤ n.most
    → conclude n k (w ∷ ws) ≡ conclude (passed n w.kind w.place) (k + 1) ws
unfolding first_fault too_deep deepest open_after
conclude_word n k w ws e h =
    ap (λ t. refused_at (cond t (Some w.place) (first_fault ws)) NotAllowed
    (refused_at (first_some n.over (too_deep n.depth (w ∷ ws))) TooDeep (Ok (extent (k + suc (length ws)) (max n.most (deepest n.depth (w ∷ ws))))))) e
    ∙ same_end (opens w.kind) (closes w.kind) n k w.place ws h

-- a word that is not allowed is refused at its place
pub conclude_fault : (n : Nesting) (k : ℕ) (w : Token) (ws : List Token) → is w.kind Fault ≡ true → conclude n k (w ∷ ws) ≡ Err (NotAllowed w.place)
unfolding first_fault
conclude_fault n k w ws e = simp e

ended : (v : Option ℕ) {j k m n : ℕ} → j ≡ k → m ≡ n → refused_at (first_some v None) TooDeep (Ok (extent j m)) ≡ refused_at v TooDeep (Ok (extent k n))
ended None a b = λ i. Ok (extent (a i) (b i))
ended (Some p) a b = refl

pub conclude_none : (n : Nesting) (k : ℕ) → n.depth ≤ n.most → conclude n k [] ≡ refused_at n.over TooDeep (Ok (extent k n.most))
unfolding first_fault too_deep deepest
conclude_none n k h = ended n.over (omega arith) (omega arith)

-- brackets stay below the words, and below the most that were open
pub depth_below : (n : Nesting) (j : Kind) (p k : ℕ) → n.depth ≤ k → (passed n j p).depth ≤ k + 1
depth_below n j p k h = go (opens j) (closes j)
  where
    go : (o c : Bool) → (cond o (nesting (n.depth + 1) (max n.most (n.depth + 1)) (first_some n.over (cond (leb 16 n.depth) (Some p) None))) (cond c (nesting (n.depth - 1) n.most n.over) n)).depth ≤ k + 1
    go true c = omega arith
    go false true = omega arith
    go false false = omega arith

pub depth_most : (n : Nesting) (j : Kind) (p : ℕ) → n.depth ≤ n.most → (passed n j p).depth ≤ (passed n j p).most
depth_most n j p h = go (opens j) (closes j)
  where
    go : (o c : Bool) → (cond o (nesting (n.depth + 1) (max n.most (n.depth + 1)) (first_some n.over (cond (leb 16 n.depth) (Some p) None))) (cond c (nesting (n.depth - 1) n.most n.over) n)).depth
        ≤ (cond o (nesting (n.depth + 1) (max n.most (n.depth + 1)) (first_some n.over (cond (leb 16 n.depth) (Some p) None))) (cond c (nesting (n.depth - 1) n.most n.over) n)).most
    go true c = omega arith
    go false true = omega arith
    go false false = omega arith

-- a text that is not too long, before its first word
pub surveyed_short : (text : List ℕ) → length text ≤ 32768 → surveyed text ≡ conclude (nesting 0 0 None) 0 (words text)
unfolding surveyed
surveyed_short text h =
    rw (le-ltb 32768 (length text) h) (joined (first_fault (words text)) (too_deep 0 (words text)) (too_deep 0 (words text)) refl (omega arith) (omega arith))

-- what is left to say of a text that is not too long, where the words ws are still to come
pub surveyed_at : (text : List ℕ) (n : Nesting) (k : ℕ) (left ws : List Token) → length text ≤ 32768
    → conclude n k left ≡ conclude (nesting 0 0 None) 0 (words text) → left ≡ ws → surveyed text ≡ conclude n k ws
surveyed_at text n k left ws short same e = surveyed_short text short ∙ sym same ∙ ap (conclude n k) e

pub surveyed_long : (text : List ℕ) → 32768 < length text → surveyed text ≡ Err TooLong
unfolding surveyed
surveyed_long text h = rw (lt-ltb 32768 (length text) h)
