-- The words of a tree before other words, and how the words of each sort begin.
use Rattle.std.proofs.Common.{◌≡◌, ℕ, ◌<◌, ◌≤◌, ◌⊎◌, List, [], ◌∷◌, ◌++◌, map, sym, refl, ap, ◌∙◌, inl, inr, append_assoc, arith}
use Rattle.words.specs.declared.kind.Kind.{Kind}
use Rattle.words.specs.declared.kind.Kind.TheVariants as kind
use Rattle.words.specs.Words.{Token}
use Rattle.grammar.specs.Trees.{Literal, true, false, null, this, Pairing, add, rem, End, from, to, literal_kind, pairing_kind, end_kind}
use Rattle.grammar.specs.Trees.{Sort, item, atom, creation, suffix, typed, many}
use Rattle.grammar.specs.Trees.{Mark, spell, Tree, none, more, name, literal, paren, made, new, pair, member, call, instances, end, chain, bare, inside, alone, equal, assign, assigns, calls, creates, act, branch, boolean, set_of, row, declares, method_of, class, relationship}

-- a word as a value of its kind and mark
pub data Word : Type 0 where
  word : Kind → Mark → Word

abbrev pub seen : Token → Word
seen w = word w.kind (record { place = w.place; bytes = w.bytes })

-- the words of a tree, before the words r
abbrev pub say : {s : Sort} → Tree s → List Word → List Word
say none r = r
say (more t ts) r = say t (say ts r)
say (name n) r = word kind.Name n ∷ r
say (literal l w) r = word (literal_kind l) w ∷ r
say (paren o e c) r = word kind.OpenParen o ∷ say e (word kind.CloseParen c ∷ r)
say (made c) r = say c r
say (new w n o c) r = word kind.New w ∷ word kind.Name n ∷ word kind.OpenParen o ∷ word kind.CloseParen c ∷ r
say (pair p n d w o a m b c) r =
    word kind.Name n ∷ word kind.Dot d ∷ word (pairing_kind p) w ∷ word kind.OpenParen o
    ∷ say a (word kind.Comma m ∷ say b (word kind.CloseParen c ∷ r))
say (member d n) r = word kind.Dot d ∷ word kind.Name n ∷ r
say (call d n o e c) r = word kind.Dot d ∷ word kind.Name n ∷ word kind.OpenParen o ∷ say e (word kind.CloseParen c ∷ r)
say (instances c n) r = word kind.Colon c ∷ word kind.Name n ∷ r
say (end f d w) r = word kind.Dot d ∷ word (end_kind f) w ∷ r
say (chain a ss) r = say a (say ss r)
say (bare n) r = word kind.Name n ∷ r
say (inside i d n) r = say i (word kind.Dot d ∷ word kind.Name n ∷ r)
say (alone i) r = say i r
say (equal i q j) r = say i (word kind.Equal q ∷ say j r)
say (assign x q e) r = say x (word kind.Assign q ∷ say e r)
say (assigns x q e) r = say x (word kind.Assign q ∷ say e r)
say (calls i d n o e c) r = say i (word kind.Dot d ∷ word kind.Name n ∷ word kind.OpenParen o ∷ say e (word kind.CloseParen c ∷ r))
say (creates c) r = say c r
say (act a s) r = say a (word kind.Semicolon s ∷ r)
say (branch i o e c b ss f l g us h s) r =
    word kind.If i ∷ word kind.OpenParen o
    ∷ say e (word kind.CloseParen c ∷ word kind.OpenBrace b
    ∷ say ss (word kind.CloseBrace f ∷ word kind.Else l ∷ word kind.OpenBrace g
    ∷ say us (word kind.CloseBrace h ∷ word kind.Semicolon s ∷ r)))
say (boolean w) r = word kind.Boolean w ∷ r
say (set_of w l n g) r = word kind.Set w ∷ word kind.Less l ∷ word kind.Name n ∷ word kind.Greater g ∷ r
say (row n) r = word kind.Name n ∷ r
say (declares t n s) r = say t (word kind.Name n ∷ word kind.Semicolon s ∷ r)
say (method_of t n o u p c b vs ss y e s f) r =
    say t (word kind.Name n ∷ word kind.OpenParen o
    ∷ say u (word kind.Name p ∷ word kind.CloseParen c ∷ word kind.OpenBrace b
    ∷ say vs (say ss (word kind.Return y ∷ say e (word kind.Semicolon s ∷ word kind.CloseBrace f ∷ r)))))
say (class w n x p b vs ms f) r =
    word kind.Class w ∷ word kind.Name n ∷ word kind.Extends x ∷ word kind.Name p ∷ word kind.OpenBrace b
    ∷ say vs (say ms (word kind.CloseBrace f ∷ r))
say (relationship w n x p o y m z c b vs ms f) r =
    word kind.Relationship w ∷ word kind.Name n ∷ word kind.Extends x ∷ word kind.Name p ∷ word kind.OpenParen o ∷ word kind.Name y
    ∷ word kind.Comma m ∷ word kind.Name z ∷ word kind.CloseParen c ∷ word kind.OpenBrace b
    ∷ say vs (say ms (word kind.CloseBrace f ∷ r))

-- they are the words that the tree spells
also : {w : Word} {xs ys : List Word} → xs ≡ ys → w ∷ xs ≡ w ∷ ys
also {w} e = ap (λ x. w ∷ x) e

first : {s : Sort} (t : Tree s) → ((r : List Token) → map seen (spell t ++ r) ≡ say t (map seen r))
    → (ws r : List Token) {y : List Word} → map seen (ws ++ r) ≡ y → map seen ((spell t ++ ws) ++ r) ≡ say t y
first t h ws r e = ap (map seen) (append_assoc (spell t) ws r) ∙ h (ws ++ r) ∙ ap (say t) e

pub said : {s : Sort} (t : Tree s) (r : List Token) → map seen (spell t ++ r) ≡ say t (map seen r)
unfolding spell
said none r = refl
said (more t ts) r = first t (said t) _ r (said ts r)
said (name n) r = refl
said (literal l w) r = refl
said (paren o e c) r = also (first e (said e) _ r refl)
said (made c) r = said c r
said (new w n o c) r = refl
said (pair p n d w o a m b c) r = also (also (also (also (first a (said a) _ r (also (first b (said b) _ r refl))))))
said (member d n) r = refl
said (call d n o e c) r = also (also (also (first e (said e) _ r refl)))
said (instances c n) r = refl
said (end f d w) r = refl
said (chain a ss) r = first a (said a) _ r (said ss r)
said (bare n) r = refl
said (inside i d n) r = first i (said i) _ r refl
said (alone i) r = said i r
said (equal i q j) r = first i (said i) _ r (also (said j r))
said (assign x q e) r = first x (said x) _ r (also (said e r))
said (assigns x q e) r = first x (said x) _ r (also (said e r))
said (calls i d n o e c) r = first i (said i) _ r (also (also (also (first e (said e) _ r refl))))
said (creates c) r = said c r
said (act a s) r = first a (said a) _ r refl
said (branch i o e c b ss f l g us h s) r =
    also (also (first e (said e) _ r (also (also (first ss (said ss) _ r (also (also (also (first us (said us) _ r refl)))))))))
said (boolean w) r = refl
said (set_of w l n g) r = refl
said (row n) r = refl
said (declares t n s) r = first t (said t) _ r refl
said (method_of t n o u p c b vs ss y e s f) r =
    first t (said t) _ r (also (also (first u (said u) _ r (also (also (also
    (first vs (said vs) _ r (first ss (said ss) _ r (also (first e (said e) _ r refl))))))))))
said (class w n x p b vs ms f) r = also (also (also (also (also (first vs (said vs) _ r (first ms (said ms) _ r refl))))))
said (relationship w n x p o y m z c b vs ms f) r =
    also (also (also (also (also (also (also (also (also (also (first vs (said vs) _ r (first ms (said ms) _ r refl)))))))))))

-- trees that spell the same say the same
pub same_said : {s : Sort} (t u : Tree s) → spell t ≡ spell u → say t [] ≡ say u []
same_said t u e = sym (said t []) ∙ ap (λ ws. map seen (ws ++ [])) e ∙ said u []

-- kinds in an order in which what may follow each sort is all above a bound
abbrev pub rank : Kind → ℕ
rank kind.OpenParen = 0
rank kind.Dot = 1
rank kind.Colon = 2
rank kind.Assign = 3
rank kind.Equal = 4
rank kind.CloseParen = 5
rank kind.Comma = 6
rank kind.Semicolon = 7
rank kind.Name = 8
rank kind.New = 9
rank kind.True = 10
rank kind.False = 11
rank kind.Null = 12
rank kind.This = 13
rank kind.If = 14
rank kind.Boolean = 15
rank kind.Set = 16
rank kind.Class = 17
rank kind.Relationship = 18
rank kind.CloseBrace = 19
rank kind.Return = 20
rank kind.Extends = 21
rank kind.Else = 22
rank kind.OpenBrace = 23
rank kind.Less = 24
rank kind.Greater = 25
rank kind.From = 26
rank kind.To = 27
rank kind.Fault = 28
rank kind.Add = 30
rank kind.Rem = 31

-- the first word's, or one of its own at the end
abbrev pub lead : List Word → ℕ
lead [] = 29
lead (word k m ∷ r) = rank k

abbrev pub rest : List Word → List Word
rest [] = []
rest (w ∷ ws) = ws

pub literal_lead : (l : Literal) → (10 ≤ rank (literal_kind l)) × (rank (literal_kind l) ≤ 13)
literal_lead true = (omega arith, omega arith)
literal_lead false = (omega arith, omega arith)
literal_lead null = (omega arith, omega arith)
literal_lead this = (omega arith, omega arith)

pub end_lead : (f : End) → (26 ≤ rank (end_kind f)) × (rank (end_kind f) ≤ 27)
end_lead from = (omega arith, omega arith)
end_lead to = (omega arith, omega arith)

pub pairing_lead : (p : Pairing) → 30 ≤ rank (pairing_kind p)
pairing_lead add = omega arith
pairing_lead rem = omega arith

pub literal_same : (l m : Literal) → literal_kind l ≡ literal_kind m → l ≡ m
literal_same true true e = refl
literal_same true false e = cc
literal_same true null e = cc
literal_same true this e = cc
literal_same false true e = cc
literal_same false false e = refl
literal_same false null e = cc
literal_same false this e = cc
literal_same null true e = cc
literal_same null false e = cc
literal_same null null e = refl
literal_same null this e = cc
literal_same this true e = cc
literal_same this false e = cc
literal_same this null e = cc
literal_same this this e = refl

pub end_same : (f g : End) → end_kind f ≡ end_kind g → f ≡ g
end_same from from e = refl
end_same from to e = cc
end_same to from e = cc
end_same to to e = refl

pub pairing_same : (p q : Pairing) → pairing_kind p ≡ pairing_kind q → p ≡ q
pairing_same add add e = refl
pairing_same add rem e = cc
pairing_same rem add e = cc
pairing_same rem rem e = refl

pub creation_lead : (c : Tree creation) (r : List Word) → (8 ≤ lead (say c r)) × (lead (say c r) ≤ 9)
creation_lead (new w n o c) r = (omega arith, omega arith)
creation_lead (pair p n d w o a m b c) r = (omega arith, omega arith)

pub atom_lead : (a : Tree atom) (r : List Word) → lead (say a r) ≤ 13
atom_lead (name n) r = omega arith
atom_lead (literal l w) r = (literal_lead l).1
atom_lead (paren o e c) r = omega arith
atom_lead (made c) r = omega (arith, creation_lead c r)

pub item_lead : (i : Tree item) (r : List Word) → lead (say i r) ≤ 13
item_lead (chain a ss) r = atom_lead a (say ss r)

pub suffix_lead : (s : Tree suffix) (r : List Word) → (1 ≤ lead (say s r)) × (lead (say s r) ≤ 2)
suffix_lead (member d n) r = (omega arith, omega arith)
suffix_lead (call d n o e c) r = (omega arith, omega arith)
suffix_lead (instances c n) r = (omega arith, omega arith)
suffix_lead (end f d w) r = (omega arith, omega arith)

pub suffixes_lead : (ss : Tree (many suffix)) (r : List Word) → 1 ≤ lead r → 1 ≤ lead (say ss r)
suffixes_lead none r h = h
suffixes_lead (more s ss) r h = (suffix_lead s (say ss r)).0

-- no pair is added or removed here
abbrev pub Unpaired : List Word → Type 0
Unpaired r = (2 ≤ lead r) ⊎ (lead (rest r) < 30)

pub suffixes_unpaired : (ss : Tree (many suffix)) (r : List Word) → Unpaired r → Unpaired (say ss r)
suffixes_unpaired none r h = h
suffixes_unpaired (more (member d n) ss) r h = inr (omega arith)
suffixes_unpaired (more (call d n o e c) ss) r h = inr (omega arith)
suffixes_unpaired (more (instances c n) ss) r h = inl (omega arith)
suffixes_unpaired (more (end f d w) ss) r h = inr (omega (arith, end_lead f))

pub typed_lead : (t : Tree typed) (r : List Word) → (8 ≤ lead (say t r)) × (lead (say t r) ≤ 16)
typed_lead (boolean w) r = (omega arith, omega arith)
typed_lead (set_of w l n g) r = (omega arith, omega arith)
typed_lead (row n) r = (omega arith, omega arith)
