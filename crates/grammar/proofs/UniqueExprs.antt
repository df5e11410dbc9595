-- Words have at most one expression at their beginning.
use Rattle.std.proofs.Common.{◌≡◌, ◌≤◌, List, ◌∷◌, sym, refl, ap, ◌∙◌, inl, inr, arith}
use Rattle.words.specs.declared.kind.Kind.TheVariants as kind
use Rattle.grammar.specs.Trees.{Pairing, pairing_kind}
use Rattle.grammar.specs.Trees.{Sort, expr, item, atom, creation, suffix, place, many}
use Rattle.grammar.specs.Trees.{Mark, Tree, none, more, name, literal, paren, made, new, pair, member, call, instances, end, chain, bare, inside, alone, equal, assign}
use Rattle.grammar.proofs.Saying.{Word, word, say, lead, rest, literal_lead, end_lead, pairing_lead, literal_same, end_same, pairing_same, creation_lead, suffix_lead, suffixes_lead, Unpaired, suffixes_unpaired}

-- the same tree, and the same words after it
pub record Same {s : Sort} (t u : Tree s) (r q : List Word) : Type 0 where
  pub tree : t ≡ u
  pub left : r ≡ q

-- more suffixes after these
abbrev pub join : Tree (many suffix) → Tree (many suffix) → Tree (many suffix)
join none ws = ws
join (more s ss) ws = more s (join ss ws)

abbrev pub grow : Tree item → Tree (many suffix) → Tree item
grow (chain a ss) ws = chain a (join ss ws)

-- the second item is the first with more suffixes, before the words q
pub record Grown (i j : Tree item) (r q : List Word) : Type 0 where
  pub by : Tree (many suffix)
  pub tree : j ≡ grow i by
  pub left : r ≡ say by q

-- the second suffixes are the first and more, before the words q
pub record Joined (ss us : Tree (many suffix)) (r q : List Word) : Type 0 where
  pub by : Tree (many suffix)
  pub tree : us ≡ join ss by
  pub left : r ≡ say by q

-- a place as an item
abbrev pub as_item : Tree place → Tree item
as_item (bare n) = chain (name n) none
as_item (inside i d n) = grow i (more (member d n) none)

join_said : (ss ws : Tree (many suffix)) (r : List Word) → say (join ss ws) r ≡ say ss (say ws r)
join_said none ws r = refl
join_said (more s ss) ws r = ap (say s) (join_said ss ws r)

pub grow_said : (i : Tree item) (ws : Tree (many suffix)) (r : List Word) → say (grow i ws) r ≡ say i (say ws r)
grow_said (chain a ss) ws r = ap (say a) (join_said ss ws r)

pub as_item_said : (x : Tree place) (r : List Word) → say (as_item x) r ≡ say x r
as_item_said (bare n) r = refl
as_item_said (inside i d n) r = grow_said i (more (member d n) none) r

join_none : (ss : Tree (many suffix)) → join ss none ≡ ss
join_none none = refl
join_none (more s ss) = ap (more s) (join_none ss)

grow_none : (i : Tree item) → grow i none ≡ i
grow_none (chain a ss) = ap (chain a) (join_none ss)

-- no suffix stands where an item has ended
pub ended : (i j : Tree item) (r q : List Word) → Grown i j r q → 3 ≤ lead r → Same i j r q
ended i j r q g h = go g.by g.tree g.left
  where
    go : (ws : Tree (many suffix)) → j ≡ grow i ws → r ≡ say ws q → Same i j r q
    go none t l = record { tree = sym (t ∙ grow_none i); left = l }
    go (more s ws) t l = absurd (omega (arith, ap lead l, suffix_lead s (say ws q)))

-- a dot and a name before the end of an item are its last suffix
pub one_member : (d n : Mark) (i j : Tree item) (r q : List Word) → Grown i j (word kind.Dot d ∷ word kind.Name n ∷ r) q → 3 ≤ lead r → 3 ≤ lead q → Same (grow i (more (member d n) none)) j r q
one_member d n i j r q g h k = go g.by g.tree g.left
  where
    go : (ws : Tree (many suffix)) → j ≡ grow i ws → word kind.Dot d ∷ word kind.Name n ∷ r ≡ say ws q → Same (grow i (more (member d n) none)) j r q
    go none t l = absurd (omega (arith, ap lead l))
    go (more (member e m) none) t l =
        let f : d ≡ e = cc in let g : n ≡ m = cc in record { tree = cc; left = cc }
    go (more (member e m) (more s ws)) t l = absurd (omega (arith, ap (λ x. lead (rest (rest x))) l, suffix_lead s (say ws q)))
    go (more (call e m o x c) ws) t l = absurd (omega (arith, ap (λ x. lead (rest (rest x))) l))
    go (more (instances e m) ws) t l = absurd (omega (arith, ap lead l))
    go (more (end f e m) ws) t l = absurd (omega (arith, ap (λ x. lead (rest x)) l, end_lead f))

-- a word that may be an atom alone is no pair's first
unpaired : {A : Type 0} (c : Tree creation) (n : Mark) (r q : List Word) → Unpaired r → word kind.Name n ∷ r ≡ say c q → A
unpaired (new w m o c) n r q u e = absurd (omega (arith, ap lead e))
unpaired (pair p m d w o a k b c) n r q (inl h) e = absurd (omega (arith, ap (λ x. lead (rest x)) e))
unpaired (pair p m d w o a k b c) n r q (inr h) e = absurd (omega (arith, ap (λ x. lead (rest (rest x))) e, pairing_lead p))

name_same : (n : Mark) (b : Tree atom) (r q : List Word) → word kind.Name n ∷ r ≡ say b q → Unpaired r → Same (name n) b r q
name_same n (name m) r q e h = let f : n ≡ m = cc in record { tree = cc; left = cc }
name_same n (literal l w) r q e h = absurd (omega (arith, ap lead e, literal_lead l))
name_same n (paren o x c) r q e h = absurd (omega (arith, ap lead e))
name_same n (made c) r q e h = unpaired c n r q h e

abbrev first : Tree suffix → Tree (many suffix) → Tree suffix
first z none = z
first z (more s ss) = s

abbrev others : Tree (many suffix) → Tree (many suffix)
others none = none
others (more s ss) = ss

more_same : (s t : Tree suffix) (ss ts : Tree (many suffix)) → more s ss ≡ more t ts → (s ≡ t) × (ss ≡ ts)
more_same s t ss ts e = (ap (first s) e, ap others e)

never_none : {A : Type 0} (s : Tree suffix) (ss us : Tree (many suffix)) → join ss (more s us) ≡ none → A
never_none s none us e = let z : ⊥ = cc in absurd z
never_none s (more t ss) us e = let z : ⊥ = cc in absurd z

-- suffixes with one more at the end are the same only if both parts are
join_same : (s t : Tree suffix) (ss us : Tree (many suffix)) → join ss (more s none) ≡ join us (more t none) → (ss ≡ us) × (s ≡ t)
join_same s t none none e = (refl, (more_same s t none none e).0)
join_same s t none (more u us) e = never_none t us none (sym (more_same s u none _ e).1)
join_same s t (more u ss) none e = never_none s ss none (more_same u t _ none e).1
join_same s t (more u ss) (more v us) e =
    let f = more_same u v _ _ e in
    let g = join_same s t ss us f.1 in
    (cc, g.1)

chain_same : (a b : Tree atom) (ss us : Tree (many suffix)) → chain a ss ≡ chain b us → (a ≡ b) × (ss ≡ us)
chain_same a b ss us e = (cc, cc)

pub grow_same : (s t : Tree suffix) (i j : Tree item) → grow i (more s none) ≡ grow j (more t none) → (i ≡ j) × (s ≡ t)
grow_same s t (chain a ss) (chain b us) e =
    let f = chain_same a b _ _ e in
    let g = join_same s t ss us f.1 in
    (cc, g.1)

pub grow_ends : {A : Type 0} (s : Tree suffix) (i : Tree item) (a : Tree atom) → grow i (more s none) ≡ chain a none → A
grow_ends s (chain b ss) a e = never_none s ss none (chain_same b a _ _ e).1

-- two places are the same only as the same item
pub as_item_same : (x y : Tree place) → as_item x ≡ as_item y → x ≡ y
as_item_same (bare n) (bare m) e = cc
as_item_same (bare n) (inside j d m) e = grow_ends (member d m) j (name n) (sym e)
as_item_same (inside i d n) (bare m) e = grow_ends (member d n) i (name m) e
as_item_same (inside i d n) (inside j c m) e = let f = grow_same (member d n) (member c m) i j e in cc

bare_same : (n : Mark) (b : Tree atom) (us : Tree (many suffix)) (r q : List Word) → word kind.Name n ∷ r ≡ say b (say us q) → 3 ≤ lead r → 3 ≤ lead q → Same (chain (name n) none) (chain b us) r q
bare_same n b none r q e h k =
    let f = name_same n b r q e (inl (omega arith)) in record { tree = let t = f.tree in cc; left = f.left }
bare_same n b (more s us) r q e h k =
    let f = name_same n b r _ e (inl (omega arith)) in absurd (omega (arith, ap lead f.left, suffix_lead s (say us q)))

-- trees with the same words and the same parts are the same
glue_paren : {o p c d : Mark} {x y : Tree expr} {xs ys r q : List Word} → word kind.OpenParen o ∷ xs ≡ word kind.OpenParen p ∷ ys
    → Same x y (word kind.CloseParen c ∷ r) (word kind.CloseParen d ∷ q) → Same (paren o x c) (paren p y d) r q
glue_paren e f = record { tree = cc; left = cc }

glue_pair : {p q : Pairing} {m n d c v w o u k l y z : Mark} {a a' b b' : Tree expr} {xs ys zs us r s : List Word}
    → word kind.Name m ∷ word kind.Dot d ∷ word (pairing_kind p) v ∷ word kind.OpenParen o ∷ xs ≡ word kind.Name n ∷ word kind.Dot c ∷ word (pairing_kind q) w ∷ word kind.OpenParen u ∷ ys
    → Same a a' (word kind.Comma k ∷ zs) (word kind.Comma l ∷ us) → Same b b' (word kind.CloseParen y ∷ r) (word kind.CloseParen z ∷ s)
    → Same (pair p m d v o a k b y) (pair q n c w u a' l b' z) r s
glue_pair {p} {q} e f g = let h = pairing_same p q (cc) in record { tree = cc; left = cc }

glue_call : {d e n m o p b c : Mark} {x y : Tree expr} {xs ys r q : List Word}
    → word kind.Dot d ∷ word kind.Name n ∷ word kind.OpenParen o ∷ xs ≡ word kind.Dot e ∷ word kind.Name m ∷ word kind.OpenParen p ∷ ys
    → Same x y (word kind.CloseParen b ∷ r) (word kind.CloseParen c ∷ q) → Same (call d n o x b) (call e m p y c) r q
glue_call e f = record { tree = cc; left = cc }

glue_equal : {i j x y : Tree item} {v w : Mark} {xs ys r q : List Word} → Same i j (word kind.Equal v ∷ xs) (word kind.Equal w ∷ ys)
    → Same x y r q → Same (equal i v x) (equal j w y) r q
glue_equal f g = record { tree = cc; left = g.left }

glue_assign : {x y : Tree place} {v w : Mark} {a b : Tree expr} {xs ys r q : List Word} → Same (as_item x) (as_item y) (word kind.Assign v ∷ xs) (word kind.Assign w ∷ ys)
    → Same a b r q → Same (assign x v a) (assign y w b) r q
glue_assign {x} {y} f g = let h = as_item_same x y f.tree in record { tree = cc; left = g.left }

glue_chain : {a b : Tree atom} {ss us : Tree (many suffix)} {xs ys r q : List Word} → Same a b xs ys → Joined ss us r q → Grown (chain a ss) (chain b us) r q
glue_chain f g = record { by = g.by; tree = cc; left = g.left }

glue_suffixes : {s t : Tree suffix} {ss us : Tree (many suffix)} {xs ys r q : List Word} → Same s t xs ys → Joined ss us r q → Joined (more s ss) (more t us) r q
glue_suffixes f g = record { by = g.by; tree = cc; left = g.left }

mutual
  pub expr_same : (t u : Tree expr) (r q : List Word) → say t r ≡ say u q → 5 ≤ lead r → 5 ≤ lead q → Same t u r q
  expr_same (alone i) (alone j) r q e h k =
      let f = ended i j r q (item_same i j r q e (omega arith) (inl (omega arith)) (omega arith)) (omega arith) in
      record { tree = ap alone f.tree; left = f.left }
  expr_same (alone i) (equal j w x) r q e h k =
      let f = ended i j r _ (item_same i j r _ e (omega arith) (inl (omega arith)) (omega arith)) (omega arith) in
      absurd (omega (arith, ap lead f.left))
  expr_same (alone i) (assign y w x) r q e h k =
      let g : say i r ≡ say (as_item y) (word kind.Assign w ∷ say x q) = e ∙ sym (as_item_said y _) in
      let f = ended i (as_item y) r _ (item_same i (as_item y) r _ g (omega arith) (inl (omega arith)) (omega arith)) (omega arith) in
      absurd (omega (arith, ap lead f.left))
  expr_same (equal i v t) (alone j) r q e h k =
      let f = ended i j _ q (item_same i j _ q e (omega arith) (inl (omega arith)) (omega arith)) (omega arith) in
      absurd (omega (arith, ap lead f.left))
  expr_same (equal i v t) (equal j w x) r q e h k =
      let f = ended i j _ _ (item_same i j _ _ e (omega arith) (inl (omega arith)) (omega arith)) (omega arith) in
      glue_equal f (ended t x r q (item_same t x r q (ap rest f.left) (omega arith) (inl (omega arith)) (omega arith)) (omega arith))
  expr_same (equal i v t) (assign y w x) r q e h k =
      let g : say i (word kind.Equal v ∷ say t r) ≡ say (as_item y) (word kind.Assign w ∷ say x q) = e ∙ sym (as_item_said y _) in
      let f = ended i (as_item y) _ _ (item_same i (as_item y) _ _ g (omega arith) (inl (omega arith)) (omega arith)) (omega arith) in
      absurd (omega (arith, ap lead f.left))
  expr_same (assign z v t) (alone j) r q e h k =
      let f = place_same z j _ q e (omega arith) (omega arith) in
      absurd (omega (arith, ap lead f.left))
  expr_same (assign z v t) (equal j w x) r q e h k =
      let f = place_same z j _ _ e (omega arith) (omega arith) in
      absurd (omega (arith, ap lead f.left))
  expr_same (assign z v t) (assign y w x) r q e h k =
      let f = place_same z (as_item y) _ _ (e ∙ sym (as_item_said y _)) (omega arith) (omega arith) in
      glue_assign f (expr_same t x r q (ap rest f.left) h k)

  pub item_same : (i j : Tree item) (r q : List Word) → say i r ≡ say j q → 1 ≤ lead r → Unpaired r → 3 ≤ lead q → Grown i j r q
  item_same (chain a ss) (chain b us) r q e h u k =
      let f = atom_same a b (say ss r) (say us q) e (suffixes_unpaired ss r u) (suffixes_unpaired us q (inl (omega arith))) in
      glue_chain f (suffixes_same ss us r q f.left h k)

  pub atom_same : (a b : Tree atom) (r q : List Word) → say a r ≡ say b q → Unpaired r → Unpaired q → Same a b r q
  atom_same (name n) b r q e h k = name_same n b r q e h
  atom_same (literal l v) (name n) r q e h k = absurd (omega (arith, ap lead e, literal_lead l))
  atom_same (literal l v) (literal m w) r q e h k =
      let f : l ≡ m = literal_same l m cc in let g : v ≡ w = cc in record { tree = cc; left = cc }
  atom_same (literal l v) (paren o x c) r q e h k = absurd (omega (arith, ap lead e, literal_lead l))
  atom_same (literal l v) (made c) r q e h k = absurd (omega (arith, ap lead e, literal_lead l, creation_lead c q))
  atom_same (paren o x c) (name n) r q e h k = absurd (omega (arith, ap lead e))
  atom_same (paren o x c) (literal l w) r q e h k = absurd (omega (arith, ap lead e, literal_lead l))
  atom_same (paren o x c) (paren p y d) r q e h k =
      glue_paren e (expr_same x y _ _ (ap rest e) (omega arith) (omega arith))
  atom_same (paren o x c) (made d) r q e h k = absurd (omega (arith, ap lead e, creation_lead d q))
  atom_same (made c) (name n) r q e h k = unpaired c n q r k (sym e)
  atom_same (made c) (literal l w) r q e h k = absurd (omega (arith, ap lead e, literal_lead l, creation_lead c r))
  atom_same (made c) (paren o x d) r q e h k = absurd (omega (arith, ap lead e, creation_lead c r))
  atom_same (made c) (made d) r q e h k = let f = creation_same c d r q e in record { tree = ap made f.tree; left = f.left }

  pub creation_same : (c d : Tree creation) (r q : List Word) → say c r ≡ say d q → Same c d r q
  creation_same (new w n o c) (new v m p d) r q e =
      let w-v : w ≡ v = cc in
      let n-m : n ≡ m = cc in
      let o-p : o ≡ p = cc in
      let c-d : c ≡ d = cc in
      record { tree = cc; left = cc }
  creation_same (new w n o c) (pair p m d v u a x b y) r q e = absurd (omega (arith, ap lead e))
  creation_same (pair p m d v u a x b y) (new w n o c) r q e = absurd (omega (arith, ap lead e))
  creation_same (pair p m d v u a x b y) (pair q m' d' v' u' a' x' b' y') r s e =
      let f = expr_same a a' _ _ (ap (λ z. rest (rest (rest (rest z)))) e) (omega arith) (omega arith) in
      glue_pair e f (expr_same b b' _ _ (ap rest f.left) (omega arith) (omega arith))

  pub suffix_same : (s v : Tree suffix) (r q : List Word) → say s r ≡ say v q → 1 ≤ lead r → 1 ≤ lead q → Same s v r q
  suffix_same (member d n) (member c m) r q e h k =
      let d-c : d ≡ c = cc in let n-m : n ≡ m = cc in record { tree = cc; left = cc }
  suffix_same (member d n) (call c m o x b) r q e h k = absurd (omega (arith, ap (λ z. lead (rest (rest z))) e))
  suffix_same (member d n) (instances c m) r q e h k = absurd (omega (arith, ap lead e))
  suffix_same (member d n) (end f c m) r q e h k = absurd (omega (arith, ap (λ z. lead (rest z)) e, end_lead f))
  suffix_same (call d n o x b) (member c m) r q e h k = absurd (omega (arith, ap (λ z. lead (rest (rest z))) e))
  suffix_same (call d n o x b) (call c m p y a) r q e h k =
      glue_call e (expr_same x y _ _ (ap (λ z. rest (rest (rest z))) e) (omega arith) (omega arith))
  suffix_same (call d n o x b) (instances c m) r q e h k = absurd (omega (arith, ap lead e))
  suffix_same (call d n o x b) (end f c m) r q e h k = absurd (omega (arith, ap (λ z. lead (rest z)) e, end_lead f))
  suffix_same (instances d n) (member c m) r q e h k = absurd (omega (arith, ap lead e))
  suffix_same (instances d n) (call c m o x b) r q e h k = absurd (omega (arith, ap lead e))
  suffix_same (instances d n) (instances c m) r q e h k =
      let d-c : d ≡ c = cc in let n-m : n ≡ m = cc in record { tree = cc; left = cc }
  suffix_same (instances d n) (end f c m) r q e h k = absurd (omega (arith, ap lead e))
  suffix_same (end f d n) (member c m) r q e h k = absurd (omega (arith, ap (λ z. lead (rest z)) e, end_lead f))
  suffix_same (end f d n) (call c m o x b) r q e h k = absurd (omega (arith, ap (λ z. lead (rest z)) e, end_lead f))
  suffix_same (end f d n) (instances c m) r q e h k = absurd (omega (arith, ap lead e))
  suffix_same (end f d n) (end g c m) r q e h k =
      let f-g : f ≡ g = end_same f g cc in
      let d-c : d ≡ c = cc in
      let n-m : n ≡ m = cc in
      record { tree = cc; left = cc }

  pub suffixes_same : (ss us : Tree (many suffix)) (r q : List Word) → say ss r ≡ say us q → 1 ≤ lead r → 3 ≤ lead q → Joined ss us r q
  suffixes_same none us r q e h k = record { by = us; tree = refl; left = e }
  suffixes_same (more s ss) none r q e h k = absurd (omega (arith, ap lead e, suffix_lead s (say ss r)))
  suffixes_same (more s ss) (more v us) r q e h k =
      let f = suffix_same s v _ _ e (suffixes_lead ss r h) (suffixes_lead us q (omega arith)) in
      glue_suffixes f (suffixes_same ss us r q f.left h k)

  pub place_same : (x : Tree place) (j : Tree item) (r q : List Word) → say x r ≡ say j q → 3 ≤ lead r → 3 ≤ lead q → Same (as_item x) j r q
  place_same (bare n) (chain b us) r q e h k = bare_same n b us r q e h k
  place_same (inside i d n) j r q e h k =
      one_member d n i j r q (item_same i j _ q e (omega arith) (inr (omega arith)) k) h k
