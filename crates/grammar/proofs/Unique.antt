-- A text has at most one tree.
use Rattle.std.proofs.Common.{◌≡◌, ◌≤◌, List, [], ◌∷◌, sym, refl, ap, ◌∙◌, inl, arith}
use Rattle.words.specs.declared.kind.Kind.{Kind}
use Rattle.words.specs.declared.kind.Kind.TheVariants as kind
use Rattle.words.specs.Words.{Token}
use Rattle.grammar.specs.Exact.{Parsed}
use Rattle.grammar.specs.Trees.{Sort, expr, item, atom, suffix, place, action, stmt, typed, variable, method, decl, many}
use Rattle.grammar.specs.Trees.{Program, Mark, spell, Tree, none, more, name, literal, paren, made, new, pair, call, chain, assigns, calls, creates, act, branch, boolean, set_of, row, declares, method_of, class, relationship}
use Rattle.grammar.proofs.Saying.{Word, word, say, same_said, lead, rest, literal_lead, item_lead, suffix_lead, typed_lead}
use Rattle.grammar.proofs.UniqueExprs.{Same, grow, as_item, grow_said, as_item_said, grow_same, grow_ends, as_item_same, ended, item_same, expr_same}

-- the item that an action begins with, and the words after it
abbrev front : Tree action → Tree item
front (assigns x v e) = as_item x
front (calls i d n o e c) = grow i (more (call d n o e c) none)
front (creates c) = chain (made c) none

abbrev after : Tree action → List Word → List Word
after (assigns x v e) r = word kind.Assign v ∷ say e r
after (calls i d n o e c) r = r
after (creates c) r = r

front_said : (a : Tree action) (r : List Word) → say a r ≡ say (front a) (after a r)
front_said (assigns x v e) r = sym (as_item_said x _)
front_said (calls i d n o e c) r = sym (grow_said i (more (call d n o e c) none) r)
front_said (creates c) r = refl

after_low : (a : Tree action) (r : List Word) → 5 ≤ lead r → 3 ≤ lead (after a r)
after_low (assigns x v e) r h = omega arith
after_low (calls i d n o e c) r h = omega arith
after_low (creates c) r h = omega arith

after_high : (a : Tree action) (r : List Word) → lead r ≤ 7 → lead (after a r) ≤ 7
after_high (assigns x v e) r h = omega arith
after_high (calls i d n o e c) r h = h
after_high (creates c) r h = h

glue_assigns : {x y : Tree place} {v w : Mark} {a b : Tree expr} {xs ys r q : List Word} → Same (as_item x) (as_item y) (word kind.Assign v ∷ xs) (word kind.Assign w ∷ ys)
    → Same a b r q → Same (assigns x v a) (assigns y w b) r q
glue_assigns {x} {y} f g = let h = as_item_same x y f.tree in record { tree = cc; left = g.left }

glue_calls : {i j : Tree item} {d e n m o p b c : Mark} {x y : Tree expr} → (i ≡ j) × (call d n o x b ≡ call e m p y c) → calls i d n o x b ≡ calls j e m p y c
glue_calls f = cc

action_from : (a b : Tree action) (r q : List Word) → Same (front a) (front b) (after a r) (after b q) → 5 ≤ lead r → 5 ≤ lead q → Same a b r q
action_from (assigns x v e) (assigns y w f) r q s h k = glue_assigns s (expr_same e f r q (ap rest s.left) h k)
action_from (assigns x v e) (calls i d n o f c) r q s h k = absurd (omega (arith, ap lead s.left))
action_from (assigns x v e) (creates c) r q s h k = absurd (omega (arith, ap lead s.left))
action_from (calls i d n o f c) (assigns x v e) r q s h k = absurd (omega (arith, ap lead s.left))
action_from (calls i d n o x b) (calls j e m p y c) r q s h k =
    record { tree = glue_calls (grow_same (call d n o x b) (call e m p y c) i j s.tree); left = s.left }
action_from (calls i d n o x b) (creates c) r q s h k = grow_ends (call d n o x b) i (made c) s.tree
action_from (creates c) (assigns x v e) r q s h k = absurd (omega (arith, ap lead s.left))
action_from (creates c) (calls i d n o x b) r q s h k = grow_ends (call d n o x b) i (made c) (sym s.tree)
action_from (creates c) (creates d) r q s h k = record { tree = let t = s.tree in cc; left = s.left }

action_same : (a b : Tree action) (r q : List Word) → say a r ≡ say b q → 5 ≤ lead r → 5 ≤ lead q → Same a b r q
action_same a b r q e h k =
    let x = after_low a r h in
    let y = after_low b q k in
    let g = item_same (front a) (front b) (after a r) (after b q) (sym (front_said a r) ∙ e ∙ front_said b q) (omega arith) (inl (omega arith)) y in
    action_from a b r q (ended (front a) (front b) _ _ g x) h k

action_lead : (a : Tree action) (r : List Word) → lead (say a r) ≤ 13
action_lead a r = omega (arith, ap lead (front_said a r), item_lead (front a) (after a r))

stmt_lead : (t : Tree stmt) (r : List Word) → lead (say t r) ≤ 14
stmt_lead (act a s) r = omega (arith, action_lead a (word kind.Semicolon s ∷ r))
stmt_lead (branch i o e c b ss f l g us h s) r = omega arith

glue_act : {a b : Tree action} {v w : Mark} {r q : List Word} → Same a b (word kind.Semicolon v ∷ r) (word kind.Semicolon w ∷ q) → Same (act a v) (act b w) r q
glue_act f = record { tree = cc; left = cc }

glue_branch : {i i' o o' c c' b b' f f' l l' g g' h h' s s' : Mark} {e e' : Tree expr} {ss ss' us us' : Tree (many stmt)} {xs xs' ys ys' zs zs' r q : List Word}
    → word kind.If i ∷ word kind.OpenParen o ∷ xs ≡ word kind.If i' ∷ word kind.OpenParen o' ∷ xs'
    → Same e e' (word kind.CloseParen c ∷ word kind.OpenBrace b ∷ ys) (word kind.CloseParen c' ∷ word kind.OpenBrace b' ∷ ys')
    → Same ss ss' (word kind.CloseBrace f ∷ word kind.Else l ∷ word kind.OpenBrace g ∷ zs) (word kind.CloseBrace f' ∷ word kind.Else l' ∷ word kind.OpenBrace g' ∷ zs')
    → Same us us' (word kind.CloseBrace h ∷ word kind.Semicolon s ∷ r) (word kind.CloseBrace h' ∷ word kind.Semicolon s' ∷ q)
    → Same (branch i o e c b ss f l g us h s) (branch i' o' e' c' b' ss' f' l' g' us' h' s') r q
glue_branch x y z w = record { tree = cc; left = cc }

-- no tree of the sort can begin here
pub record Shut (s : Sort) (r : List Word) : Type 0 where
  pub none : (t : Tree s) (x : List Word) → r ≡ say t x → ⊥

glue_more : {s : Sort} {t u : Tree s} {ts us : Tree (many s)} {xs ys r q : List Word} → Same t u xs ys → Same ts us r q → Same (more t ts) (more u us) r q
glue_more f g = record { tree = cc; left = g.left }

mutual
  stmt_same : (t u : Tree stmt) (r q : List Word) → say t r ≡ say u q → Same t u r q
  stmt_same (act a v) (act b w) r q e = glue_act (action_same a b _ _ e (omega arith) (omega arith))
  stmt_same (act a v) (branch i o x c b ss f l g us h s) r q e =
      absurd (omega (arith, ap lead e, action_lead a (word kind.Semicolon v ∷ r)))
  stmt_same (branch i o x c b ss f l g us h s) (act a v) r q e =
      absurd (omega (arith, ap lead e, action_lead a (word kind.Semicolon v ∷ q)))
  stmt_same (branch i o x c b ss f l g us h s) (branch i' o' x' c' b' ss' f' l' g' us' h' s') r q e =
      let y = expr_same x x' _ _ (ap (λ z. rest (rest z)) e) (omega arith) (omega arith) in
      let z = stmts_same ss ss' _ _ (ap (λ z. rest (rest z)) y.left) (omega arith) (omega arith) in
      glue_branch e y z (stmts_same us us' _ _ (ap (λ z. rest (rest (rest z))) z.left) (omega arith) (omega arith))

  stmts_same : (ts us : Tree (many stmt)) (r q : List Word) → say ts r ≡ say us q → 19 ≤ lead r → 19 ≤ lead q → Same ts us r q
  stmts_same none none r q e h k = record { tree = refl; left = e }
  stmts_same none (more u us) r q e h k = absurd (omega (arith, ap lead e, stmt_lead u (say us q)))
  stmts_same (more t ts) none r q e h k = absurd (omega (arith, ap lead e, stmt_lead t (say ts r)))
  stmts_same (more t ts) (more u us) r q e h k =
      let f = stmt_same t u _ _ e in glue_more f (stmts_same ts us r q f.left h k)

-- so for any number of trees of a sort, each known from its first word on
many_same : {s : Sort} → ((t u : Tree s) (r q : List Word) → say t r ≡ say u q → Same t u r q)
    → (ts us : Tree (many s)) (r q : List Word) → say ts r ≡ say us q → Shut s r → Shut s q → Same ts us r q
many_same one none none r q e h k = record { tree = refl; left = e }
many_same one none (more u us) r q e h k = absurd (h.none u (say us q) e)
many_same one (more t ts) none r q e h k = absurd (k.none t (say ts r) (sym e))
many_same one (more t ts) (more u us) r q e h k =
    let f = one t u _ _ e in glue_more f (many_same one ts us r q f.left h k)

typed_same : (t u : Tree typed) (r q : List Word) → say t r ≡ say u q → Same t u r q
typed_same (boolean v) (boolean w) r q e = record { tree = let f : v ≡ w = cc in cc; left = cc }
typed_same (boolean v) (set_of w l n g) r q e = absurd (omega (arith, ap lead e))
typed_same (boolean v) (row n) r q e = absurd (omega (arith, ap lead e))
typed_same (set_of v l n g) (boolean w) r q e = absurd (omega (arith, ap lead e))
typed_same (set_of v l n g) (set_of w k m f) r q e = record { tree = cc; left = cc }
typed_same (set_of v l n g) (row m) r q e = absurd (omega (arith, ap lead e))
typed_same (row n) (boolean w) r q e = absurd (omega (arith, ap lead e))
typed_same (row n) (set_of w l m g) r q e = absurd (omega (arith, ap lead e))
typed_same (row n) (row m) r q e = record { tree = cc; left = cc }

glue_declares : {t u : Tree typed} {n m v w : Mark} {r q : List Word} → Same t u (word kind.Name n ∷ word kind.Semicolon v ∷ r) (word kind.Name m ∷ word kind.Semicolon w ∷ q) → Same (declares t n v) (declares u m w) r q
glue_declares f = record { tree = cc; left = cc }

variable_same : (v w : Tree variable) (r q : List Word) → say v r ≡ say w q → Same v w r q
variable_same (declares t n s) (declares u m z) r q e = glue_declares (typed_same t u _ _ e)

-- after a name that begins an item, before words that may follow an item, no name comes
named_atom : (a : Tree atom) (n : Mark) (r x : List Word) → say a r ≡ word kind.Name n ∷ x → lead r ≤ 7 → lead x ≤ 7
named_atom (name m) n r x e h = omega (arith, ap (λ z. lead (rest z)) e)
named_atom (literal l w) n r x e h = absurd (omega (arith, ap lead e, literal_lead l))
named_atom (paren o y c) n r x e h = absurd (omega (arith, ap lead e))
named_atom (made (new w m o c)) n r x e h = absurd (omega (arith, ap lead e))
named_atom (made (pair p m d w o a k b c)) n r x e h = omega (arith, ap (λ z. lead (rest z)) e)

suffixes_high : (ss : Tree (many suffix)) (r : List Word) → lead r ≤ 7 → lead (say ss r) ≤ 7
suffixes_high none r h = h
suffixes_high (more s ss) r h = omega (arith, suffix_lead s (say ss r))

named_item : (i : Tree item) (n : Mark) (r x : List Word) → say i r ≡ word kind.Name n ∷ x → lead r ≤ 7 → lead x ≤ 7
named_item (chain a ss) n r x e h = named_atom a n (say ss r) x e (suffixes_high ss r h)

named_stmt : (t : Tree stmt) (n : Mark) (r x : List Word) → say t r ≡ word kind.Name n ∷ x → lead x ≤ 7
named_stmt (act a s) n r x e = named_item (front a) n _ x (sym (front_said a _) ∙ e) (after_high a (word kind.Semicolon s ∷ r) (omega arith))
named_stmt (branch i o y c b ss f l g us h s) n r x e = absurd (omega (arith, ap lead e))

-- no variable begins where statements and then `return` do
body_shut : (ss : Tree (many stmt)) (y : Mark) (r : List Word) (v : Tree variable) (x : List Word) → say ss (word kind.Return y ∷ r) ≡ say v x → ⊥
body_shut none y r (declares t n s) x e = omega (arith, ap lead e, typed_lead t (word kind.Name n ∷ word kind.Semicolon s ∷ x))
body_shut (more u us) y r (declares (boolean w) n s) x e = omega (arith, ap lead e, stmt_lead u (say us (word kind.Return y ∷ r)))
body_shut (more u us) y r (declares (set_of w l m g) n s) x e = omega (arith, ap lead e, stmt_lead u (say us (word kind.Return y ∷ r)))
body_shut (more u us) y r (declares (row m) n s) x e = omega (arith, named_stmt u m (say us (word kind.Return y ∷ r)) (word kind.Name n ∷ word kind.Semicolon s ∷ x) e)

-- nor where methods do
methods_shut : (ms : Tree (many method)) (f : Mark) (r : List Word) (v : Tree variable) (x : List Word) → say ms (word kind.CloseBrace f ∷ r) ≡ say v x → ⊥
methods_shut none f r (declares t n s) x e = omega (arith, ap lead e, typed_lead t (word kind.Name n ∷ word kind.Semicolon s ∷ x))
methods_shut (more (method_of t m o u p c b vs ss y a z g) ms) f r (declares w n s) x e =
    let h = typed_same t w _ _ e in omega (arith, ap (λ z. lead (rest z)) h.left)

glue_method : {n n' o o' p p' c c' b b' y y' s s' f f' : Mark} {t t' u u' : Tree typed} {vs vs' : Tree (many variable)} {ss ss' : Tree (many stmt)} {e e' : Tree expr} {xs xs' ys ys' zs zs' ws ws' r q : List Word}
    → Same t t' (word kind.Name n ∷ word kind.OpenParen o ∷ xs) (word kind.Name n' ∷ word kind.OpenParen o' ∷ xs')
    → Same u u' (word kind.Name p ∷ word kind.CloseParen c ∷ word kind.OpenBrace b ∷ ys) (word kind.Name p' ∷ word kind.CloseParen c' ∷ word kind.OpenBrace b' ∷ ys')
    → Same vs vs' zs zs' → Same ss ss' (word kind.Return y ∷ ws) (word kind.Return y' ∷ ws')
    → Same e e' (word kind.Semicolon s ∷ word kind.CloseBrace f ∷ r) (word kind.Semicolon s' ∷ word kind.CloseBrace f' ∷ q)
    → Same (method_of t n o u p c b vs ss y e s f) (method_of t' n' o' u' p' c' b' vs' ss' y' e' s' f') r q
glue_method g h i j k = record { tree = cc; left = cc }

method_same : (t u : Tree method) (r q : List Word) → say t r ≡ say u q → Same t u r q
method_same (method_of t n o u p c b vs ss y e s f) (method_of t' n' o' u' p' c' b' vs' ss' y' e' s' f') r q x =
    let g = typed_same t t' _ _ x in
    let h = typed_same u u' _ _ (ap (λ z. rest (rest z)) g.left) in
    let i = many_same variable_same vs vs' _ _ (ap (λ z. rest (rest (rest z))) h.left) (record { none = body_shut ss y _ }) (record { none = body_shut ss' y' _ }) in
    let j = stmts_same ss ss' _ _ i.left (omega arith) (omega arith) in
    glue_method g h i j (expr_same e e' _ _ (ap rest j.left) (omega arith) (omega arith))

closed_shut : (f : Mark) (r : List Word) (m : Tree method) (x : List Word) → word kind.CloseBrace f ∷ r ≡ say m x → ⊥
closed_shut f r (method_of t m o u p c b vs ss y a z g) x e = omega (
  arith,
  ap lead e,
  typed_lead t (word kind.Name m ∷ word kind.OpenParen o
      ∷ say u (word kind.Name p ∷ word kind.CloseParen c ∷ word kind.OpenBrace b
      ∷ say vs (say ss (word kind.Return y ∷ say a (word kind.Semicolon z ∷ word kind.CloseBrace g ∷ x))))),
)

-- the marks and the rest of two lists of words that both begin with five of the same kinds
five : {j k l h i : Kind} {a a' b b' c c' d d' e e' : Mark} {xs ys : List Word}
    → word j a ∷ word k b ∷ word l c ∷ word h d ∷ word i e ∷ xs ≡ word j a' ∷ word k b' ∷ word l c' ∷ word h d' ∷ word i e' ∷ ys
    → (a ≡ a') × (b ≡ b') × (c ≡ c') × (d ≡ d') × (e ≡ e') × (xs ≡ ys)
five z = (cc, cc, cc, cc, cc, cc)

glue_class : {w w' n n' x x' p p' b b' f f' : Mark} {vs vs' : Tree (many variable)} {ms ms' : Tree (many method)} {xs xs' ys ys' r q : List Word}
    → word kind.Class w ∷ word kind.Name n ∷ word kind.Extends x ∷ word kind.Name p ∷ word kind.OpenBrace b ∷ xs ≡ word kind.Class w' ∷ word kind.Name n' ∷ word kind.Extends x' ∷ word kind.Name p' ∷ word kind.OpenBrace b' ∷ xs'
    → Same vs vs' ys ys' → Same ms ms' (word kind.CloseBrace f ∷ r) (word kind.CloseBrace f' ∷ q)
    → Same (class w n x p b vs ms f) (class w' n' x' p' b' vs' ms' f') r q
glue_class e g h = record { tree = cc; left = cc }

glue_relationship : {w w' n n' x x' p p' o o' y y' m m' z z' c c' b b' f f' : Mark} {vs vs' : Tree (many variable)} {ms ms' : Tree (many method)} {xs xs' ys ys' r q : List Word}
    → word kind.Relationship w ∷ word kind.Name n ∷ word kind.Extends x ∷ word kind.Name p ∷ word kind.OpenParen o ∷ word kind.Name y ∷ word kind.Comma m ∷ word kind.Name z ∷ word kind.CloseParen c ∷ word kind.OpenBrace b ∷ xs
    ≡ word kind.Relationship w' ∷ word kind.Name n' ∷ word kind.Extends x' ∷ word kind.Name p' ∷ word kind.OpenParen o' ∷ word kind.Name y' ∷ word kind.Comma m' ∷ word kind.Name z' ∷ word kind.CloseParen c' ∷ word kind.OpenBrace b' ∷ xs'
    → Same vs vs' ys ys' → Same ms ms' (word kind.CloseBrace f ∷ r) (word kind.CloseBrace f' ∷ q)
    → Same (relationship w n x p o y m z c b vs ms f) (relationship w' n' x' p' o' y' m' z' c' b' vs' ms' f') r q
glue_relationship e g h =
    let i = five e in
    let j = five i.5 in
    record { tree = cc; left = cc }

decl_same : (t u : Tree decl) (r q : List Word) → say t r ≡ say u q → Same t u r q
decl_same (class w n x p b vs ms f) (class w' n' x' p' b' vs' ms' f') r q e =
    let g = many_same variable_same vs vs' _ _ (ap (λ z. rest (rest (rest (rest (rest z))))) e) (record { none = methods_shut ms f r }) (record { none = methods_shut ms' f' q }) in
    glue_class e g (many_same method_same ms ms' _ _ g.left (record { none = closed_shut f r }) (record { none = closed_shut f' q }))
decl_same (class w n x p b vs ms f) (relationship w' n' x' p' o' y' m' z' c' b' vs' ms' f') r q e = absurd (omega (arith, ap lead e))
decl_same (relationship w n x p o y m z c b vs ms f) (class w' n' x' p' b' vs' ms' f') r q e = absurd (omega (arith, ap lead e))
decl_same (relationship w n x p o y m z c b vs ms f) (relationship w' n' x' p' o' y' m' z' c' b' vs' ms' f') r q e =
    let g = many_same variable_same vs vs' _ _ (ap (λ z. rest (rest (rest (rest (rest (rest (rest (rest (rest (rest z)))))))))) e) (record { none = methods_shut ms f r }) (record { none = methods_shut ms' f' q }) in
    glue_relationship e g (many_same method_same ms ms' _ _ g.left (record { none = closed_shut f r }) (record { none = closed_shut f' q }))

end_shut : (t : Tree decl) (x : List Word) → [] ≡ say t x → ⊥
end_shut (class w n y p b vs ms f) x e = omega (arith, ap lead e)
end_shut (relationship w n y p o v m z c b vs ms f) x e = omega (arith, ap lead e)

pub only : (t u : Program) → spell t ≡ spell u → t ≡ u
only t u e = (many_same decl_same t u [] [] (same_said t u e) (record { none = end_shut }) (record { none = end_shut })).tree

-- so the words of a program are its own alone
pub parsed : (ws : List Token) (t : Program) → ws ≡ spell t → Parsed ws t
parsed ws t e = record { words = e; only = λ u f. only u t (sym f ∙ e) }
