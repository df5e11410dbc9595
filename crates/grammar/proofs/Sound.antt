-- What the machine accepts, some tree spells.
use Rattle.std.proofs.Common.{◌≡◌, Bool, true, false, List, [], ◌∷◌, ◌++◌, sym, refl, ap, ◌∙◌, subst, append_assoc, append-nil}
use Rattle.std.proofs.lemmas.Bool.{and_parts, false≢true}
use Rattle.words.specs.declared.kind.Kind.{Kind}
use Rattle.words.specs.declared.kind.Kind.TheVariants as kind
use Rattle.words.specs.Words.{Token}
use Rattle.grammar.specs.Trees.{Mark, tok, Sort, expr, item, atom, creation, suffix, place, action, stmt, variable, method, decl, many, Tree, spell, Program}
use Rattle.grammar.specs.Trees as tree
use Rattle.grammar.specs.Machine.{Use, whole, operand, acting, Form, bare, inner, done, plain, Sym, word, start, more, dotted, named, typed, decls, members, member, body, opening, stmts, settable, alone_is, closes, compares, assigns, ends}
use Rattle.grammar.proofs.Accepting.{Accepts}
use Rattle.grammar.proofs.Moves.{Moves, moves, this_word, start_name, start_literal, start_new, start_paren, more_dot, more_colon, more_equal, more_assign, more_over, dotted_name, dotted_end, dotted_pair, named_call, named_over, typed_boolean, typed_set, typed_row, decls_class, decls_relationship, decls_over, members_typed, members_over, member_field, member_method, body_boolean, body_set, body_name, body_over, opening_row, opening_act, stmts_if, stmts_act, stmts_over}

-- words of a tree and then what P says
abbrev pub Split : Sort → (List Token → Type 0) → List Token → Type 0
Split s P ws = (t : Tree s) × (us : List Token) × (ws ≡ spell t ++ us) × P us

-- a word of kind k and then what P says
abbrev pub One : Kind → (List Token → Type 0) → List Token → Type 0
One k P ws = (n : Mark) × (us : List Token) × (ws ≡ tok k n ∷ us) × P us

-- what an item is read for
abbrev pub sort_of : Use → Sort
sort_of whole = expr
sort_of operand = item
sort_of acting = action

abbrev pub Extra : Form → List Token → Type 0
Extra bare ws = (n : Mark) × (ws ≡ tok kind.Name n ∷ [])
Extra inner ws = (x : Tree place) × (ws ≡ spell x)
Extra done ws = (a : Tree action) × (ws ≡ spell a)
Extra plain ws = Unit {0}

-- the words of an item so far
pub record Held (f : Form) (ws : List Token) : Type 0 where
  pub so_far : Tree item
  pub words : ws ≡ spell so_far
  pub form : Extra f ws

-- fields and methods, or methods alone
abbrev pub Members : Bool → (List Token → Type 0) → List Token → Type 0
Members true P ws = Split (many variable) (Split (many method) P) ws
Members false P ws = Split (many method) P ws

abbrev pub before : Bool → Form
before true = bare
before false = plain

-- the words that a list of symbols stands for, by trees; those of what is left of a tree complete what came before
abbrev pub Lang : List Sym → List Token → Type 0
Lang [] ws = ws ≡ []
Lang (word k ∷ α) ws = One k (Lang α) ws
Lang (start m ∷ α) ws = Split (sort_of m) (Lang α) ws
Lang (more m f ∷ α) ws = (us : List Token) → Held f us → Split (sort_of m) (Lang α) (us ++ ws)
Lang (dotted m b ∷ α) ws = (us : List Token) → Held (before b) us → (d : Mark) → Split (sort_of m) (Lang α) (us ++ tok kind.Dot d ∷ ws)
Lang (named m ∷ α) ws = (us : List Token) → Held plain us → (d n : Mark) → Split (sort_of m) (Lang α) (us ++ tok kind.Dot d ∷ tok kind.Name n ∷ ws)
Lang (typed ∷ α) ws = Split tree.typed (Lang α) ws
Lang (decls ∷ α) ws = Split (many decl) (Lang α) ws
Lang (members b ∷ α) ws = Members b (Lang α) ws
Lang (member b ∷ α) ws = (t : Tree tree.typed) (n : Mark) → Members b (Lang α) (spell t ++ tok kind.Name n ∷ ws)
Lang (body ∷ α) ws = Split (many variable) (Split (many stmt) (Lang α)) ws
Lang (opening ∷ α) ws = (n : Mark) → Split (many variable) (Split (many stmt) (Lang α)) (tok kind.Name n ∷ ws)
Lang (stmts ∷ α) ws = Split (many stmt) (Lang α) ws

-- one more suffix
snoc_many : Tree (many suffix) → Tree suffix → Tree (many suffix)
snoc_many tree.none s = tree.more s tree.none
snoc_many (tree.more t ts) s = tree.more t (snoc_many ts s)

spell_snoc : (ts : Tree (many suffix)) (s : Tree suffix) → spell (snoc_many ts s) ≡ spell ts ++ spell s
unfolding spell snoc_many
spell_snoc tree.none s = append-nil (spell s)
spell_snoc (tree.more t ts) s = ap (λ x. spell t ++ x) (spell_snoc ts s) ∙ sym (append_assoc (spell t) (spell ts) (spell s))

snoc : (i : Tree item) (s : Tree suffix) → (j : Tree item) × (spell j ≡ spell i ++ spell s)
unfolding spell
snoc (tree.chain a ts) s = (tree.chain a (snoc_many ts s), ap (λ x. spell a ++ x) (spell_snoc ts s) ∙ sym (append_assoc (spell a) (spell ts) (spell s)))

extend : {f : Form} {us : List Token} → Held f us → (s : Tree suffix) → Held plain (us ++ spell s)
extend h s = let j = snoc h.so_far s in record { so_far = j.0; words = ap (λ x. x ++ spell s) h.words ∙ sym j.1; form = tt }

plainly : {f : Form} {us : List Token} → Held f us → Held plain us
plainly h = record { so_far = h.so_far; words = h.words; form = tt }

weaken : (f : Form) {us : List Token} → Held f us → Held (before (alone_is f)) us
weaken bare h = h
weaken inner h = plainly h
weaken done h = plainly h
weaken plain h = plainly h

held_name : (n : Mark) → Held bare (tok kind.Name n ∷ [])
unfolding spell
held_name n = record { so_far = tree.chain (tree.name n) tree.none; words = refl; form = (n, refl) }

held_atom : (a : Tree atom) → Held plain (spell a)
unfolding spell
held_atom a = record { so_far = tree.chain a tree.none; words = sym (append-nil (spell a)); form = tt }

held_creation : (c : Tree creation) → Held done (spell c)
unfolding spell
held_creation c = record { so_far = tree.chain (tree.made c) tree.none; words = sym (append-nil (spell c)); form = (tree.creates c, refl) }

held_inner : {us : List Token} → Held plain us → (d n : Mark) → Held inner (us ++ tok kind.Dot d ∷ tok kind.Name n ∷ [])
unfolding spell
held_inner h d n =
    let k = extend h (tree.member d n) in
    record { so_far = k.so_far; words = k.words; form = (tree.inside h.so_far d n, ap (λ x. x ++ tok kind.Dot d ∷ tok kind.Name n ∷ []) h.words) }

held_call : {us : List Token} → Held plain us → (d n o : Mark) (e : Tree expr) (c : Mark) → Held done (us ++ tok kind.Dot d ∷ tok kind.Name n ∷ tok kind.OpenParen o ∷ (spell e ++ tok kind.CloseParen c ∷ []))
unfolding spell
held_call h d n o e c =
    let k = extend h (tree.call d n o e c) in
    record { so_far = k.so_far; words = k.words; form = (tree.calls h.so_far d n o e c, ap (λ x. x ++ tok kind.Dot d ∷ tok kind.Name n ∷ tok kind.OpenParen o ∷ (spell e ++ tok kind.CloseParen c ∷ [])) h.words) }

-- an item ends
closed : (m : Use) (f : Form) (us : List Token) → closes m f ≡ true → Held f us → (t : Tree (sort_of m)) × (us ≡ spell t)
unfolding spell
closed whole f us c h = (tree.alone h.so_far, h.words)
closed operand f us c h = (h.so_far, h.words)
closed acting bare us c h = absurd (false≢true c)
closed acting inner us c h = absurd (false≢true c)
closed acting done us c h = h.form
closed acting plain us c h = absurd (false≢true c)

compared : (m : Use) → compares m ≡ true → (i : Tree item) (q : Mark) (j : Tree item) → (t : Tree (sort_of m)) × (spell t ≡ spell i ++ tok kind.Equal q ∷ spell j)
unfolding spell
compared whole c i q j = (tree.equal i q j, refl)
compared operand c i q j = absurd (false≢true c)
compared acting c i q j = absurd (false≢true c)

assigned : (m : Use) → assigns m ≡ true → (x : Tree place) (q : Mark) (e : Tree expr) → (t : Tree (sort_of m)) × (spell t ≡ spell x ++ tok kind.Assign q ∷ spell e)
unfolding spell
assigned whole a x q e = (tree.assign x q e, refl)
assigned operand a x q e = absurd (false≢true a)
assigned acting a x q e = (tree.assigns x q e, refl)

place_of : (f : Form) (us : List Token) → settable f ≡ true → Held f us → (x : Tree place) × (us ≡ spell x)
unfolding spell
place_of bare us s h = (tree.bare h.form.0, h.form.1)
place_of inner us s h = h.form
place_of done us s h = absurd (false≢true s)
place_of plain us s h = absurd (false≢true s)

-- a statement that is an action
act_back : (P : List Token → Type 0) (ws : List Token) → Split action (One kind.Semicolon (Split (many stmt) P)) ws → Split (many stmt) P ws
unfolding spell
act_back P ws (a, u, e, (s, v, f, (ts, y, g, l))) = (tree.more (tree.act a s) ts, y, simp (e, f, g, append_assoc), l)

-- a variable
variable_back : (P : List Token → Type 0) (t : Tree tree.typed) (n : Mark) (ws : List Token) → One kind.Semicolon (Split (many variable) P) ws → Split (many variable) P (spell t ++ tok kind.Name n ∷ ws)
unfolding spell
variable_back P t n ws (s, u, e, (ts, y, g, l)) = (tree.more (tree.declares t n s) ts, y, simp (e, g, append_assoc), l)

empty : (s : Sort) (P : List Token → Type 0) (ws : List Token) → P ws → Split (many s) P ws
unfolding spell
empty s P ws l = (tree.none, ws, refl, l)

no_members : (b : Bool) (P : List Token → Type 0) (ws : List Token) → P ws → Members b P ws
no_members true P ws l = empty variable (Split (many method) P) ws (empty method P ws l)
no_members false P ws l = empty method P ws l

first_method : (b : Bool) (P : List Token → Type 0) (ws : List Token) → Split (many method) P ws → Members b P ws
first_method true P ws l = empty variable (Split (many method) P) ws l
first_method false P ws l = l

back : {α β : List Sym} {k : Kind} → Moves α k β → (w : Mark) (vs : List Token) → Lang β vs → Lang α (tok k w ∷ vs)
unfolding spell
back this_word w vs l = (w, vs, refl, l)
back start_name w vs l = l _ (held_name w)
back (start_literal {m} {α} a e) w vs l = rw e (l _ (held_atom (tree.literal a w)))
back start_new w vs (n, u, e, (o, x, f, (c, y, g, l))) = simp (e, f, g) (l _ (held_creation (tree.new w n o c)))
back start_paren w vs (t, u, e, (c, x, f, l)) = simp (e, f) (simp append_assoc at (l _ (held_atom (tree.paren w t c))))
back more_dot w vs l = λ us h. l us (weaken _ h) w
back more_colon w vs (n, u, e, l) = λ us h. simp e (simp append_assoc at (l _ (extend h (tree.instances w n))))
back (more_equal c) w vs (j, u, e, l) =
    λ us h. let t = compared _ c h.so_far w j in (t.0, u, simp (t.1, h.words, e, append_assoc), l)
back (more_assign a s) w vs (y, u, e, l) =
    λ us h. let (x, f) = place_of _ us s h in let (t, g) = assigned _ a x w y in
    (t, u, ap (λ z. z ++ tok kind.Assign w ∷ vs) f ∙ simp (g, e, append_assoc), l)
back (more_over {k = k} c r) w vs l = λ us h. let t = closed _ _ us c h in (t.0, tok k w ∷ vs, ap (λ x. x ++ tok k w ∷ vs) t.1, back r w vs l)
back dotted_name w vs l = λ us h d. l us (plainly h) d w
back (dotted_end a e) w vs l = λ us h d. rw e (simp append_assoc at (l _ (extend h (tree.end a d w))))
back (dotted_pair p e) w vs (o, u1, e1, (a, u2, e2, (i, u3, e3, (b, u4, e4, (c, u5, e5, l))))) =
    λ us h d. simp (h.form.1, e, e1, e2, e3, e4, e5) (simp append_assoc at (l _ (held_creation (tree.pair p h.form.0 d w o a i b c))))
back named_call w vs (t, u, e, (c, v, f, l)) = λ us h d n. simp (e, f) (simp append_assoc at (l _ (held_call h d n w t c)))
back (named_over r) w vs l = λ us h d n. simp append_assoc at (back r w vs l _ (held_inner h d n))
back typed_boolean w vs l = (tree.boolean w, vs, refl, l)
back typed_set w vs (a, u, e, (n, x, f, (g, y, h, l))) = (tree.set_of w a n g, y, simp (e, f, h), l)
back typed_row w vs l = (tree.row w, vs, refl, l)
back decls_class w vs (n, u1, e1, (x, u2, e2, (p, u3, e3, (b, u4, e4, (fs, u5, e5, (ms, u6, e6, (f, u7, e7, (ds, u8, e8, l)))))))) =
    (tree.more (tree.class w n x p b fs ms f) ds, u8, simp (e1, e2, e3, e4, e5, e6, e7, e8, append_assoc), l)
back decls_relationship w vs (n, u1, e1, (x, u2, e2, (p, u3, e3, (o, u4, e4, (y, u5, e5, (m, u6, e6, (z, u7, e7, (c, u8, e8, (b, u9, e9, (fs, u10, e10, (ms, u11, e11, (f, u12, e12, (ds, u13, e13, l))))))))))))) =
    (tree.more (tree.relationship w n x p o y m z c b fs ms f) ds, u13, simp (e1, e2, e3, e4, e5, e6, e7, e8, e9, e10, e11, e12, e13, append_assoc), l)
back (decls_over {α} {k = k} r) w vs l = empty decl (Lang α) (tok k w ∷ vs) (back r w vs l)
back (members_typed {b} {α} {k = k} r) w vs l =
    let (t, u, e, (n, v, f, m)) = back r w vs l in subst (Members b (Lang α)) (sym (e ∙ ap (λ x. spell t ++ x) f)) (m t n)
back (members_over {b} {α} {k = k} r) w vs l = no_members b (Lang α) (tok k w ∷ vs) (back r w vs l)
back member_field w vs l = λ t n. variable_back _ t n (tok kind.Semicolon w ∷ vs) (w, vs, refl, l)
back (member_method {b}) w vs (u, u1, e1, (p, u2, e2, (c, u3, e3, (a, u4, e4, (fs, u5, e5, (ss, u6, e6, (q, u7, e7, (x, u8, e8, (s, u9, e9, (f, u10, e10, (ms, u11, e11, l))))))))))) =
    λ t n. first_method b _ _ (tree.more (tree.method_of t n w u p c a fs ss q x s f) ms, u11, simp (e1, e2, e3, e4, e5, e6, e7, e8, e9, e10, e11, append_assoc), l)
back body_boolean w vs (n, u, e, l) = simp e (variable_back _ (tree.boolean w) n u l)
back body_set w vs (a, u1, e1, (b, u2, e2, (c, u3, e3, (n, u4, e4, l)))) = simp (e1, e2, e3, e4) (variable_back _ (tree.set_of w a b c) n u4 l)
back body_name w vs l = l w
back (body_over {α} {k = k} r) w vs l = empty variable (Split (many stmt) (Lang α)) (tok k w ∷ vs) (back r w vs l)
back opening_row w vs l = λ n. variable_back _ (tree.row n) w vs l
back (opening_act {α} r) w vs l = λ n. empty variable (Split (many stmt) (Lang α)) _ (act_back (Lang α) _ (back r w vs l _ (held_name n)))
back stmts_if w vs (o, u1, e1, (x, u2, e2, (c, u3, e3, (b, u4, e4, (ss, u5, e5, (f, u6, e6, (q, u7, e7, (g, u8, e8, (us, u9, e9, (h, u10, e10, (s, u11, e11, (ts, u12, e12, l)))))))))))) =
    (tree.more (tree.branch w o x c b ss f q g us h s) ts, u12, simp (e1, e2, e3, e4, e5, e6, e7, e8, e9, e10, e11, e12, append_assoc), l)
back (stmts_act {α} {k = k} r) w vs l = act_back (Lang α) (tok k w ∷ vs) (back r w vs l)
back (stmts_over {α} {k = k} r) w vs l = empty stmt (Lang α) (tok k w ∷ vs) (back r w vs l)

ends_lang : (α : List Sym) → ends α ≡ true → Lang α []
unfolding ends spell
ends_lang [] e = refl
ends_lang (word k ∷ α) e = absurd (false≢true e)
ends_lang (start m ∷ α) e = absurd (false≢true e)
ends_lang (more m f ∷ α) e = λ us h. let s = and_parts (closes m f) (ends α) e in let t = closed m f us s.0 h in (t.0, [], ap (λ x. x ++ []) t.1, ends_lang α s.1)
ends_lang (dotted m b ∷ α) e = absurd (false≢true e)
ends_lang (named m ∷ α) e =
    λ us h d n. let s = and_parts (closes m inner) (ends α) e in let t = closed m inner _ s.0 (held_inner h d n) in
    (t.0, [], t.1 ∙ sym (append-nil (spell t.0)), ends_lang α s.1)
ends_lang (typed ∷ α) e = absurd (false≢true e)
ends_lang (decls ∷ α) e = empty decl (Lang α) [] (ends_lang α e)
ends_lang (members b ∷ α) e = no_members b (Lang α) [] (ends_lang α e)
ends_lang (member b ∷ α) e = absurd (false≢true e)
ends_lang (body ∷ α) e = empty variable (Split (many stmt) (Lang α)) [] (empty stmt (Lang α) [] (ends_lang α e))
ends_lang (opening ∷ α) e = absurd (false≢true e)
ends_lang (stmts ∷ α) e = empty stmt (Lang α) [] (ends_lang α e)

abbrev mark : Token → Mark
mark v = record { place = v.place; bytes = v.bytes }

pub sound : (vs : List Token) (α : List Sym) → Accepts α vs → Lang α vs
sound [] α a = ends_lang α a
sound (v ∷ vs) α a = back (moves α v.kind a.0 a.1) (mark v) vs (sound vs a.0 a.2)

pub sound_program : (vs : List Token) → Accepts (decls ∷ []) vs → (t : Program) × (vs ≡ spell t)
sound_program vs a = let (t, us, e, l) = sound vs (decls ∷ []) a in (t, e ∙ ap (λ x. spell t ++ x) l ∙ append-nil (spell t))
