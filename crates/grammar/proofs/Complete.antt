-- What a tree spells, the machine accepts.
use Rattle.std.proofs.Common.{◌≡◌, Bool, true, false, List, [], ◌∷◌, ◌++◌, Some, refl, ap, ◌∙◌, subst, append_assoc, append-nil}
use Rattle.std.proofs.lemmas.Bool.{false≢true}
use Rattle.words.specs.declared.kind.Kind.{Kind}
use Rattle.words.specs.declared.kind.Kind.TheVariants as kind
use Rattle.words.specs.Words.{Token}
use Rattle.grammar.specs.Trees.{Mark, tok, Sort, expr, item, atom, creation, suffix, place, action, stmt, variable, method, decl, many, Tree, spell, Literal, literal_kind, Pairing, pairing_kind, End, end_kind, Program}
use Rattle.grammar.specs.Trees as tree
use Rattle.grammar.specs.Machine.{Use, whole, operand, acting, Form, bare, inner, done, plain, Sym, word, start, more, dotted, named, typed, decls, members, member, body, opening, stmts, two, closes, begin, onward, after_dot, type_then, statement, step, ends}
use Rattle.grammar.proofs.Accepting.{Accepts}
use Rattle.grammar.proofs.Finishing.{Closer, paren, comma, semicolon, result, Shut, shut, more_ends, named_ends, body_ends, skip_step, skip, word_only}
use Rattle.grammar.proofs.Moves.{Moves, moves, this_word, start_name, start_literal, start_new, start_paren, more_dot, more_colon, more_equal, more_assign, more_over, typed_boolean, typed_set, typed_row, stmts_if, stmts_act, stmts_over}

each_literal : (P : Kind → Type 0) (l : Literal) → P kind.True → P kind.False → P kind.Null → P kind.This → P (literal_kind l)
each_literal P tree.true a b c d = a
each_literal P tree.false a b c d = b
each_literal P tree.null a b c d = c
each_literal P tree.this a b c d = d

start_of_literal : (m : Use) (α : List Sym) (l : Literal) → step (start m ∷ α) (literal_kind l) ≡ Some (more m plain ∷ α)
unfolding step begin
start_of_literal m α l = each_literal (λ k. step (start m ∷ α) k ≡ Some (more m plain ∷ α)) l refl refl refl refl

end_of_dotted : (m : Use) (b : Bool) (α : List Sym) (e : End) → step (dotted m b ∷ α) (end_kind e) ≡ Some (more m plain ∷ α)
unfolding step after_dot
end_of_dotted m b α tree.from = refl
end_of_dotted m b α tree.to = refl

pair_of_dotted : (m : Use) (α : List Sym) (p : Pairing) → step (dotted m true ∷ α) (pairing_kind p) ≡ Some (two (more m done ∷ α))
unfolding step after_dot
pair_of_dotted m α tree.add = refl
pair_of_dotted m α tree.rem = refl

-- a list of members goes on with a type
members_step : {b : Bool} {α β : List Sym} {k : Kind} → Moves (typed ∷ word kind.Name ∷ member b ∷ α) k β → step (members b ∷ α) k ≡ Some β
unfolding step type_then
members_step typed_boolean = refl
members_step typed_set = refl
members_step typed_row = refl

into_members : (b : Bool) (α : List Sym) (ws : List Token) → Accepts (typed ∷ word kind.Name ∷ member b ∷ α) ws → Accepts (members b ∷ α) ws
unfolding ends
into_members b α [] a = absurd (false≢true a)
into_members b α (w ∷ ws) a = (a.0, members_step (moves _ w.kind a.0 a.1), a.2)

-- statements go on with an action
stmts_step : {α β : List Sym} {k : Kind} → Moves (start acting ∷ word kind.Semicolon ∷ stmts ∷ α) k β → step (stmts ∷ α) k ≡ Some β
unfolding step statement begin
stmts_step start_name = refl
stmts_step {α} (start_literal l e) = rw e (each_literal (λ k. step (stmts ∷ α) k ≡ Some (more acting plain ∷ word kind.Semicolon ∷ stmts ∷ α)) l refl refl refl refl)
stmts_step start_new = refl
stmts_step start_paren = refl

into_stmts : (α : List Sym) (ws : List Token) → Accepts (start acting ∷ word kind.Semicolon ∷ stmts ∷ α) ws → Accepts (stmts ∷ α) ws
unfolding ends
into_stmts α [] a = absurd (false≢true a)
into_stmts α (w ∷ ws) a = (a.0, stmts_step (moves _ w.kind a.0 a.1), a.2)

-- an action that begins with a name
opening_step : {α β : List Sym} {k : Kind} → Moves (more acting bare ∷ word kind.Semicolon ∷ stmts ∷ α) k β → step (opening ∷ α) k ≡ Some β
unfolding step onward
opening_step more_dot = refl
opening_step more_colon = refl
opening_step (more_equal c) = absurd (false≢true c)
opening_step (more_assign a s) = refl
opening_step (more_over c r) = absurd (false≢true c)

into_opening : (α : List Sym) (ws : List Token) → Accepts (more acting bare ∷ word kind.Semicolon ∷ stmts ∷ α) ws → Accepts (opening ∷ α) ws
unfolding ends
into_opening α [] a = absurd (false≢true a)
into_opening α (w ∷ ws) a = (a.0, opening_step (moves _ w.kind a.0 a.1), a.2)

-- a type's name begins a variable
into_row : (α : List Sym) (ws : List Token) → Accepts (word kind.Name ∷ word kind.Semicolon ∷ body ∷ α) ws → Accepts (opening ∷ α) ws
unfolding ends step
into_row α [] a = absurd (false≢true a)
into_row α (w ∷ ws) a = let o = word_only kind.Name w.kind (word kind.Semicolon ∷ body ∷ α) a.0 a.1 in (a.0, ap (step (opening ∷ α)) o.0 ∙ ap Some o.1, a.2)

local_moves : {α β : List Sym} {k : Kind} (w : Mark) (ws : List Token) → Moves (typed ∷ word kind.Name ∷ word kind.Semicolon ∷ body ∷ α) k β → Accepts β ws → Accepts (body ∷ α) (tok k w ∷ ws)
unfolding step
local_moves w ws typed_boolean a = (_, refl, a)
local_moves w ws typed_set a = (_, refl, a)
local_moves {α} w ws typed_row a = (opening ∷ α, refl, into_row α ws a)

into_local : (α : List Sym) (ws : List Token) → Accepts (typed ∷ word kind.Name ∷ word kind.Semicolon ∷ body ∷ α) ws → Accepts (body ∷ α) ws
unfolding ends
into_local α [] a = absurd (false≢true a)
into_local α (w ∷ ws) a = local_moves (record { place = w.place; bytes = w.bytes }) ws (moves _ w.kind a.0 a.1) a.2

-- a method's statements begin
body_moves : {j : Kind} {α β : List Sym} {k : Kind} (w : Mark) (ws : List Token) → Closer j → Moves (stmts ∷ word j ∷ α) k β → Accepts β ws → Accepts (body ∷ word j ∷ α) (tok k w ∷ ws)
unfolding step statement begin
body_moves w ws c stmts_if a = (_, refl, a)
body_moves {j} {α} w ws c (stmts_act start_name) a = (opening ∷ word j ∷ α, refl, into_opening (word j ∷ α) ws a)
body_moves {j} {α} w ws c (stmts_act (start_literal l e)) a =
    (_, rw e (each_literal (λ k. step (body ∷ word j ∷ α) k ≡ Some (more acting plain ∷ word kind.Semicolon ∷ stmts ∷ word j ∷ α)) l refl refl refl refl), a)
body_moves w ws c (stmts_act start_new) a = (_, refl, a)
body_moves w ws c (stmts_act start_paren) a = (_, refl, a)
body_moves {α = α} w ws c (stmts_over this_word) a = (α, skip_step α body_ends c, a)

into_body : {j : Kind} (α : List Sym) (ws : List Token) → Closer j → Accepts (stmts ∷ word j ∷ α) ws → Accepts (body ∷ word j ∷ α) ws
unfolding ends
into_body α [] c a = absurd (false≢true a)
into_body {j} α (w ∷ ws) c a = body_moves (record { place = w.place; bytes = w.bytes }) ws c (moves (stmts ∷ word j ∷ α) w.kind a.0 a.1) a.2

-- the words r may come after an item of any form
record Ready (m : Use) (α : List Sym) (r : List Token) : Type 0 where
  more_so : (f : Form) → Accepts (more m f ∷ α) r
  named_so : Accepts (named m ∷ α) r

-- what the words ws of a part that may be repeated do
abbrev Turn : Sort → List Token → Type 0
Turn expr ws = Unit {0}
Turn item ws = Unit {0}
Turn atom ws = Unit {0}
Turn creation ws = Unit {0}
Turn suffix ws = (m : Use) (β : List Sym) (r : List Token) → Ready m β r → Ready m β (ws ++ r)
Turn place ws = Unit {0}
Turn action ws = Unit {0}
Turn stmt ws = (β : List Sym) (r : List Token) → Accepts (stmts ∷ β) r → Accepts (stmts ∷ β) (ws ++ r)
Turn tree.typed ws = Unit {0}
Turn variable ws = (β : List Sym) (r : List Token) → (Accepts (members true ∷ β) r → Accepts (members true ∷ β) (ws ++ r)) × (Accepts (body ∷ β) r → Accepts (body ∷ β) (ws ++ r))
Turn method ws = (β : List Sym) (r : List Token) → ((b : Bool) → Accepts (members b ∷ β) r) → (b : Bool) → Accepts (members b ∷ β) (ws ++ r)
Turn decl ws = (β : List Sym) (r : List Token) → Accepts (decls ∷ β) r → Accepts (decls ∷ β) (ws ++ r)
Turn (many s) ws = Unit {0}

-- the words ws of a sort are accepted where they are expected, whatever may come after them
abbrev Reads : Sort → List Token → Type 0
Reads expr ws = (β : List Sym) (r : List Token) → Shut β → Accepts β r → Accepts (start whole ∷ β) (ws ++ r)
Reads item ws = (m : Use) (β : List Sym) (r : List Token) → Ready m β r → Accepts (start m ∷ β) (ws ++ r)
Reads atom ws = (m : Use) (β : List Sym) (r : List Token) → Ready m β r → Accepts (start m ∷ β) (ws ++ r)
Reads creation ws = (m : Use) (β : List Sym) (r : List Token) → Accepts (more m done ∷ β) r → Accepts (start m ∷ β) (ws ++ r)
Reads suffix ws = Turn suffix ws
Reads place ws = (m : Use) (β : List Sym) (r : List Token) → Accepts (more m bare ∷ β) r → Accepts (named m ∷ β) r → Accepts (start m ∷ β) (ws ++ r)
Reads action ws = (β : List Sym) (r : List Token) → Shut β → Accepts β r → Accepts (start acting ∷ β) (ws ++ r)
Reads stmt ws = Turn stmt ws
Reads tree.typed ws = (β : List Sym) (r : List Token) → Accepts β r → Accepts (typed ∷ β) (ws ++ r)
Reads variable ws = Turn variable ws
Reads method ws = Turn method ws
Reads decl ws = Turn decl ws
Reads (many s) ws = Turn s ws

idle : (s : Sort) → Turn s []
idle expr = tt
idle item = tt
idle atom = tt
idle creation = tt
idle suffix = λ m β r h. h
idle place = tt
idle action = tt
idle stmt = λ β r h. h
idle tree.typed = tt
idle variable = λ β r. (λ h. h, λ h. h)
idle method = λ β r h. h
idle decl = λ β r h. h
idle (many s) = tt

join : (s : Sort) (us vs : List Token) → Reads s us → Turn s vs → Turn s (us ++ vs)
join expr us vs f g = tt
join item us vs f g = tt
join atom us vs f g = tt
join creation us vs f g = tt
join suffix us vs f g = λ m β r h. rw append_assoc (f m β (vs ++ r) (g m β r h))
join place us vs f g = tt
join action us vs f g = tt
join stmt us vs f g = λ β r h. rw append_assoc (f β (vs ++ r) (g β r h))
join tree.typed us vs f g = tt
join variable us vs f g = λ β r. (λ h. rw append_assoc ((f β (vs ++ r)).0 ((g β r).0 h)), λ h. rw append_assoc ((f β (vs ++ r)).1 ((g β r).1 h)))
join method us vs f g = λ β r h b. rw append_assoc (f β (vs ++ r) (g β r h) b)
join decl us vs f g = λ β r h. rw append_assoc (f β (vs ++ r) (g β r h))
join (many s) us vs f g = tt

-- whatever comes after a dot
dot_ready : {m : Use} {β : List Sym} {ws : List Token} (d : Mark) → ((b : Bool) → Accepts (dotted m b ∷ β) ws) → Ready m β (tok kind.Dot d ∷ ws)
unfolding step onward
dot_ready d h = record { more_so = λ f. (_, refl, h _); named_so = (_, refl, h _) }

-- an expression in brackets ends
in_parens : (e : List Token) (c : Mark) (β : List Sym) (r : List Token) → Reads expr e → Accepts β r → Accepts (start whole ∷ word kind.CloseParen ∷ β) ((e ++ tok kind.CloseParen c ∷ []) ++ r)
unfolding step
in_parens e c β r f a = rw append_assoc (f (word kind.CloseParen ∷ β) (tok kind.CloseParen c ∷ r) (shut paren) (β, refl, a))

-- fields and methods in braces
in_braces : (vs ms : List Token) (f : Mark) (β : List Sym) (r : List Token) → Reads variable vs → Reads method ms → Accepts (decls ∷ β) r
    → Accepts (members true ∷ word kind.CloseBrace ∷ decls ∷ β) ((vs ++ (ms ++ tok kind.CloseBrace f ∷ [])) ++ r)
unfolding step type_then
in_braces vs ms f β r g h a =
    let after : Accepts (members true ∷ word kind.CloseBrace ∷ decls ∷ β) (ms ++ tok kind.CloseBrace f ∷ r) = h _ (tok kind.CloseBrace f ∷ r) (λ b. (decls ∷ β, refl, a)) true in
    rw (append_assoc, append_assoc) ((g _ _).0 after)

-- what comes after a whole item
over_ready : (m : Use) → ((f : Form) → closes m f ≡ true) → (β : List Sym) (r : List Token) → Shut β → Accepts β r → Ready m β r
over_ready m c β r s a = record { more_so = λ f. skip r (more_ends (c f)) s a; named_so = skip r (named_ends (c inner)) s a }

regroup : (us vs r : List Token) (α : List Sym) → Accepts α (us ++ (vs ++ r)) → Accepts α ((us ++ vs) ++ r)
regroup us vs r α a = rw append_assoc a

complete : {s : Sort} (t : Tree s) → Reads s (spell t)
unfolding spell step begin onward after_dot type_then statement
complete (tree.none {s}) = idle s
complete (tree.more {s} t ts) = join s (spell t) (spell ts) (complete t) (complete ts)
complete (tree.name n) = λ m β r h. (_, refl, h.more_so bare)
complete (tree.literal l w) = λ m β r h. (_, start_of_literal m β l, h.more_so plain)
complete (tree.paren o e c) = λ m β r h. (_, refl, in_parens (spell e) c _ r (complete e) (h.more_so plain))
complete (tree.made c) = λ m β r h. complete c m β r (h.more_so done)
complete (tree.new w n o c) = λ m β r a. (_, refl, (_, refl, (_, refl, (_, refl, a))))
complete (tree.pair p n d w o a i b c) =
    λ m β r h. (
      _,
      refl,
      (
        _,
        refl,
        (
          _,
          pair_of_dotted m β p,
          (
            _,
            refl,
            regroup (spell a) _ _ _ (complete a _ _ (shut comma) (_, refl, in_parens (spell b) c _ r (complete b) h)),
          ),
        ),
      ),
    )
complete (tree.member d n) = λ m β r h. dot_ready d (λ b. (_, refl, h.named_so))
complete (tree.call d n o e c) = λ m β r h. dot_ready d (λ b. (_, refl, (_, refl, in_parens (spell e) c _ r (complete e) (h.more_so done))))
complete (tree.instances c n) = λ m β r h. record { more_so = λ f. (_, refl, (_, refl, h.more_so plain)); named_so = (_, refl, (_, refl, h.more_so plain)) }
complete (tree.end e d w) = λ m β r h. dot_ready d (λ b. (_, end_of_dotted m b β e, h.more_so plain))
complete (tree.chain a ss) = λ m β r h. regroup (spell a) _ _ _ (complete a m β (spell ss ++ r) (complete ss m β r h))
complete (tree.bare n) = λ m β r a b. (_, refl, a)
complete (tree.inside i d n) = λ m β r a b. regroup (spell i) _ _ _ (complete i m β (tok kind.Dot d ∷ tok kind.Name n ∷ r) (dot_ready d (λ _. (_, refl, b))))
complete (tree.alone i) = λ β r s a. complete i whole β r (over_ready whole (λ _. refl) β r s a)
complete (tree.equal i q j) =
    λ β r s a. let last : Accepts (start operand ∷ β) (spell j ++ r) = complete j operand β r (over_ready operand (λ _. refl) β r s a) in
    regroup (spell i) (tok kind.Equal q ∷ spell j) r _ (complete i whole β (tok kind.Equal q ∷ (spell j ++ r)) (record { more_so = λ f. (_, refl, last); named_so = (_, refl, last) }))
complete (tree.assign x q e) =
    λ β r s a. let last : Accepts (start whole ∷ β) (spell e ++ r) = complete e β r s a in
    regroup (spell x) (tok kind.Assign q ∷ spell e) r _ (complete x whole β (tok kind.Assign q ∷ (spell e ++ r)) (_, refl, last) (_, refl, last))
complete (tree.assigns x q e) =
    λ β r s a. let last : Accepts (start whole ∷ β) (spell e ++ r) = complete e β r s a in
    regroup (spell x) (tok kind.Assign q ∷ spell e) r _ (complete x acting β (tok kind.Assign q ∷ (spell e ++ r)) (_, refl, last) (_, refl, last))
complete (tree.calls i d n o e c) =
    λ β r s a. regroup (spell i) _ _ _ (complete i acting β (tok kind.Dot d ∷ tok kind.Name n ∷ tok kind.OpenParen o ∷ ((spell e ++ tok kind.CloseParen c ∷ []) ++ r))
    (dot_ready d (λ b. (_, refl, (_, refl, in_parens (spell e) c _ r (complete e) (skip r (more_ends refl) s a))))))
complete (tree.creates c) = λ β r s a. complete c acting β r (skip r (more_ends refl) s a)
complete (tree.act a s) =
    λ β r h. regroup (spell a) _ _ _ (into_stmts β (spell a ++ tok kind.Semicolon s ∷ r) (complete a (word kind.Semicolon ∷ stmts ∷ β) (tok kind.Semicolon s ∷ r) (shut semicolon) (_, refl, h)))
complete (tree.branch i o e c b ss f l g us h s) =
    λ β r a. (
      _,
      refl,
      (
        _,
        refl,
        regroup (spell e) _ _ _ (complete e _ _ (shut paren) (
          _,
          refl,
          (
            _,
            refl,
            regroup (spell ss) _ _ _ (complete ss _ _ (_, refl, (_, refl, (_, refl, regroup (spell us) _ _ _ (complete us _ _ (_, refl, (_, refl, a))))))),
          ),
        )),
      ),
    )
complete (tree.boolean w) = λ β r a. (_, refl, a)
complete (tree.set_of w l n g) = λ β r a. (_, refl, (_, refl, (_, refl, (_, refl, a))))
complete (tree.row n) = λ β r a. (_, refl, a)
complete (tree.declares t n s) = λ β r. (
  λ a. regroup (spell t) _ _ _ (into_members true β _ (complete t _ (tok kind.Name n ∷ tok kind.Semicolon s ∷ r) (_, refl, (_, refl, a)))),
  λ a. regroup (spell t) _ _ _ (into_local β _ (complete t _ (tok kind.Name n ∷ tok kind.Semicolon s ∷ r) (_, refl, (_, refl, a)))),
)
complete (tree.method_of t n o u p c b vs ss q e s f) =
    λ β r a d. regroup (spell t) _ _ _ (into_members d β _ (complete t _ _ (
      _,
      refl,
      (
        _,
        refl,
        regroup (spell u) _ _ _ (complete u _ _ (
          _,
          refl,
          (
            _,
            refl,
            (
              _,
              refl,
              regroup (spell vs) _ _ _ ((complete vs _ _).1 (into_body _ _ result (regroup (spell ss) _ _ _ (complete ss _ _ (
                _,
                refl,
                regroup (spell e) _ _ _ (complete e _ _ (shut semicolon) (_, refl, (_, refl, a false))),
              ))))),
            ),
          ),
        )),
      ),
    )))
complete (tree.class w n x p b vs ms f) =
    λ β r a. (_, refl, (_, refl, (_, refl, (_, refl, (_, refl, in_braces (spell vs) (spell ms) f β r (complete vs) (complete ms) a)))))
complete (tree.relationship w n x p o y m z c b vs ms f) =
    λ β r a. (
      _,
      refl,
      (
        _,
        refl,
        (
          _,
          refl,
          (
            _,
            refl,
            (
              _,
              refl,
              (
                _,
                refl,
                (
                  _,
                  refl,
                  (
                    _,
                    refl,
                    (
                      _,
                      refl,
                      (
                        _,
                        refl,
                        in_braces (spell vs) (spell ms) f β r (complete vs) (complete ms) a,
                      ),
                    ),
                  ),
                ),
              ),
            ),
          ),
        ),
      ),
    )

pub complete_program : (t : Program) → Accepts (decls ∷ []) (spell t)
unfolding ends
complete_program t = subst (Accepts (decls ∷ [])) (append-nil (spell t)) (complete t [] [] refl)
