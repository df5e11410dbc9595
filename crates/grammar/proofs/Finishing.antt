-- From whatever is expected, some words lead to the end.
use Rattle.std.proofs.Common.{◌≡◌, Bool, true, false, cond, List, [], ◌∷◌, map, Some, None, refl, ap, ◌∙◌}
use Rattle.std.proofs.lemmas.Option.{none-some}
use Rattle.std.proofs.lemmas.Bool.{false≢true}
use Rattle.words.specs.declared.kind.Kind.{Kind}
use Rattle.words.specs.declared.kind.Kind.TheVariants as kind
use Rattle.words.specs.Kinds.{is}
use Rattle.words.specs.Words.{Token}
use Rattle.grammar.specs.Trees.{tok}
use Rattle.grammar.specs.Machine.{Use, whole, operand, acting, Form, inner, done, Sym, word, start, more, dotted, named, typed, decls, members, member, body, opening, stmts, closes, begin, onward, after_dot, type_then, statement, step, ends}
use Rattle.grammar.specs.Exact.{Begins, marked}
use Rattle.grammar.proofs.Accepting.{Accepts, Stuck, some_inj}
use Rattle.grammar.proofs.WordKinds.{is_same, is_true}
use Rattle.grammar.proofs.Moves.{Moves, moves, this_word, start_name, start_literal, start_new, start_paren, more_dot, more_colon, more_equal, more_assign, more_over, dotted_name, dotted_end, dotted_pair, named_call, named_over, typed_boolean, typed_set, typed_row, decls_class, decls_relationship, decls_over, members_typed, members_over, member_field, member_method, body_boolean, body_set, body_name, body_over, opening_row, opening_act, stmts_if, stmts_act, stmts_over}

-- the words that may stand after what can be left out
pub data Closer : Kind → Type 0 where
  paren : Closer kind.CloseParen
  comma : Closer kind.Comma
  semicolon : Closer kind.Semicolon
  brace : Closer kind.CloseBrace
  result : Closer kind.Return

-- one of them comes first
pub data Shut : List Sym → Type 0 where
  shut : {j : Kind} {α : List Sym} → Closer j → Shut (word j ∷ α)

each : {j : Kind} (P : Kind → Type 0) → Closer j → P kind.CloseParen → P kind.Comma → P kind.Semicolon → P kind.CloseBrace → P kind.Return → P j
each P paren a b c d e = a
each P comma a b c d e = b
each P semicolon a b c d e = c
each P brace a b c d e = d
each P result a b c d e = e

-- what can be left out
pub data Skips : Sym → Type 0 where
  more_ends : {m : Use} {f : Form} → closes m f ≡ true → Skips (more m f)
  named_ends : {m : Use} → closes m inner ≡ true → Skips (named m)
  members_end : {b : Bool} → Skips (members b)
  body_ends : Skips body
  stmts_end : Skips stmts

pub skip_step : {γ : Sym} {j : Kind} (α : List Sym) → Skips γ → Closer j → step (γ ∷ word j ∷ α) j ≡ Some α
unfolding step begin onward type_then statement
skip_step α (more_ends {m} {f} h) c = let e = ap (λ b. cond b (Some α) None) h in each (λ j. step (more m f ∷ word j ∷ α) j ≡ Some α) c e e e e e
skip_step α (named_ends {m} h) c = let e = ap (λ b. cond b (Some α) None) h in each (λ j. step (named m ∷ word j ∷ α) j ≡ Some α) c e e e e e
skip_step α (members_end {b}) c = each (λ j. step (members b ∷ word j ∷ α) j ≡ Some α) c refl refl refl refl refl
skip_step α body_ends c = each (λ j. step (body ∷ word j ∷ α) j ≡ Some α) c refl refl refl refl refl
skip_step α stmts_end c = each (λ j. step (stmts ∷ word j ∷ α) j ≡ Some α) c refl refl refl refl refl

-- an expected word
pub word_step : (k : Kind) (α : List Sym) → step (word k ∷ α) k ≡ Some α
unfolding step
word_step k α = ap (λ b. cond b (Some α) None) (is_same k k refl)

pub word_only : (j k : Kind) (α β : List Sym) → step (word j ∷ α) k ≡ Some β → (k ≡ j) × (α ≡ β)
unfolding step
word_only j k α β e = go (is j k) refl e
  where
    go : (b : Bool) → is j k ≡ b → cond b (Some α) None ≡ Some β → (k ≡ j) × (α ≡ β)
    go true t e = (is_true j k t, some_inj α β e)
    go false t e = absurd (none-some β e)

pub skip : {γ : Sym} {α : List Sym} (vs : List Token) → Skips γ → Shut α → Accepts α vs → Accepts (γ ∷ α) vs
unfolding ends
skip [] s (shut c) a = absurd (false≢true a)
skip {γ} (v ∷ vs) s (shut {j} {α} c) a =
    let w = word_only j v.kind α a.0 a.1 in
    (a.0, ap (step (γ ∷ word j ∷ α)) w.0 ∙ skip_step α s c ∙ ap Some w.1, a.2)

-- nothing comes after
pub data Last : List Sym → Type 0 where
  last : Last []

-- what can be left out stands before a word that tells so
abbrev pub Good : List Sym → Type 0
Good [] = Unit {0}
Good (word k ∷ α) = Good α
Good (start m ∷ α) = Shut α × Good α
Good (more m f ∷ α) = Shut α × Good α
Good (dotted m b ∷ α) = Shut α × Good α
Good (named m ∷ α) = Shut α × Good α
Good (typed ∷ α) = Good α
Good (decls ∷ α) = Last α × Good α
Good (members b ∷ α) = Shut α × Good α
Good (member b ∷ α) = Shut α × Good α
Good (body ∷ α) = Shut α × Good α
Good (opening ∷ α) = Shut α × Good α
Good (stmts ∷ α) = Shut α × Good α

good : {α β : List Sym} {k : Kind} → Moves α k β → Good α → Good β
good this_word h = h
good start_name h = h
good (start_literal l e) h = h
good start_new h = h
good start_paren h = (shut paren, h)
good more_dot h = h
good more_colon h = h
good (more_equal c) h = h
good (more_assign a s) h = h
good (more_over c r) h = good r h.1
good dotted_name h = h
good (dotted_end e f) h = h
good (dotted_pair p e) h = (shut comma, (shut paren, h))
good named_call h = (shut paren, h)
good (named_over r) h = good r h
good typed_boolean h = h
good typed_set h = h
good typed_row h = h
good decls_class h = (shut brace, h)
good decls_relationship h = (shut brace, h)
good (decls_over r) h = good r h.1
good (members_typed r) h = good r h
good (members_over r) h = good r h.1
good member_field h = h
good member_method h = (shut result, (shut semicolon, h))
good body_boolean h = h
good body_set h = h
good body_name h = h
good (body_over r) h = good r h
good opening_row h = h
good (opening_act r) h = good r (shut semicolon, h)
good stmts_if h = (shut paren, (shut brace, (shut brace, h)))
good (stmts_act r) h = good r (shut semicolon, h)
good (stmts_over r) h = good r h.1

pub record Finishes (α : List Sym) : Type 0 where
  pub words : List Token
  pub accepted : Accepts α words

by : {α β : List Sym} (k : Kind) → step α k ≡ Some β → Finishes β → Finishes α
by {β = β} k e f = record { words = tok k (record { place = 0; bytes = [] }) ∷ f.words; accepted = (β, e, f.accepted) }

skips : {γ : Sym} {α : List Sym} → Skips γ → Shut α → Finishes α → Finishes (γ ∷ α)
skips s h f = record { words = f.words; accepted = skip f.words s h f.accepted }

module _ (m : Use) (α : List Sym) (s : Shut α) (f : Finishes α) where
  finish_done : Finishes (more m done ∷ α)
  finish_done = skips (more_ends (closes_done m)) s f
    where
      closes_done : (m : Use) → closes m done ≡ true
      closes_done whole = refl
      closes_done operand = refl
      closes_done acting = refl

  finish_named : Finishes (named m ∷ α)
  unfolding step begin onward
  finish_named = by kind.OpenParen refl (by kind.Name refl (by kind.CloseParen refl finish_done))

  finish_dotted : (b : Bool) → Finishes (dotted m b ∷ α)
  unfolding step after_dot
  finish_dotted b = by kind.Name refl finish_named

finish_decls : {α : List Sym} → Last α → Finishes (decls ∷ α)
unfolding ends
finish_decls last = record { words = []; accepted = refl }

finishes : (α : List Sym) → Good α → Finishes α
unfolding step begin onward type_then statement ends
finishes [] h = record { words = []; accepted = refl }
finishes (word k ∷ α) h = by k (word_step k α) (finishes α h)
finishes (start m ∷ α) h = by kind.New refl (by kind.Name refl (by kind.OpenParen refl (by kind.CloseParen refl (finish_done m α h.0 (finishes α h.1)))))
finishes (more m f ∷ α) h = by kind.Dot refl (finish_dotted m α h.0 (finishes α h.1) _)
finishes (dotted m b ∷ α) h = finish_dotted m α h.0 (finishes α h.1) b
finishes (named m ∷ α) h = finish_named m α h.0 (finishes α h.1)
finishes (typed ∷ α) h = by kind.Name refl (finishes α h)
finishes (decls ∷ α) h = finish_decls h.0
finishes (members b ∷ α) h = skips members_end h.0 (finishes α h.1)
finishes (member b ∷ α) h =
    by kind.OpenParen refl (by kind.Boolean refl (by kind.Name refl (by kind.CloseParen refl (by kind.OpenBrace refl
    (by kind.Return refl (by kind.Name refl (by kind.Semicolon refl (by kind.CloseBrace refl (skips members_end h.0 (finishes α h.1))))))))))
finishes (body ∷ α) h = skips body_ends h.0 (finishes α h.1)
finishes (opening ∷ α) h = by kind.Name refl (by kind.Semicolon refl (skips body_ends h.0 (finishes α h.1)))
finishes (stmts ∷ α) h = skips stmts_end h.0 (finishes α h.1)

-- the words that came before begin some that are accepted
pub some_such : (before rest : List Token) (α : List Sym) → Good α → Stuck α before rest → (vs : List Token) × Accepts α vs × Begins (map Some before) (marked vs)
some_such [] rest α h s = let f = finishes α h in (f.words, f.accepted, tt)
some_such (w ∷ ws) rest α h s =
    let r = some_such ws rest s.0 (good (moves α w.kind s.0 s.1) h) s.2 in
    (w ∷ r.0, (s.0, s.1, r.1), (refl, r.2))
