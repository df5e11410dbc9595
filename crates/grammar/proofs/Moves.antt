-- The machine's steps as rules, one for each way on.
use Rattle.std.proofs.Common.{◌≡◌, Bool, true, false, cond, ◌&&◌, ◌||◌, List, [], ◌∷◌, Some, None, Option, sym, refl, subst}
use Rattle.std.proofs.lemmas.Option.{none-some}
use Rattle.std.proofs.lemmas.Bool.{and_parts, false≢true}
use Rattle.words.specs.declared.kind.Kind.{Kind}
use Rattle.words.specs.declared.kind.Kind.TheVariants as kind
use Rattle.words.specs.Kinds.{is}
use Rattle.grammar.specs.Trees.{Literal, literal_kind, Pairing, pairing_kind, End, end_kind}
use Rattle.grammar.specs.Trees as tree
use Rattle.grammar.specs.Machine.{Use, whole, operand, acting, Form, bare, inner, done, plain, Sym, word, start, more, dotted, named, typed, decls, members, member, body, opening, stmts, two, fresh, inner_set, branches, method_rest, class_rest, relationship_rest, settable, alone_is, closes, compares, assigns, literal_word, begin, onward, after_dot, type_then, statement, step}
use Rattle.grammar.proofs.Accepting.{some_inj}
use Rattle.grammar.proofs.WordKinds.{is_true}

pub data Moves : List Sym → Kind → List Sym → Type 0 where
  this_word : {k : Kind} {α : List Sym} → Moves (word k ∷ α) k α
  start_name : {m : Use} {α : List Sym} → Moves (start m ∷ α) kind.Name (more m bare ∷ α)
  start_literal : {m : Use} {α : List Sym} {k : Kind} (l : Literal) → k ≡ literal_kind l → Moves (start m ∷ α) k (more m plain ∷ α)
  start_new : {m : Use} {α : List Sym} → Moves (start m ∷ α) kind.New (fresh (more m done ∷ α))
  start_paren : {m : Use} {α : List Sym} → Moves (start m ∷ α) kind.OpenParen (start whole ∷ word kind.CloseParen ∷ more m plain ∷ α)
  more_dot : {m : Use} {f : Form} {α : List Sym} → Moves (more m f ∷ α) kind.Dot (dotted m (alone_is f) ∷ α)
  more_colon : {m : Use} {f : Form} {α : List Sym} → Moves (more m f ∷ α) kind.Colon (word kind.Name ∷ more m plain ∷ α)
  more_equal : {m : Use} {f : Form} {α : List Sym} → compares m ≡ true → Moves (more m f ∷ α) kind.Equal (start operand ∷ α)
  more_assign : {m : Use} {f : Form} {α : List Sym} → assigns m ≡ true → settable f ≡ true → Moves (more m f ∷ α) kind.Assign (start whole ∷ α)
  more_over : {m : Use} {f : Form} {α β : List Sym} {k : Kind} → closes m f ≡ true → Moves α k β → Moves (more m f ∷ α) k β
  dotted_name : {m : Use} {b : Bool} {α : List Sym} → Moves (dotted m b ∷ α) kind.Name (named m ∷ α)
  dotted_end : {m : Use} {b : Bool} {α : List Sym} {k : Kind} (e : End) → k ≡ end_kind e → Moves (dotted m b ∷ α) k (more m plain ∷ α)
  dotted_pair : {m : Use} {α : List Sym} {k : Kind} (p : Pairing) → k ≡ pairing_kind p → Moves (dotted m true ∷ α) k (two (more m done ∷ α))
  named_call : {m : Use} {α : List Sym} → Moves (named m ∷ α) kind.OpenParen (start whole ∷ word kind.CloseParen ∷ more m done ∷ α)
  named_over : {m : Use} {α β : List Sym} {k : Kind} → Moves (more m inner ∷ α) k β → Moves (named m ∷ α) k β
  typed_boolean : {α : List Sym} → Moves (typed ∷ α) kind.Boolean α
  typed_set : {α : List Sym} → Moves (typed ∷ α) kind.Set (inner_set α)
  typed_row : {α : List Sym} → Moves (typed ∷ α) kind.Name α
  decls_class : {α : List Sym} → Moves (decls ∷ α) kind.Class (class_rest (decls ∷ α))
  decls_relationship : {α : List Sym} → Moves (decls ∷ α) kind.Relationship (relationship_rest (decls ∷ α))
  decls_over : {α β : List Sym} {k : Kind} → Moves α k β → Moves (decls ∷ α) k β
  members_typed : {b : Bool} {α β : List Sym} {k : Kind} → Moves (typed ∷ word kind.Name ∷ member b ∷ α) k β → Moves (members b ∷ α) k β
  members_over : {b : Bool} {α β : List Sym} {k : Kind} → Moves α k β → Moves (members b ∷ α) k β
  member_field : {α : List Sym} → Moves (member true ∷ α) kind.Semicolon (members true ∷ α)
  member_method : {b : Bool} {α : List Sym} → Moves (member b ∷ α) kind.OpenParen (method_rest (members false ∷ α))
  body_boolean : {α : List Sym} → Moves (body ∷ α) kind.Boolean (word kind.Name ∷ word kind.Semicolon ∷ body ∷ α)
  body_set : {α : List Sym} → Moves (body ∷ α) kind.Set (inner_set (word kind.Name ∷ word kind.Semicolon ∷ body ∷ α))
  body_name : {α : List Sym} → Moves (body ∷ α) kind.Name (opening ∷ α)
  body_over : {α β : List Sym} {k : Kind} → Moves (stmts ∷ α) k β → Moves (body ∷ α) k β
  opening_row : {α : List Sym} → Moves (opening ∷ α) kind.Name (word kind.Semicolon ∷ body ∷ α)
  opening_act : {α β : List Sym} {k : Kind} → Moves (more acting bare ∷ word kind.Semicolon ∷ stmts ∷ α) k β → Moves (opening ∷ α) k β
  stmts_if : {α : List Sym} → Moves (stmts ∷ α) kind.If (branches (stmts ∷ α))
  stmts_act : {α β : List Sym} {k : Kind} → Moves (start acting ∷ word kind.Semicolon ∷ stmts ∷ α) k β → Moves (stmts ∷ α) k β
  stmts_over : {α β : List Sym} {k : Kind} → Moves α k β → Moves (stmts ∷ α) k β

-- the cases of a test
on : {α : List Sym} {k : Kind} {β : List Sym} (b : Bool) (x : List Sym) (y : Option (List Sym)) → cond b (Some x) y ≡ Some β → (b ≡ true → Moves α k x) → (y ≡ Some β → Moves α k β) → Moves α k β
on {α} {k} {β} true x y e f g = subst (Moves α k) (some_inj x β e) (f refl)
on false x y e f g = g e

known : {α γ : List Sym} (j k : Kind) → is j k ≡ true → Moves α j γ → Moves α k γ
known {α} {γ} j k t h = subst (λ i. Moves α i γ) (sym (is_true j k t)) h

-- a test for the kind j
at : {α : List Sym} {k : Kind} {β x : List Sym} (j : Kind) (y : Option (List Sym)) → cond (is j k) (Some x) y ≡ Some β → Moves α j x → (y ≡ Some β → Moves α k β) → Moves α k β
at {k = k} {x = x} j y e h g = on (is j k) x y e (λ t. known j k t h) g

none : {α β : List Sym} {k : Kind} → ◌≡◌ {A = Option (List Sym)} None (Some β) → Moves α k β
none {β = β} e = absurd (none-some β e)

or_cases : {A : Type 0} (a b : Bool) → (a || b) ≡ true → (a ≡ true → A) → (b ≡ true → A) → A
or_cases true b e f g = f refl
or_cases false b e f g = g e

literal_of : (k : Kind) → literal_word k ≡ true → (l : Literal) × (k ≡ literal_kind l)
literal_of k e =
    or_cases (is kind.True k || is kind.False k || is kind.Null k) (is kind.This k) e
    (λ e. or_cases (is kind.True k || is kind.False k) (is kind.Null k) e
    (λ e. or_cases (is kind.True k) (is kind.False k) e (λ t. (tree.true, is_true _ k t)) (λ t. (tree.false, is_true _ k t)))
    (λ t. (tree.null, is_true _ k t)))
    (λ t. (tree.this, is_true _ k t))

end_of : (k : Kind) → (is kind.From k || is kind.To k) ≡ true → (e : End) × (k ≡ end_kind e)
end_of k e = or_cases (is kind.From k) (is kind.To k) e (λ t. (tree.from, is_true _ k t)) (λ t. (tree.to, is_true _ k t))

pairing_of : (k : Kind) → (is kind.Add k || is kind.Rem k) ≡ true → (p : Pairing) × (k ≡ pairing_kind p)
pairing_of k e = or_cases (is kind.Add k) (is kind.Rem k) e (λ t. (tree.add, is_true _ k t)) (λ t. (tree.rem, is_true _ k t))

module _ {β : List Sym} (k : Kind) (o : Option (List Sym)) where
  begin_moves : (m : Use) (α : List Sym) {γ : List Sym} → begin m α k o ≡ Some β → ((δ : List Sym) → Moves (start m ∷ α) k δ → Moves γ k δ) → (o ≡ Some β → Moves γ k β) → Moves γ k β
  unfolding begin
  begin_moves m α e f g =
      on (is kind.Name k) _ _ e (λ t. f _ (known _ k t start_name))
      (λ e. on (literal_word k) _ _ e (λ t. let l = literal_of k t in f _ (start_literal l.0 l.1))
      (λ e. on (is kind.New k) _ _ e (λ t. f _ (known _ k t start_new))
      (λ e. on (is kind.OpenParen k) _ _ e (λ t. f _ (known _ k t start_paren)) g)))

  onward_moves : (m : Use) (f : Form) (α : List Sym) → onward m f α k o ≡ Some β → (o ≡ Some β → closes m f ≡ true → Moves (more m f ∷ α) k β) → Moves (more m f ∷ α) k β
  unfolding onward
  onward_moves m f α e g =
      at kind.Dot _ e more_dot
      (λ e. at kind.Colon _ e more_colon
      (λ e. on (is kind.Equal k && compares m) _ _ e (λ t. let s = and_parts (is kind.Equal k) (compares m) t in known _ k s.0 (more_equal s.1))
      (λ e. on (is kind.Assign k && (assigns m && settable f)) _ _ e
      (λ t. let s = and_parts (is kind.Assign k) (assigns m && settable f) t in let u = and_parts (assigns m) (settable f) s.1 in known _ k s.0 (more_assign u.0 u.1))
      (λ e. over (closes m f) refl e))))
    where
      over : (b : Bool) → closes m f ≡ b → cond b o None ≡ Some β → Moves (more m f ∷ α) k β
      over true c e = g e c
      over false c e = none e

  type_moves : (ψ : List Sym) {γ : List Sym} → type_then ψ k o ≡ Some β → ((δ : List Sym) → Moves (typed ∷ ψ) k δ → Moves γ k δ) → (o ≡ Some β → Moves γ k β) → Moves γ k β
  unfolding type_then
  type_moves ψ e f g =
      on (is kind.Boolean k) _ _ e (λ t. f _ (known _ k t typed_boolean))
      (λ e. on (is kind.Set k) _ _ e (λ t. f _ (known _ k t typed_set))
      (λ e. on (is kind.Name k) _ _ e (λ t. f _ (known _ k t typed_row)) g))

  statement_moves : (α : List Sym) → statement α k o ≡ Some β → (o ≡ Some β → Moves (stmts ∷ α) k β) → Moves (stmts ∷ α) k β
  unfolding statement
  statement_moves α e g = at kind.If _ e stmts_if (λ e. begin_moves acting (word kind.Semicolon ∷ stmts ∷ α) e (λ _ h. stmts_act h) g)

dotted_moves : (m : Use) (b : Bool) (α β : List Sym) (k : Kind) → after_dot m b α k ≡ Some β → Moves (dotted m b ∷ α) k β
unfolding after_dot
dotted_moves m b α β k e =
    at kind.Name _ e dotted_name
    (λ e. on (is kind.From k || is kind.To k) _ _ e (λ t. let s = end_of k t in dotted_end s.0 s.1)
    (λ e. on ((is kind.Add k || is kind.Rem k) && b) _ _ e (λ t. let s = and_parts (is kind.Add k || is kind.Rem k) b t in let p = pairing_of k s.0 in pair b s.1 p.0 p.1) none))
  where
    pair : (b : Bool) → b ≡ true → (p : Pairing) → k ≡ pairing_kind p → Moves (dotted m b ∷ α) k (two (more m done ∷ α))
    pair true t p e = dotted_pair p e
    pair false t p e = absurd (false≢true t)

field_moves : (b : Bool) (α : List Sym) (k : Kind) → (is kind.Semicolon k && b) ≡ true → Moves (member b ∷ α) k (members true ∷ α)
field_moves true α k t = known _ k (and_parts (is kind.Semicolon k) true t).0 member_field
field_moves false α k t = absurd (false≢true (and_parts (is kind.Semicolon k) false t).1)

pub moves : (α : List Sym) (k : Kind) (β : List Sym) → step α k ≡ Some β → Moves α k β
unfolding step
moves [] k β e = none e
moves (word j ∷ α) k β e = at j _ e this_word none
moves (start m ∷ α) k β e = begin_moves k None m α e (λ _ h. h) none
moves (more m f ∷ α) k β e = onward_moves k (step α k) m f α e (λ e c. more_over c (moves α k β e))
moves (dotted m b ∷ α) k β e = dotted_moves m b α β k e
moves (named m ∷ α) k β e = at kind.OpenParen _ e named_call (λ e. named_over (onward_moves k (step α k) m inner α e (λ e c. more_over c (moves α k β e))))
moves (typed ∷ α) k β e = type_moves k None α e (λ _ h. h) none
moves (decls ∷ α) k β e = at kind.Class _ e decls_class (λ e. at kind.Relationship _ e decls_relationship (λ e. decls_over (moves α k β e)))
moves (members b ∷ α) k β e = type_moves k (step α k) (word kind.Name ∷ member b ∷ α) e (λ _ h. members_typed h) (λ e. members_over (moves α k β e))
moves (member b ∷ α) k β e = on (is kind.Semicolon k && b) _ _ e (λ t. field_moves b α k t) (λ e. at kind.OpenParen _ e member_method none)
moves (body ∷ α) k β e =
    at kind.Boolean _ e body_boolean
    (λ e. at kind.Set _ e body_set
    (λ e. at kind.Name _ e body_name
    (λ e. body_over (statement_moves k (step α k) α e (λ e. stmts_over (moves α k β e))))))
moves (opening ∷ α) k β e = at kind.Name _ e opening_row (λ e. opening_act (onward_moves k None acting bare (word kind.Semicolon ∷ stmts ∷ α) e none_after))
  where
    none_after : ◌≡◌ {A = Option (List Sym)} None (Some β) → closes acting bare ≡ true → Moves (more acting bare ∷ word kind.Semicolon ∷ stmts ∷ α) k β
    none_after e c = none e
moves (stmts ∷ α) k β e = statement_moves k (step α k) α e (λ e. stmts_over (moves α k β e))
