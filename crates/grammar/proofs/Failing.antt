-- Where an item or an expression cannot go on, and what the `?` of such a place gives.
use Rattle.std.proofs.Common.{◌≡◌, ℕ, Bool, true, false, cond, ◌&&◌, ◌||◌, List, [], ◌∷◌, length, IsErrAnd, Some, None, Ok, Err, Option, Result, sym, refl, ap, ◌∙◌, subst, arith}
use Rattle.std.proofs.lemmas.Option.{none-some}
use Rattle.std.proofs.lemmas.Bool.{false≢true}
use Rattle.std.proofs.lemmas.Result.{err_from_is_err_and}
use Rattle.std.proofs.lemmas.Bool.{and_right}
use Rattle.words.specs.declared.kind.Kind.{Kind}
use Rattle.words.specs.declared.kind.Kind.TheVariants as kind
use Rattle.words.specs.Kinds.{is}
use Rattle.words.specs.Words.{Token}
use Rattle.grammar.specs.declared.event.Event.{Event}
use Rattle.grammar.specs.declared.event.Literal.{Literal as Value}
use Rattle.grammar.specs.declared.event.Literal.TheVariants as value
use Rattle.grammar.specs.declared.event.Pairing.{Pairing as Doing}
use Rattle.grammar.specs.declared.event.Pairing.TheVariants as doing
use Rattle.grammar.specs.declared.event.End.{End as Side}
use Rattle.grammar.specs.declared.event.End.TheVariants as side
use Rattle.grammar.specs.declared.parser.Parser.{Parser}
use Rattle.grammar.specs.declared.parser.reading.Unexpected.{Unexpected}
use Rattle.grammar.specs.declared.parser.items.Found.{Found}
use Rattle.grammar.specs.declared.parser.items.Found.TheVariants as found
use Rattle.grammar.specs.declared.parser.items.Part.{Part}
use Rattle.grammar.specs.declared.parser.items.Part.TheVariants as part
use Rattle.grammar.specs.Events.{value_of, doing_of, side_of}
use Rattle.grammar.specs.Machine.{Sym, word, start, more, dotted, named, runs, step, begin, onward, after_dot, ends, fresh, two, alone_is, literal_word, Use, whole, operand, Form, done, plain}
use Rattle.grammar.specs.Told.{rest, kind_at, seen, place_at, form_of, AfterDot, Named, DottedBare, ReadTarget, ReadExpr, ReadItem, Took, Passed, Fails, Leads, Finds, FailsItem, GivesItem, GivesExpr, GivesPart, pairing_at, end_at, doing_kind, literal_at}
use Rattle.grammar.specs.Trees.{literal_kind, pairing_kind, end_kind}
use Rattle.grammar.specs.Trees as tree
use Rattle.grammar.proofs.Accepting.{some_inj}
use Rattle.grammar.proofs.Items.{pair_step}
use Rattle.grammar.proofs.Passing.{took, first_word, word_passes, word_stops, seen_first, unseen_first}
use Rattle.grammar.proofs.Steps.{step_leads, took_leads, fails_after, stuck_at, not_kind, start_stops}
use Rattle.grammar.proofs.WordKinds.{is_true}

-- the exits of a `?`
pub failed : {A : Type 0} {e : Unexpected} (r : Result A Unexpected) → IsErrAnd r (λ y. y ≡ e) → r ≡ Err e
failed r h = let z = err_from_is_err_and r h in z.1 ∙ ap Err z.2

module _ {X : Type 0} (after : X → Event → X) where
  pub item_exit : {p : Parser} (q : Parser) (l m : X) (at : ℕ) {r : Result Found Unexpected} {e : Unexpected} → r ≡ Err e → FailsItem p e → GivesItem after p l at r q m
  item_exit {p} q l m at x f = subst (λ (r : Result Found Unexpected). GivesItem after p l at r q m) (sym x) f

module _ {X : Type 0} (after : X → Event → X) where
  pub expr_exit : {p : Parser} (q : Parser) (l m : X) {r : Result (Unit {0}) Unexpected} {e : Unexpected} → r ≡ Err e → Fails p (start whole) e → GivesExpr after p l r q m
  expr_exit {p} q l m x f = subst (λ (r : Result (Unit {0}) Unexpected). GivesExpr after p l r q m) (sym x) f

module _ {X : Type 0} (after : X → Event → X) where
  pub part_exit : {p : Parser} (q : Parser) (l m : X) {r : Result Part Unexpected} {e : Unexpected} → r ≡ Err e → Fails p (start whole) e → GivesPart after p l r q m
  part_exit {p} q l m x f = subst (λ (r : Result Part Unexpected). GivesPart after p l r q m) (sym x) f

module _ {X : Type 0} (after : X → Event → X) where
  pub finds_as : (p q : Parser) (l m : X) (at : ℕ) {f g : Found} → f ≡ g → Finds after p l at f q m → Finds after p l at g q m
  finds_as p q l m at e h = subst (λ (f : Found). Finds after p l at f q m) e h

module _ {X : Type 0} {after : X → Event → X} where
  pub target_part : {p q : Parser} {l m : X} (x : Part) → x ≡ part.Target → GivesPart after p l (Ok x) q m → ReadTarget after p l q m
  target_part part.Target e h = h
  target_part part.Last e h = let z : ⊥ = cc in absurd z

module _ {X : Type 0} {after : X → Event → X} where
  pub last_part : {p q : Parser} {l m : X} (x : Part) → (x ≡ part.Target → ⊥) → GivesPart after p l (Ok x) q m → ReadExpr after p l q m
  last_part part.Target e h = absurd (e refl)
  last_part part.Last e h = h

-- the words from s to q begin an item, whatever it is read for, and δ is expected after them
pub record Reached (s q : Parser) (δ : Use → List Sym → List Sym) : Type 0 where
  pub end_is : q.end ≡ s.end
  pub leads : (u : Use) → Leads s (start u) q (δ u)

pub reach_word : {k : Kind} {s p q : Parser} {at : ℕ} {δ : Use → List Sym → List Sym} → Reached s p (λ u α. word k ∷ δ u α) → Took k p q at → Reached s q δ
reach_word r t = record { end_is = t.end_is ∙ r.end_is; leads = λ u α. r.leads u α ∙ took_leads t _ }

module _ {X : Type 0} {after : X → Event → X} where
  pub reach_expr : {s p q : Parser} {l m : X} {δ : Use → List Sym → List Sym} → Reached s p (λ u α. start whole ∷ δ u α) → ReadExpr after p l q m → Reached s q δ
  reach_expr r e = record { end_is = e.walk.end_is ∙ r.end_is; leads = λ u α. r.leads u α ∙ e.leads _ }

pub reach_fails : {s p : Parser} {γ : Sym} {δ : Use → List Sym → List Sym} {e : Unexpected} → Reached s p (λ u α. γ ∷ δ u α) → Fails p γ e → FailsItem s e
reach_fails {γ = γ} {δ} r f = λ u. fails_after (start u) γ (δ u) (r.leads u) r.end_is f

pub reach_new : {p q : Parser} {at : ℕ} → Took kind.New p q at → Reached p q (λ u α. fresh (more u done ∷ α))
unfolding step begin
reach_new w = record { end_is = w.end_is; leads = λ u α. step_leads kind.New (start u ∷ α) (fresh (more u done ∷ α)) refl w }

pub reach_paren : {p q : Parser} {at : ℕ} → Took kind.OpenParen p q at → Reached p q (λ u α. start whole ∷ word kind.CloseParen ∷ more u plain ∷ α)
unfolding step begin
reach_paren o = record { end_is = o.end_is; leads = λ u α. step_leads kind.OpenParen (start u ∷ α) (start whole ∷ word kind.CloseParen ∷ more u plain ∷ α) refl o }

module _ {X : Type 0} {after : X → Event → X} where
  pub reach_colon : {s p q : Parser} {l m : X} {at d : ℕ} {f : Form} → ReadItem after s l p m at f → Took kind.Colon p q d → Reached s q (λ u α. word kind.Name ∷ more u plain ∷ α)
  unfolding step onward
  reach_colon {f = f} i t = record {
    end_is = t.end_is ∙ i.walk.end_is;
    leads = λ u α. i.leads u α ∙ step_leads kind.Colon (more u f ∷ α) (word kind.Name ∷ more u plain ∷ α) refl t;
  }

module _ {X : Type 0} {after : X → Event → X} where
  pub reach_call : {s p q : Parser} {l m : X} {at x o : ℕ} → Named after s l p m at x → Took kind.OpenParen p q o → Reached s q (λ u α. start whole ∷ word kind.CloseParen ∷ more u done ∷ α)
  unfolding step
  reach_call a o = record {
    end_is = o.end_is ∙ a.walk.end_is;
    leads = λ u α. a.leads u α ∙ step_leads kind.OpenParen (named u ∷ α) (start whole ∷ word kind.CloseParen ∷ more u done ∷ α) refl o;
  }

module _ {X : Type 0} {after : X → Event → X} where
  pub reach_pair : {s p q : Parser} {l m : X} {at a : ℕ} (x : tree.Pairing) → DottedBare after s l p m at → Took (pairing_kind x) p q a → Reached s q (λ u α. two (more u done ∷ α))
  reach_pair x h a = record {
    end_is = a.end_is ∙ h.walk.end_is;
    leads = λ u α. h.leads u α ∙ step_leads (pairing_kind x) (dotted u true ∷ α) (two (more u done ∷ α)) (pair_step x u α) a;
  }

-- the right side of == cannot go on
module _ {X : Type 0} {after : X → Event → X} where
  pub equal_fails : {s p q : Parser} {l m : X} {at d : ℕ} {f : Form} {e : Unexpected} → ReadItem after s l p m at f → Took kind.Equal p q d → FailsItem q e → Fails s (start whole) e
  unfolding step onward
  equal_fails {f = f} i t h =
      fails_after (start whole) (start operand) (λ α. α) (λ α. i.leads whole α ∙ step_leads kind.Equal (more whole f ∷ α) (start operand ∷ α) refl t) (t.end_is ∙ i.walk.end_is) (h operand)

-- literals
no_literal : (k : Kind) → literal_at k ≡ None → literal_word k ≡ false
no_literal k e = go (is kind.True k) (is kind.False k) (is kind.Null k) (is kind.This k) e
  where
    go : (a b c d : Bool) → cond a (Some value.True) (cond b (Some value.False) (cond c (Some value.Null) (cond d (Some value.This) None))) ≡ None → (a || b || c || d) ≡ false
    go true b c d e = absurd (none-some _ (sym e))
    go false true c d e = absurd (none-some _ (sym e))
    go false false true d e = absurd (none-some _ (sym e))
    go false false false true e = absurd (none-some _ (sym e))
    go false false false false e = refl

pub literal_some : (k : Kind) (v : Value) → literal_at k ≡ Some v → (x : tree.Literal) × (k ≡ literal_kind x) × (v ≡ value_of x)
literal_some k v e = go (is kind.True k) (is kind.False k) (is kind.Null k) (is kind.This k) (is_true kind.True k) (is_true kind.False k) (is_true kind.Null k) (is_true kind.This k) e
  where
    go : (a b c d : Bool) → (a ≡ true → k ≡ kind.True) → (b ≡ true → k ≡ kind.False) → (c ≡ true → k ≡ kind.Null) → (d ≡ true → k ≡ kind.This)
        → cond a (Some value.True) (cond b (Some value.False) (cond c (Some value.Null) (cond d (Some value.This) None))) ≡ Some v → (x : tree.Literal) × (k ≡ literal_kind x) × (v ≡ value_of x)
    go true b c d f g h i e = (tree.true, f refl, sym (some_inj _ _ e))
    go false true c d f g h i e = (tree.false, g refl, sym (some_inj _ _ e))
    go false false true d f g h i e = (tree.null, h refl, sym (some_inj _ _ e))
    go false false false true f g h i e = (tree.this, i refl, sym (some_inj _ _ e))
    go false false false false f g h i e = absurd (none-some _ e)

-- no item begins here
pub begin_fails : {p : Parser} {e : Unexpected} (k : Kind) → kind_at (rest p) ≡ Some k → (k ≡ kind.Name → ⊥) → (k ≡ kind.New → ⊥) → (k ≡ kind.OpenParen → ⊥) → literal_at k ≡ None
    → e.place ≡ place_at p.end (rest p) → FailsItem p e
begin_fails {p} k e a b c l h = λ u. record {
  from = rest p;
  stuck = λ α. start_stops u α (rest p) (λ f. a (some_inj _ _ (sym e ∙ f))) (λ j f. subst (λ (i : Kind). literal_word i ≡ false) (some_inj _ _ (sym e ∙ f)) (no_literal k l)) (λ f. b (some_inj _ _ (sym e ∙ f))) (λ f. c (some_inj _ _ (sym e ∙ f)));
  place_is = h;
}

pub end_fails : {p : Parser} {e : Unexpected} → kind_at (rest p) ≡ None → e.place ≡ place_at p.end (rest p) → FailsItem p e
end_fails {p} e h = λ u. record {
  from = rest p;
  stuck = λ α. start_stops u α (rest p) (λ f. absurd (none-some _ (sym e ∙ f))) (λ j f. absurd (none-some _ (sym e ∙ f))) (λ f. absurd (none-some _ (sym e ∙ f))) (λ f. absurd (none-some _ (sym e ∙ f)));
  place_is = h;
}

-- a word that fails whatever comes later is the first one
never_all : (us from : List Token) → ((α : List Sym) → runs α us ≡ Some from) → ⊥
unfolding runs step ends
never_all [] from h = absurd (none-some _ (h []))
never_all (w ∷ []) from h = absurd (none-some _ (sym (word_passes w.kind (record { place = w.place; bytes = w.bytes }) [] []) ∙ h (word w.kind ∷ [])))
never_all (w ∷ v ∷ vs) from h =
    let a : w ∷ v ∷ vs ≡ from = some_inj _ _ (h []) in
    let b : v ∷ vs ≡ from = some_inj _ _ (sym (word_passes w.kind (record { place = w.place; bytes = w.bytes }) [] (v ∷ vs)) ∙ h (word w.kind ∷ [])) in
    omega (arith, ap length a, ap length b)

fails_unseen : (k : Kind) (p : Parser) {e : Unexpected} → Fails p (word k) e → kind_at (rest p) ≡ Some k → ⊥
fails_unseen k p f e =
    let w = first_word k (rest p) e in
    never_all w.1 f.from (λ α. sym (word_passes k w.0 α w.1) ∙ ap (runs (word k ∷ α)) (sym w.2) ∙ f.stuck α)

fails_from : (k : Kind) (p : Parser) {e : Unexpected} (f : Fails p (word k) e) → rest p ≡ f.from
fails_from k p f = some_inj _ _ (sym (word_stops k [] (rest p) (fails_unseen k p f)) ∙ f.stuck [])

no_pair_word : (b : Bool) (k : Kind) → (b ≡ true → (is kind.Add k ≡ false) × (is kind.Rem k ≡ false)) → ((is kind.Add k || is kind.Rem k) && b) ≡ false
no_pair_word true k h = let a = (h refl).0 in let r = (h refl).1 in simp (a, r)
no_pair_word false k h = and_right _ _ refl

-- after a dot no name, `from`, `to`, `add` or `rem` comes
module _ {X : Type 0} {after : X → Event → X} where
  pub dot_fails : {s p : Parser} {l m : X} {at : ℕ} {e : Unexpected} → AfterDot after s l p m at → (kind_at (rest p) ≡ Some kind.From → ⊥) → (kind_at (rest p) ≡ Some kind.To → ⊥) → Fails p (word kind.Name) e → FailsItem s e
  unfolding step ends after_dot
  dot_fails {s} {p} a nf nt f = λ u. record {
    from = f.from;
    stuck = λ α. a.leads u α ∙ stuck_at (dotted u a.b ∷ α) (rest p) refl (λ k h.
        let n = not_kind kind.Name k (rest p) (fails_unseen kind.Name p f) h in
        let i = not_kind kind.From k (rest p) nf h in
        let j = not_kind kind.To k (rest p) nt h in
        let o = no_pair_word a.b k (λ z. (not_kind kind.Add k (rest p) (a.no_pair z).0 h, not_kind kind.Rem k (rest p) (a.no_pair z).1 h)) in
        simp (n, i, j, o)) ∙ ap Some (fails_from kind.Name p f);
    place_is = f.place_is ∙ ap (λ n. place_at n f.from) a.walk.end_is;
  }

-- `add` and `rem`
pub pairing_of : Doing → tree.Pairing
pairing_of doing.Add = tree.add
pairing_of doing.Rem = tree.rem

pub pairing_took : (x : Doing) (p q : Parser) → kind_at (rest p) ≡ Some (doing_kind x) → Passed p q → Took (pairing_kind (pairing_of x)) p q (place_at p.end (rest p))
unfolding pairing_of
pairing_took doing.Add p q e h = took kind.Add p q e h
pairing_took doing.Rem p q e h = took kind.Rem p q e h

pub pairing_doing : (x : Doing) → x ≡ doing_of (pairing_of x)
unfolding pairing_of
pairing_doing doing.Add = refl
pairing_doing doing.Rem = refl

pub pairing_bare : (f : Found) (ws : List Token) (x : Doing) → pairing_at f ws ≡ Some x → f ≡ found.Bare
pairing_bare found.Bare ws x e = refl
pairing_bare (found.Inner n) ws x e = absurd (none-some _ e)
pairing_bare found.Done ws x e = absurd (none-some _ e)
pairing_bare found.Plain ws x e = absurd (none-some _ e)

-- none of two kinds comes, where one is asked for after the other
neither : {A : Type 0} (j k : Kind) (x y : A) (ws : List Token) → cond (seen j ws) (Some x) (cond (seen k ws) (Some y) None) ≡ None → (kind_at ws ≡ Some j → ⊥) × (kind_at ws ≡ Some k → ⊥)
neither {A} j k x y ws e = go (seen j ws) (seen k ws) (unseen_first j ws) (unseen_first k ws) e
  where
    go : (a b : Bool) → (a ≡ false → kind_at ws ≡ Some j → ⊥) → (b ≡ false → kind_at ws ≡ Some k → ⊥) → ◌≡◌ {A = Option A} (cond a (Some x) (cond b (Some y) None)) None → (kind_at ws ≡ Some j → ⊥) × (kind_at ws ≡ Some k → ⊥)
    go true b f g e = absurd (none-some _ (sym e))
    go false true f g e = absurd (none-some _ (sym e))
    go false false f g e = (f refl, g refl)

pub no_pairing : (f : Found) (ws : List Token) → pairing_at f ws ≡ None → alone_is (form_of f) ≡ true → (kind_at ws ≡ Some kind.Add → ⊥) × (kind_at ws ≡ Some kind.Rem → ⊥)
no_pairing found.Bare ws e h = neither kind.Add kind.Rem doing.Add doing.Rem ws e
no_pairing (found.Inner n) ws e h = absurd (false≢true h)
no_pairing found.Done ws e h = absurd (false≢true h)
no_pairing found.Plain ws e h = absurd (false≢true h)

-- `from` and `to`
pub no_end : (ws : List Token) → end_at ws ≡ None → (kind_at ws ≡ Some kind.From → ⊥) × (kind_at ws ≡ Some kind.To → ⊥)
no_end ws e = neither kind.From kind.To side.From side.To ws e

pub end_some : (ws : List Token) (x : Side) → end_at ws ≡ Some x → (y : tree.End) × (kind_at ws ≡ Some (end_kind y)) × (x ≡ side_of y)
end_some ws x e = go (seen kind.From ws) (seen kind.To ws) (seen_first kind.From ws) (seen_first kind.To ws) e
  where
    go : (a b : Bool) → (a ≡ true → kind_at ws ≡ Some kind.From) → (b ≡ true → kind_at ws ≡ Some kind.To) → cond a (Some side.From) (cond b (Some side.To) None) ≡ Some x
        → (y : tree.End) × (kind_at ws ≡ Some (end_kind y)) × (x ≡ side_of y)
    go true b f g e = (tree.from, f refl, sym (some_inj _ _ e))
    go false true f g e = (tree.to, g refl, sym (some_inj _ _ e))
    go false false f g e = absurd (none-some _ e)
