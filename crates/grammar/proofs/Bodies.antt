-- How the parts of types, statements and declarations join.
use Rattle.std.proofs.Common.{◌≡◌, ℕ, ◌<◌, Bool, true, false, ◌&&◌, List, [], ◌∷◌, ◌++◌, length, Some, None, Ok, Err, Result, sym, refl, ap, ◌∙◌, subst, append_assoc, append-nil, arith, length-append}
use Rattle.std.proofs.lemmas.Option.{none-some}
use Rattle.std.proofs.lemmas.Bool.{false≢true}
use Rattle.words.specs.declared.kind.Kind.{Kind}
use Rattle.words.specs.declared.kind.Kind.TheVariants as kind
use Rattle.words.specs.Words.{Token}
use Rattle.grammar.specs.declared.event.TypeWord.{TypeWord}
use Rattle.grammar.specs.declared.event.TypeWord.TheVariants as type-word
use Rattle.grammar.specs.declared.event.Event.{Event}
use Rattle.grammar.specs.declared.event.Event.TheVariants as event
use Rattle.grammar.specs.declared.parser.Parser.{Parser}
use Rattle.grammar.specs.declared.parser.declarations.Section.{Section}
use Rattle.grammar.specs.declared.parser.declarations.Section.TheVariants as section
use Rattle.grammar.specs.declared.parser.items.Found.{Found}
use Rattle.grammar.specs.declared.parser.items.Found.TheVariants as found
use Rattle.grammar.specs.declared.parser.reading.Unexpected.{Unexpected}
use Rattle.grammar.specs.Bodies.{Path, FailsAll, ReadType, ReadTree, ReadAction, ReadBlock, ReadBody, Headed, ReadMembers, HeldPlace, ReadHeading, ReadEnds, ReadInside, ReadBoth, fields_in, Gathered, GivesTree, GivesBody, GivesInside, GivesProgram, Finished, Falls, ReadProgram, FailsProgram}
use Rattle.grammar.specs.Events.{events, fed}
use Rattle.grammar.specs.Machine.{Sym, word, start, typed as type-symbol, decls, members, member, body, stmts, runs, step, type_then, statement, branches, class_rest, relationship_rest, inner_set, acting, bare, inner, done, plain}
use Rattle.grammar.specs.Told.{rest, kind_at, place_at, seen, variable_begins, type_begins, statement_begins, Took, Fails, Walk, ReadExpr, ReadItem, HeldBare, HeldInner, ReadDone, Finds, target_of}
use Rattle.grammar.specs.Trees.{Mark, tok, Sort, many, Tree, expr, action, stmt, typed, variable, method, decl, none, inside, assigns, act, branch, boolean, set_of, row, declares, method_of, class, relationship, spell}
use Rattle.grammar.specs.Trees as tree
use Rattle.grammar.proofs.Accepting.{over, some_inj}
use Rattle.grammar.proofs.Expected.{typed_name, members_type, members_done, member_method, stmts_item, decls_done, acting_place, acting_stuck, body_variable, body_stmts}
use Rattle.grammar.proofs.Items.{fed_append, put_last, last_spells, last_reports}
use Rattle.grammar.proofs.Steps.{step_leads, took_leads, more_done, fails_after}

-- paths
module _ {X : Type 0} {after : X → Event → X} where
  pub path_of : {p q : Parser} {l m : X} {ws : List Token} {es : List Event} → Walk after p l q m ws es → Path after p l q m ws es
  path_of w = record { words = w.words; log = w.log; end_is = w.end_is }

module _ {X : Type 0} {after : X → Event → X} where
  pub no_path : (p : Parser) (l : X) → Path after p l p l [] []
  no_path p l = record { words = refl; log = refl; end_is = refl }

module _ {X : Type 0} {after : X → Event → X} where
  pub took_path : {k : Kind} {p q : Parser} {at : ℕ} (l : X) (t : Took k p q at) → Path after p l q l (tok k t.mark ∷ []) []
  took_path l t = record { words = t.words; log = refl; end_is = t.end_is }

-- a path whose events nobody takes
pub plain_path : {k : Kind} {p q : Parser} {at : ℕ} (t : Took k p q at) → Path {X = Unit {0}} (λ x e. x) p tt q tt (tok k t.mark ∷ []) []
plain_path t = took_path tt t

module _ {X : Type 0} {after : X → Event → X} where
  pub type_path : {p q : Parser} {w : TypeWord} (l : X) (t : ReadType p q w) → Path after p l q l (spell t.tree) []
  type_path l t = record { words = t.words; log = refl; end_is = t.end_is }

module _ {X : Type 0} {after : X → Event → X} where
  pub path_path : {p q r : Parser} {l m n : X} {us ws : List Token} {ds es : List Event} → Path after p l q m us ds → Path after q m r n ws es → Path after p l r n (us ++ ws) (ds ++ es)
  path_path {p} {q} {r} {l} {us = us} {ws} {ds} {es} a b = record {
    words = a.words ∙ ap (λ vs. us ++ vs) b.words ∙ sym (append_assoc us ws (rest r));
    log = b.log ∙ ap (λ x. fed after x es) a.log ∙ sym (fed_append after l ds es);
    end_is = b.end_is ∙ a.end_is;
  }

module _ {X : Type 0} {after : X → Event → X} where
  pub path_took : {k : Kind} {p q r : Parser} {at : ℕ} {l m : X} {ws : List Token} {es : List Event} → Path after p l q m ws es → (t : Took k q r at) → Path after p l r m (ws ++ tok k t.mark ∷ []) es
  path_took {k} {p} {q} {r} {ws = ws} a t = record {
    words = a.words ∙ ap (λ us. ws ++ us) t.words ∙ sym (append_assoc ws (tok k t.mark ∷ []) (rest r));
    log = a.log;
    end_is = t.end_is ∙ a.end_is;
  }

module _ {X : Type 0} {after : X → Event → X} where
  pub path_put : {p q : Parser} {l m n : X} {ws : List Token} {es : List Event} (e : Event) → Path after p l q m ws es → n ≡ after m (e) → Path after p l q n ws (es ++ e ∷ [])
  path_put {l = l} {es = es} e a h = record { words = a.words; log = h ∙ ap (λ x. after x e) a.log ∙ sym (fed_append after l es (e ∷ [])); end_is = a.end_is }

module _ {X : Type 0} {after : X → Event → X} where
  pub path_as : {p q : Parser} {l m : X} {us ws : List Token} {ds es : List Event} → us ≡ ws → ds ≡ es → Path after p l q m us ds → Path after p l q m ws es
  path_as {q = q} {l} e f a = record { words = a.words ∙ ap (λ vs. vs ++ rest q) e; log = a.log ∙ ap (fed after l) f; end_is = a.end_is }

-- what fails later fails
pub fails_from : {s q : Parser} {e : Unexpected} (γ δ then : List Sym → List Sym) → ((α : List Sym) → runs (γ α) (rest s) ≡ runs (δ (then α)) (rest q)) → q.end ≡ s.end → FailsAll q δ e → FailsAll s γ e
fails_from γ δ then lead end f = record {
  from = f.from;
  stuck = λ α. lead α ∙ f.stuck (then α);
  place_is = f.place_is ∙ ap (λ n. place_at n f.from) end;
}

pub fails_all : {p : Parser} {e : Unexpected} {γ : Sym} → Fails p γ e → FailsAll p (λ α. γ ∷ α) e
fails_all f = record { from = f.from; stuck = f.stuck; place_is = f.place_is }

pub fails_one : {p : Parser} {e : Unexpected} {γ : Sym} → FailsAll p (λ α. γ ∷ α) e → Fails p γ e
fails_one f = record { from = f.from; stuck = f.stuck; place_is = f.place_is }

-- what the first word of a type, a statement or a declaration leads to
pub set_lead : {p q : Parser} {at : ℕ} → Took kind.Set p q at → (α : List Sym) → runs (type-symbol ∷ α) (rest p) ≡ runs (inner_set α) (rest q)
unfolding step type_then
set_lead t α = step_leads kind.Set (type-symbol ∷ α) (inner_set α) refl t

pub if_lead : {p q : Parser} {at : ℕ} → Took kind.If p q at → (α : List Sym) → runs (stmts ∷ α) (rest p) ≡ runs (branches (stmts ∷ α)) (rest q)
unfolding step statement
if_lead t α = step_leads kind.If (stmts ∷ α) (branches (stmts ∷ α)) refl t

pub class_lead : {p q : Parser} {at : ℕ} → Took kind.Class p q at → (α : List Sym) → runs (decls ∷ α) (rest p) ≡ runs (class_rest (decls ∷ α)) (rest q)
unfolding step
class_lead t α = step_leads kind.Class (decls ∷ α) (class_rest (decls ∷ α)) refl t

pub relationship_lead : {p q : Parser} {at : ℕ} → Took kind.Relationship p q at → (α : List Sym) → runs (decls ∷ α) (rest p) ≡ runs (relationship_rest (decls ∷ α)) (rest q)
unfolding step
relationship_lead t α = step_leads kind.Relationship (decls ∷ α) (relationship_rest (decls ∷ α)) refl t

-- types
pub boolean_read : {p q : Parser} {at : ℕ} → Took kind.Boolean p q at → ReadType p q type-word.Boolean
unfolding spell step type_then
boolean_read t = record { tree = boolean t.mark; words = t.words; is = refl; end_is = t.end_is; leads = λ α. step_leads kind.Boolean (type-symbol ∷ α) α refl t }

pub set_read : {p q r s v : Parser} {a b n d : ℕ} → Took kind.Set p q a → Took kind.Less q r b → Took kind.Name r s n → Took kind.Greater s v d → ReadType p v (type-word.SetOf n)
unfolding spell step type_then
set_read w l n g =
    let path = path_took (path_took (path_took (plain_path w) l) n) g in
    record {
      tree = set_of w.mark l.mark n.mark g.mark;
      words = path.words;
      is = ap type-word.SetOf (sym n.place_is);
      end_is = path.end_is;
      leads = λ α. set_lead w α ∙ took_leads l _ ∙ took_leads n _ ∙ took_leads g _;
    }

pub row_read : {p q : Parser} {n : ℕ} → (kind_at (rest p) ≡ Some kind.Boolean → ⊥) → (kind_at (rest p) ≡ Some kind.Set → ⊥) → Took kind.Name p q n → ReadType p q (type-word.Row n)
unfolding spell
row_read {p} nb ns t = record {
  tree = row t.mark;
  words = t.words;
  is = ap type-word.Row (sym t.place_is);
  end_is = t.end_is;
  leads = λ α. typed_name α (rest p) nb ns ∙ took_leads t α;
}

-- actions
module _ {X : Type 0} {after : X → Event → X} where
  bare_place : {s p : Parser} {l m : X} {at : ℕ} → HeldBare after s l p m at → (kind_at (rest p) ≡ Some kind.Dot → ⊥) → (kind_at (rest p) ≡ Some kind.Colon → ⊥) → HeldPlace after s l p m at (event.ToVariable at)
  unfolding spell events
  bare_place {p = p} h nd nc = record {
    tree = tree.bare h.mark;
    es = [];
    path = path_of h.walk;
    events_are = ap (λ n. event.ToVariable n ∷ []) (sym h.first_is);
    first_is = h.first_is;
    leads = λ α. h.leads acting α ∙ acting_place bare α (rest p) refl refl nd nc;
  }

module _ {X : Type 0} {after : X → Event → X} where
  inner_place : {s p : Parser} {l m : X} {at n : ℕ} → HeldInner after s l p m at n → (kind_at (rest p) ≡ Some kind.Dot → ⊥) → (kind_at (rest p) ≡ Some kind.Colon → ⊥) → HeldPlace after s l p m at (event.ToMember n at)
  unfolding events
  inner_place {p = p} h nd nc = record {
    tree = inside h.tree h.dot h.name;
    es = events 0 h.tree;
    path = path_of h.walk;
    events_are = λ i. events 0 h.tree ++ event.ToMember (sym h.name_is i) (sym h.first_is i) ∷ [];
    first_is = h.first_is;
    leads = λ α. h.leads acting α ∙ acting_place inner α (rest p) refl refl nd nc;
  }

module _ {X : Type 0} (after : X → Event → X) where
  pub target_place : (f : Found) (s p : Parser) (l m : X) (at : ℕ) (e : Event) → target_of f at ≡ Some e → Finds after s l at f p m → (kind_at (rest p) ≡ Some kind.Dot → ⊥) → (kind_at (rest p) ≡ Some kind.Colon → ⊥) → HeldPlace after s l p m at e
  target_place found.Bare s p l m at e t h nd nc = subst (HeldPlace after s l p m at) (some_inj _ _ t) (bare_place h nd nc)
  target_place (found.Inner n) s p l m at e t h nd nc = subst (HeldPlace after s l p m at) (some_inj _ _ t) (inner_place h nd nc)
  target_place found.Done s p l m at e t h nd nc = absurd (none-some e t)
  target_place found.Plain s p l m at e t h nd nc = absurd (none-some e t)

module _ {X : Type 0} {after : X → Event → X} where
  pub assign_action : {s p q r : Parser} {l m j k n : X} {at x : ℕ} {e : Event} → HeldPlace after s l p m at e → Took kind.Assign p q x → j ≡ after m (e) → ReadExpr after q j r k → n ≡ after k (event.Assigned) → ReadAction after s l r n at
  unfolding spell events
  assign_action {e = e} h t put x last = record {
    tree = assigns h.tree t.mark x.tree;
    path = path_as (append_assoc (spell h.tree) (tok kind.Assign t.mark ∷ []) (spell x.tree))
        (ap (λ ds. (ds ++ events 0 x.tree) ++ event.Assigned ∷ []) h.events_are ∙ append_assoc (events 0 h.tree) (events 0 x.tree) (event.Assigned ∷ []))
        (path_put _ (path_path (path_put e (path_took h.path t) put) (path_of x.walk)) last);
    first_is = h.first_is;
    leads = λ α. h.leads (word kind.Semicolon ∷ α) ∙ took_leads t _ ∙ x.leads _;
  }

module _ {X : Type 0} {after : X → Event → X} where
  pub done_action : {s p : Parser} {l m : X} {at : ℕ} → ReadDone after s l p m at → (kind_at (rest p) ≡ Some kind.Dot → ⊥) → (kind_at (rest p) ≡ Some kind.Colon → ⊥) → ReadAction after s l p m at
  done_action {p = p} h nd nc = record {
    tree = h.doing;
    path = path_as (sym h.spells) (sym h.reports) (path_of h.item.walk);
    first_is = h.first_is;
    leads = λ α. h.item.leads acting (word kind.Semicolon ∷ α) ∙ more_done acting done (word kind.Semicolon ∷ α) (rest p) nd nc (λ _. refl) (λ _. refl) refl;
  }

module _ {X : Type 0} {after : X → Event → X} where
  plain_fails : {s p : Parser} {l m : X} {at : ℕ} {e : Unexpected} → ReadItem after s l p m at plain → (kind_at (rest p) ≡ Some kind.Dot → ⊥) → (kind_at (rest p) ≡ Some kind.Colon → ⊥) → e.place ≡ place_at p.end (rest p)
      → FailsAll s (λ α. start acting ∷ word kind.Semicolon ∷ α) e
  plain_fails {p = p} i nd nc h = record {
    from = rest p;
    stuck = λ α. i.leads acting (word kind.Semicolon ∷ α) ∙ acting_stuck plain (word kind.Semicolon ∷ α) (rest p) refl refl nd nc;
    place_is = h ∙ ap (λ n. place_at n (rest p)) i.walk.end_is;
  }

module _ {X : Type 0} (after : X → Event → X) where
  pub no_target_fails : (f : Found) (s p : Parser) (l m : X) (at : ℕ) {e : Unexpected} → target_of f at ≡ None → (f ≡ found.Done → ⊥) → Finds after s l at f p m → (kind_at (rest p) ≡ Some kind.Dot → ⊥) → (kind_at (rest p) ≡ Some kind.Colon → ⊥)
      → e.place ≡ place_at p.end (rest p) → FailsAll s (λ α. start acting ∷ word kind.Semicolon ∷ α) e
  no_target_fails found.Bare s p l m at t d h nd nc e = absurd (none-some _ (sym t))
  no_target_fails (found.Inner n) s p l m at t d h nd nc e = absurd (none-some _ (sym t))
  no_target_fails found.Done s p l m at t d h nd nc e = absurd (d refl)
  no_target_fails found.Plain s p l m at t d h nd nc e = plain_fails h nd nc e

-- statements
module _ {X : Type 0} {after : X → Event → X} where
  pub act_read : {s p q : Parser} {l m n : X} {at x : ℕ} → ReadAction after s l p m at → Took kind.Semicolon p q x → n ≡ after m (event.Acted at)
      → statement_begins (rest s) ≡ true → (kind_at (rest s) ≡ Some kind.If → ⊥) → ReadTree after stmt s l q n stmts (λ α. stmts ∷ α)
  unfolding spell events
  act_read {s} {m = m} a t put begins other = record {
    tree = act a.tree t.mark;
    path = path_put _ (path_took a.path t) (put ∙ ap (λ k. after m (event.Acted k)) (sym a.first_is));
    leads = λ α. stmts_item α (rest s) begins other ∙ a.leads (stmts ∷ α) ∙ took_leads t _;
  }

branch_words : (A B C : List Token) (i o c b f l g h s : Token)
    → ((((((i ∷ o ∷ []) ++ A) ++ c ∷ []) ++ (b ∷ (B ++ f ∷ []))) ++ l ∷ []) ++ (g ∷ (C ++ h ∷ []))) ++ s ∷ [] ≡ i ∷ o ∷ (A ++ c ∷ b ∷ (B ++ f ∷ l ∷ g ∷ (C ++ h ∷ s ∷ [])))
branch_words A B C i o c b f l g h s = ap (λ us. i ∷ o ∷ us) (
    append_assoc ((((A ++ c ∷ []) ++ (b ∷ (B ++ f ∷ []))) ++ l ∷ [])) (g ∷ (C ++ h ∷ [])) (s ∷ [])
    ∙ append_assoc ((A ++ c ∷ []) ++ (b ∷ (B ++ f ∷ []))) (l ∷ []) (g ∷ ((C ++ h ∷ []) ++ s ∷ []))
    ∙ append_assoc (A ++ c ∷ []) (b ∷ (B ++ f ∷ [])) (l ∷ g ∷ ((C ++ h ∷ []) ++ s ∷ []))
    ∙ append_assoc A (c ∷ []) (b ∷ ((B ++ f ∷ []) ++ (l ∷ g ∷ ((C ++ h ∷ []) ++ s ∷ []))))
    ∙ ap (λ us. A ++ c ∷ b ∷ us) (append_assoc B (f ∷ []) (l ∷ g ∷ ((C ++ h ∷ []) ++ s ∷ [])) ∙ ap (λ us. B ++ f ∷ l ∷ g ∷ us) (append_assoc C (h ∷ []) (s ∷ [])))
    )

module _ {X : Type 0} {after : X → Event → X} where
  pub branch_read : {s p q r u v w x y : Parser} {l m j k i h n : X} {at a b c d : ℕ} → Took kind.If s p at → Took kind.OpenParen p q a → ReadExpr after q l r m → Took kind.CloseParen r u b
      → j ≡ after m (event.Branch at) → ReadBlock after u j v k → Took kind.Else v w c → i ≡ after k (event.Otherwise) → ReadBlock after w i x h → Took kind.Semicolon x y d → n ≡ after h (event.Joined)
      → ReadTree after stmt s l y n stmts (λ α. stmts ∷ α)
  unfolding step statement spell events
  branch_read {l = l} {m} t o e c put f z put_2 g s put_3 =
      let start-path = path_put _ (path_took (path_path (path_took (took_path l t) o) (path_of e.walk)) c) (put ∙ ap (λ n. after m (event.Branch n)) t.place_is) in
      let whole-path = path_put _ (path_took (path_path (path_put _ (path_took (path_path start-path f.path) z) put_2) g.path) s) put_3 in
      record {
        tree = branch t.mark o.mark e.tree c.mark f.begin f.tree f.end z.mark g.begin g.tree g.end s.mark;
        path = path_as (branch_words (spell e.tree) (spell f.tree) (spell g.tree) _ _ _ _ _ _ _ _ _) (simp append_assoc) whole-path;
        leads = λ α. if_lead t α ∙ took_leads o _ ∙ e.leads _ ∙ took_leads c _ ∙ f.leads _ ∙ took_leads z _ ∙ g.leads _ ∙ took_leads s _;
      }

-- a tree that has words is shorter than the words from it on
module _ {X : Type 0} {after : X → Event → X} where
  pub tree_falls : {p q : Parser} {l m : X} {ws : List Token} {es : List Event} → Path after p l q m ws es → 0 < length ws → length (rest q) < length (rest p)
  tree_falls {q = q} {ws = ws} a h = omega (arith, ap length a.words, length-append ws (rest q))

pub stmt_some : (t : Tree stmt) → 0 < length (spell t)
unfolding spell
stmt_some (act a s) = omega (arith, length-append (spell a) (tok kind.Semicolon s ∷ []))
stmt_some (branch i o e c b ss f l g us h s) = omega arith

module _ {X : Type 0} (after : X → Event → X) where
  pub stmt_falls : (r : Result (Unit {0}) Unexpected) (p q : Parser) (l m : X) (γ : Sym) (δ : List Sym → List Sym) → GivesTree after stmt p l r q m γ δ → Falls p r q
  stmt_falls (Ok _) p q l m γ δ t = tree_falls t.path (stmt_some t.tree)
  stmt_falls (Err e) p q l m γ δ t = tt

module _ {X : Type 0} {after : X → Event → X} where
  pub block_read : {s p q r : Parser} {l m : X} {a b : ℕ} → Took kind.OpenBrace s p a → ReadTree after (many stmt) p l q m stmts (λ α. α) → Took kind.CloseBrace q r b → ReadBlock after s l r m
  block_read {l = l} o t c = record {
    begin = o.mark;
    tree = t.tree;
    end = c.mark;
    path = path_took (path_path (took_path l o) t.path) c;
    leads = λ α. took_leads o _ ∙ t.leads _ ∙ took_leads c _;
  }

-- trees read one after another, where γ stays expected
module _ {X : Type 0} {after : X → Event → X} where
  pub some_none : (s : Sort) (γ : Sym) (p : Parser) (l : X) → ReadTree after (many s) p l p l γ (λ α. γ ∷ α)
  unfolding spell events
  some_none s γ p l = record { tree = none; path = no_path p l; leads = λ α. refl }

module _ {X : Type 0} {after : X → Event → X} where
  pub some_more : {s : Sort} {γ : Sym} {p q r : Parser} {l m n : X} → ReadTree after (many s) p l q m γ (λ α. γ ∷ α) → ReadTree after s q m r n γ (λ α. γ ∷ α) → ReadTree after (many s) p l r n γ (λ α. γ ∷ α)
  some_more a b = record {
    tree = put_last a.tree b.tree;
    path = path_as (sym (last_spells a.tree b.tree)) (sym (last_reports 0 a.tree b.tree)) (path_path a.path b.path);
    leads = λ α. a.leads α ∙ b.leads α;
  }

module _ {X : Type 0} {after : X → Event → X} where
  pub some_done : {s : Sort} {γ : Sym} {p q : Parser} {l m : X} → ReadTree after (many s) p l q m γ (λ α. γ ∷ α) → ((α : List Sym) → runs (γ ∷ α) (rest q) ≡ runs α (rest q)) → ReadTree after (many s) p l q m γ (λ α. α)
  some_done a h = record { tree = a.tree; path = a.path; leads = λ α. a.leads α ∙ h α }

-- bodies
module _ {X : Type 0} {after : X → Event → X} where
  pub variable_read : {s p q r : Parser} {l n : X} {w : TypeWord} {x y : ℕ} → variable_begins (rest s) ≡ true → ReadType s p w → Took kind.Name p q x → Took kind.Semicolon q r y → n ≡ after l (event.Declared w x)
      → ReadTree after variable s l r n body (λ α. body ∷ α)
  unfolding spell events
  variable_read {s} {l = l} begins t m c put = record {
    tree = declares t.tree m.mark c.mark;
    path = path_as (append_assoc (spell t.tree) (tok kind.Name m.mark ∷ []) (tok kind.Semicolon c.mark ∷ [])) refl
        (path_put _ (path_took (path_took (type_path l t) m) c) (put ∙ (λ i. after l (event.Declared (sym t.is i) (m.place_is i)))));
    leads = λ α. body_variable α (rest s) begins ∙ t.leads _ ∙ took_leads m _ ∙ took_leads c _;
  }

module _ {X : Type 0} {after : X → Event → X} where
  pub body_read : {s p q : Parser} {l m n : X} → ReadTree after (many variable) s l p m body (λ α. body ∷ α) → variable_begins (rest p) ≡ false → ReadTree after (many stmt) p m q n stmts (λ α. α) → ReadBody after s l q n
  body_read {p = p} v other t = record {
    variables = v.tree;
    statements = t.tree;
    path = path_path v.path t.path;
    leads = λ α. v.leads α ∙ body_stmts α (rest p) other ∙ t.leads α;
  }

-- members
module _ {X : Type 0} {after : X → Event → X} where
  pub headed : {s p q : Parser} {w : TypeWord} {x : ℕ} (l : X) (b : Bool) → type_begins (rest s) ≡ true → ReadType s p w → Took kind.Name p q x → Headed after s l q l w x b
  headed {s} l b begins t m = record {
    tree = t.tree;
    mark = m.mark;
    path = path_took (type_path l t) m;
    type_is = t.is;
    name_is = sym m.place_is;
    leads = λ α. members_type b α (rest s) begins ∙ t.leads _ ∙ took_leads m _;
  }

module _ {X : Type 0} {after : X → Event → X} where
  pub field_read : {s p q : Parser} {l m n : X} {w : TypeWord} {x y : ℕ} → Headed after s l p m w x true → Took kind.Semicolon p q y → n ≡ after m (event.Declared w x)
      → ReadTree after variable s l q n (members true) (λ α. members true ∷ α)
  unfolding spell events step
  field_read {m = m} h c put = record {
    tree = declares h.tree h.mark c.mark;
    path = path_as (append_assoc (spell h.tree) (tok kind.Name h.mark ∷ []) (tok kind.Semicolon c.mark ∷ [])) refl
        (path_put _ (path_took h.path c) (put ∙ (λ i. after m (event.Declared (sym h.type_is i) (sym h.name_is i)))));
    leads = λ α. h.leads α ∙ step_leads kind.Semicolon (member true ∷ α) (members true ∷ α) refl c;
  }

module _ {X : Type 0} {after : X → Event → X} where
  pub method_read : {s p q r u v w x y z aa bb : Parser} {l m j k i n : X} {t e : TypeWord} {at a b c d f g h : ℕ} {b0 : Bool} → Headed after s l p m t at b0 → (seen kind.Semicolon (rest p) && b0) ≡ false
      → Took kind.OpenParen p q a → ReadType q r e → Took kind.Name r u b → Took kind.CloseParen u v c → Took kind.OpenBrace v w d → j ≡ after m (event.Method t at e b) → ReadBody after w j x k
      → Took kind.Return x y f → ReadExpr after y k z i → n ≡ after i (event.Return f) → Took kind.Semicolon z aa g → Took kind.CloseBrace aa bb h
      → ReadTree after method s l bb n (members b0) (λ α. members false ∷ α)
  unfolding spell events
  method_read {p = p} {l = l} {m} {i = i} {b0 = b0} hd other o t nm c b put bd rt x put_2 s f =
      let head-path = path_put _ (path_took (path_took (path_took (path_path (path_took hd.path o) (type_path m t)) nm) c) b)
      (put ∙ (λ j. after m (event.Method (sym hd.type_is j) (sym hd.name_is j) (sym t.is j) (nm.place_is j)))) in
      let body-path = path_put _ (path_path (path_took (path_path head-path bd.path) rt) (path_of x.walk)) (put_2 ∙ ap (λ k. after i (event.Return k)) rt.place_is) in
      let whole-path = path_took (path_took body-path s) f in
      record {
        tree = method_of hd.tree hd.mark o.mark t.tree nm.mark c.mark b.mark bd.variables bd.statements rt.mark x.tree s.mark f.mark;
        path = path_as (simp append_assoc) (simp append_assoc) whole-path;
        leads = λ α. hd.leads α ∙ member_method b0 α (rest p) other ∙ took_leads o _ ∙ t.leads _ ∙ took_leads nm _ ∙ took_leads c _ ∙ took_leads b _ ∙ bd.leads _ ∙ took_leads rt _ ∙ x.leads _ ∙ took_leads s _ ∙ took_leads f _;
      }

module _ {X : Type 0} {after : X → Event → X} where
  pub gather_field : (x : Section) (p q r : Parser) (l m n : X) → fields_in x ≡ true → Gathered after x p l q m → ReadTree after variable q m r n (members true) (λ α. members true ∷ α) → Gathered after section.Fields p l r n
  gather_field section.Fields p q r l m n e a b = some_more a b
  gather_field section.Methods p q r l m n e a b = absurd (false≢true e)

module _ {X : Type 0} {after : X → Event → X} where
  pub gather_method : (x : Section) (p q r : Parser) (l m n : X) → Gathered after x p l q m → ReadTree after method q m r n (members (fields_in x)) (λ α. members false ∷ α) → ReadBoth after p l r n
  unfolding spell events
  gather_method section.Fields p q r l m n a t = record {
    fields = a.tree;
    methods = tree.more t.tree none;
    path = path_as (ap (λ us. spell a.tree ++ us) (sym (append-nil _))) (ap (λ us. events 0 a.tree ++ us) (sym (append-nil _))) (path_path a.path t.path);
    leads = λ α. a.leads α ∙ t.leads α;
  }
  gather_method section.Methods p q r l m n a t = record {
    fields = a.fields;
    methods = put_last a.methods t.tree;
    path = path_as (append_assoc (spell a.fields) (spell a.methods) (spell t.tree) ∙ ap (λ us. spell a.fields ++ us) (sym (last_spells a.methods t.tree)))
        (append_assoc (events 0 a.fields) (events 0 a.methods) (events 0 t.tree) ∙ ap (λ us. events 0 a.fields ++ us) (sym (last_reports 0 a.methods t.tree))) (path_path a.path t.path);
    leads = λ α. a.leads α ∙ t.leads α;
  }

module _ {X : Type 0} {after : X → Event → X} where
  pub gather_done : (x : Section) (p q : Parser) (l m : X) → Gathered after x p l q m → type_begins (rest q) ≡ false → ReadMembers after p l q m
  unfolding spell events
  gather_done section.Fields p q l m a e = record {
    fields = a.tree;
    methods = none;
    path = path_as (sym (append-nil _)) (sym (append-nil _)) a.path;
    leads = λ α. a.leads α ∙ members_done true α (rest q) e;
  }
  gather_done section.Methods p q l m a e = record { fields = a.fields; methods = a.methods; path = a.path; leads = λ α. a.leads α ∙ members_done false α (rest q) e }

-- what a member that fails does to the members before it
module _ {X : Type 0} (after : X → Event → X) where
  pub gather_fails : (x : Section) (p q : Parser) (l m : X) {e : Unexpected} → Gathered after x p l q m → Fails q (members (fields_in x)) e → Fails p (members true) e
  gather_fails section.Fields p q l m a f = fails_one (fails_from (λ α. members true ∷ α) (λ α. members true ∷ α) (λ α. α) a.leads a.path.end_is (fails_all f))
  gather_fails section.Methods p q l m a f = fails_one (fails_from (λ α. members true ∷ α) (λ α. members false ∷ α) (λ α. α) a.leads a.path.end_is (fails_all f))

module _ {X : Type 0} {after : X → Event → X} where
  pub inside_read : {s p q r : Parser} {l m : X} {a b : ℕ} → Took kind.OpenBrace s p a → ReadMembers after p l q m → Took kind.CloseBrace q r b → ReadInside after s l r m
  inside_read {l = l} o t c = record {
    begin = o.mark;
    fields = t.fields;
    methods = t.methods;
    end = c.mark;
    path = path_as (ap (λ us. tok kind.OpenBrace o.mark ∷ us) (append_assoc (spell t.fields) (spell t.methods) (tok kind.CloseBrace c.mark ∷ []))) refl
        (path_took (path_path (took_path l o) t.path) c);
    leads = λ α. took_leads o _ ∙ t.leads _ ∙ took_leads c _;
  }

pub heading_read : {p q r s : Parser} {a b c : ℕ} → Took kind.Name p q a → Took kind.Extends q r b → Took kind.Name r s c → ReadHeading p s a c
heading_read n x q = record {
  name = n.mark;
  extends = x.mark;
  parent_name = q.mark;
  words = (path_took (path_took (plain_path n) x) q).words;
  end_is = (path_took (path_took (plain_path n) x) q).end_is;
  name_is = sym n.place_is;
  parent_is = sym q.place_is;
  leads = λ α. took_leads n _ ∙ took_leads x _ ∙ took_leads q _;
}

pub ends_read : {p q r s v w : Parser} {a b c d e : ℕ} → Took kind.OpenParen p q a → Took kind.Name q r b → Took kind.Comma r s c → Took kind.Name s v d → Took kind.CloseParen v w e → ReadEnds p w b d
ends_read o x m y c = record {
  left = o.mark;
  one = x.mark;
  comma = m.mark;
  two = y.mark;
  right = c.mark;
  words = (path_took (path_took (path_took (path_took (plain_path o) x) m) y) c).words;
  end_is = (path_took (path_took (path_took (path_took (plain_path o) x) m) y) c).end_is;
  one_is = sym x.place_is;
  two_is = sym y.place_is;
  leads = λ α. took_leads o _ ∙ took_leads x _ ∙ took_leads m _ ∙ took_leads y _ ∙ took_leads c _;
}

module _ {X : Type 0} {after : X → Event → X} where
  heading_path : {p q : Parser} {a b : ℕ} (l : X) (h : ReadHeading p q a b) → Path after p l q l (tok kind.Name h.name ∷ tok kind.Extends h.extends ∷ tok kind.Name h.parent_name ∷ []) []
  heading_path l h = record { words = h.words; log = refl; end_is = h.end_is }

module _ {X : Type 0} {after : X → Event → X} where
  ends_path : {p q : Parser} {a b : ℕ} (l : X) (h : ReadEnds p q a b) → Path after p l q l (tok kind.OpenParen h.left ∷ tok kind.Name h.one ∷ tok kind.Comma h.comma ∷ tok kind.Name h.two ∷ tok kind.CloseParen h.right ∷ []) []
  ends_path l h = record { words = h.words; log = refl; end_is = h.end_is }

module _ {X : Type 0} {after : X → Event → X} where
  pub class_read : {s p q r : Parser} {l m n : X} {at a b : ℕ} → Took kind.Class s p at → ReadHeading p q a b → m ≡ after l (event.Class a b) → ReadInside after q m r n → ReadTree after decl s l r n decls (λ α. decls ∷ α)
  unfolding spell events step
  class_read {l = l} w h put i = record {
    tree = class w.mark h.name h.extends h.parent_name i.begin i.fields i.methods i.end;
    path = path_path (path_put _ (path_path (took_path l w) (heading_path l h)) (put ∙ (λ j. after l (event.Class (sym h.name_is j) (sym h.parent_is j))))) i.path;
    leads = λ α. class_lead w α ∙ h.leads _ ∙ i.leads _;
  }

module _ {X : Type 0} {after : X → Event → X} where
  pub relationship_read : {s p q r v : Parser} {l m n : X} {at a b c d : ℕ} → Took kind.Relationship s p at → ReadHeading p q a b → ReadEnds q r c d → m ≡ after l (event.Relationship a b c d) → ReadInside after r m v n
      → ReadTree after decl s l v n decls (λ α. decls ∷ α)
  unfolding spell events step
  relationship_read {l = l} w h x put i = record {
    tree = relationship w.mark h.name h.extends h.parent_name x.left x.one x.comma x.two x.right i.begin i.fields i.methods i.end;
    path = path_path (path_put _ (path_path (path_path (took_path l w) (heading_path l h)) (ends_path l x)) (put ∙ (λ j. after l (event.Relationship (sym h.name_is j) (sym h.parent_is j) (sym x.one_is j) (sym x.two_is j))))) i.path;
    leads = λ α. relationship_lead w α ∙ h.leads _ ∙ x.leads _ ∙ i.leads _;
  }

-- the whole text
module _ {X : Type 0} {after : X → Event → X} where
  pub program_read : {p q : Parser} {l m : X} → ReadTree after (many decl) p l q m decls (λ α. decls ∷ α) → rest q ≡ [] → ReadProgram after p l m
  program_read a e = record { tree = a.tree; words = a.path.words ∙ ap (λ us. spell a.tree ++ us) e ∙ append-nil (spell a.tree); log = a.path.log }

module _ {X : Type 0} {after : X → Event → X} where
  pub program_stops : {p q : Parser} {l m : X} {e : Unexpected} (w : Token) (ws : List Token) → ReadTree after (many decl) p l q m decls (λ α. decls ∷ α) → rest q ≡ w ∷ ws
      → (kind_at (rest q) ≡ Some kind.Class → ⊥) → (kind_at (rest q) ≡ Some kind.Relationship → ⊥) → e.place ≡ w.place → FailsProgram p e
  program_stops {q = q} w ws a r nc nr h = record {
    from = w ∷ ws;
    stuck = a.leads [] ∙ decls_done [] (rest q) nc nr ∙ ap (runs []) r ∙ over w ws;
    place_is = h;
  }

-- by the answer of the last part
module _ {X : Type 0} {after : X → Event → X} where
  pub body_gives : (r : Result (Unit {0}) Unexpected) (s p q : Parser) (l m n : X) → ReadTree after (many variable) s l p m body (λ α. body ∷ α) → variable_begins (rest p) ≡ false → GivesTree after (many stmt) p m r q n stmts (λ α. α) → GivesBody after s l r q n
  body_gives (Ok _) s p q l m n v other t = body_read v other t
  body_gives (Err e) s p q l m n v other f = fails_after body stmts (λ α. α) (λ α. v.leads α ∙ body_stmts α (rest p) other) v.path.end_is f

module _ {X : Type 0} (after : X → Event → X) where
  pub class_gives : (r : Result (Unit {0}) Unexpected) (s p q v : Parser) (l m n : X) (at a b : ℕ) → Took kind.Class s p at → ReadHeading p q a b → m ≡ after l (event.Class a b) → GivesInside after q m r v n → GivesTree after decl s l r v n decls (λ α. decls ∷ α)
  class_gives (Ok _) s p q v l m n at a b w h put i = class_read w h put i
  class_gives (Err e) s p q v l m n at a b w h put f =
      fails_one (fails_from (λ α. decls ∷ α) (λ α. word kind.OpenBrace ∷ members true ∷ word kind.CloseBrace ∷ α) (λ α. decls ∷ α) (λ α. class_lead w α ∙ h.leads _) (h.end_is ∙ w.end_is) f)

module _ {X : Type 0} (after : X → Event → X) where
  pub relationship_gives : (r : Result (Unit {0}) Unexpected) (s p q t v : Parser) (l m n : X) (at a b c d : ℕ) → Took kind.Relationship s p at → ReadHeading p q a b → ReadEnds q t c d → m ≡ after l (event.Relationship a b c d) → GivesInside after t m r v n
      → GivesTree after decl s l r v n decls (λ α. decls ∷ α)
  relationship_gives (Ok _) s p q t v l m n at a b c d w h x put i = relationship_read w h x put i
  relationship_gives (Err e) s p q t v l m n at a b c d w h x put f =
      fails_one (fails_from (λ α. decls ∷ α) (λ α. word kind.OpenBrace ∷ members true ∷ word kind.CloseBrace ∷ α) (λ α. decls ∷ α) (λ α. relationship_lead w α ∙ h.leads _ ∙ x.leads _) (x.end_is ∙ h.end_is ∙ w.end_is) f)

module _ {X : Type 0} {after : X → Event → X} where
  pub program_gives : (r : Result (Unit {0}) Unexpected) (p q : Parser) (l m : X) → ReadTree after (many decl) p l q m decls (λ α. decls ∷ α) → (kind_at (rest q) ≡ Some kind.Class → ⊥) → (kind_at (rest q) ≡ Some kind.Relationship → ⊥) → Finished q r → GivesProgram after p l r m
  program_gives (Ok _) p q l m a nc nr e = program_read a e
  program_gives (Err e) p q l m a nc nr (w, ws, h, k) = program_stops w ws a h nc nr k
