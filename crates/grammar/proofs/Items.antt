-- How the parts of an item join.
use Rattle.std.proofs.Common.{◌≡◌, ℕ, zero, suc, ◌+◌, ◌≤◌, Bool, true, false, List, [], ◌∷◌, ◌++◌, length, replicate, Some, None, sym, refl, ap, ◌∙◌, subst, append_assoc, append-nil, arith, length-append}
use Rattle.std.proofs.lemmas.Option.{none-some}
use Rattle.words.specs.declared.kind.Kind.{Kind}
use Rattle.words.specs.declared.kind.Kind.TheVariants as kind
use Rattle.words.specs.Words.{Token}
use Rattle.grammar.specs.declared.event.Event.{Event}
use Rattle.grammar.specs.declared.event.Event.TheVariants as event
use Rattle.grammar.specs.declared.parser.Parser.{Parser}
use Rattle.grammar.specs.declared.parser.items.Found.{Found}
use Rattle.grammar.specs.declared.parser.items.Found.TheVariants as found
use Rattle.grammar.specs.Events.{events, fed, first_atom, first_item, value_of, doing_of, side_of}
use Rattle.grammar.specs.Machine.{Sym, word, start, more, dotted, named, step, begin, onward, after_dot, fresh, two, alone_is, settable, Use, whole, operand, Form, bare, inner, done, plain}
use Rattle.grammar.specs.Told.{rest, kind_at, reads_of, target_of, form_of, AfterDot, Named, DottedBare, ReadTarget, Took, Leads, Walk, ReadExpr, ReadItem, HeldBare, HeldInner, ReadDone, Finds}
use Rattle.grammar.specs.Trees.{Mark, tok, Sort, many, suffix, Tree, expr, item, atom, creation, place, action, none, name, literal, paren, made, new, pair, member, call, instances, end, chain, inside, alone, equal, assign, calls, creates, spell, literal_kind, pairing_kind, end_kind}
use Rattle.grammar.specs.Trees as tree
use Rattle.grammar.proofs.Accepting.{some_inj}
use Rattle.grammar.proofs.Steps.{step_leads, took_leads, named_done, more_done}

-- events one after another
pub fed_append : {X : Type 0} (after : X → Event → X) (x : X) (ds es : List Event) → fed after x (ds ++ es) ≡ fed after (fed after x ds) es
fed_append after x [] es = refl
fed_append after x (d ∷ ds) es = fed_append after (after x d) ds es

-- words passed one after another
module _ {X : Type 0} {after : X → Event → X} where
  pub took_walk : {k : Kind} {p q : Parser} {at : ℕ} (l : X) (t : Took k p q at) → Walk after p l q l (tok k t.mark ∷ []) []
  took_walk l t = record { words = t.words; log = refl; end_is = t.end_is; shorter = omega (arith, ap length t.words) }

module _ {X : Type 0} {after : X → Event → X} where
  pub walk_took : {k : Kind} {p q r : Parser} {at : ℕ} {l m : X} {ws : List Token} {es : List Event} → Walk after p l q m ws es → (t : Took k q r at) → Walk after p l r m (ws ++ tok k t.mark ∷ []) es
  walk_took {k} {p} {q} {r} {ws = ws} a t = record {
    words = a.words ∙ ap (λ us. ws ++ us) t.words ∙ sym (append_assoc ws (tok k t.mark ∷ []) (rest r));
    log = a.log;
    end_is = t.end_is ∙ a.end_is;
    shorter = omega (arith, ap length t.words, a.shorter);
  }

module _ {X : Type 0} {after : X → Event → X} where
  pub walk_walk : {p q r : Parser} {l m n : X} {us ws : List Token} {ds es : List Event} → Walk after p l q m us ds → Walk after q m r n ws es → Walk after p l r n (us ++ ws) (ds ++ es)
  walk_walk {p} {q} {r} {l} {us = us} {ws} {ds} {es} a b = record {
    words = a.words ∙ ap (λ vs. us ++ vs) b.words ∙ sym (append_assoc us ws (rest r));
    log = b.log ∙ ap (λ x. fed after x es) a.log ∙ sym (fed_append after l ds es);
    end_is = b.end_is ∙ a.end_is;
    shorter = omega (arith, a.shorter, b.shorter);
  }

-- one event more
module _ {X : Type 0} {after : X → Event → X} where
  pub walk_put : {p q : Parser} {l m n : X} {ws : List Token} {es : List Event} (e : Event) → Walk after p l q m ws es → n ≡ after m (e) → Walk after p l q n ws (es ++ e ∷ [])
  walk_put {l = l} {es = es} e a h = record {
    words = a.words;
    log = h ∙ ap (λ x. after x e) a.log ∙ sym (fed_append after l es (e ∷ []));
    end_is = a.end_is;
    shorter = a.shorter;
  }

-- the same words and events, written otherwise
module _ {X : Type 0} {after : X → Event → X} where
  pub walk_as : {p q : Parser} {l m : X} {us ws : List Token} {ds es : List Event} → us ≡ ws → ds ≡ es → Walk after p l q m us ds → Walk after p l q m ws es
  walk_as {q = q} {l} e f a = record { words = a.words ∙ ap (λ vs. vs ++ rest q) e; log = a.log ∙ ap (fed after l) f; end_is = a.end_is; shorter = a.shorter }

-- one more at the end
pub put_last : {s : Sort} → Tree (many s) → Tree s → Tree (many s)
put_last none x = tree.more x none
put_last (tree.more y ys) x = tree.more y (put_last ys x)

pub extend : Tree item → Tree suffix → Tree item
extend (chain a ss) x = chain a (put_last ss x)

pub last_spells : {s : Sort} (ss : Tree (many s)) (x : Tree s) → spell (put_last ss x) ≡ spell ss ++ spell x
unfolding spell put_last
last_spells none x = append-nil (spell x)
last_spells (tree.more y ys) x = ap (λ us. spell y ++ us) (last_spells ys x) ∙ sym (append_assoc (spell y) (spell ys) (spell x))

pub last_reports : {s : Sort} (p : ℕ) (ss : Tree (many s)) (x : Tree s) → events p (put_last ss x) ≡ events p ss ++ events p x
unfolding events put_last
last_reports p none x = append-nil (events p x)
last_reports p (tree.more y ys) x = ap (λ us. events p y ++ us) (last_reports p ys x) ∙ sym (append_assoc (events p y) (events p ys) (events p x))

pub extend_spells : (i : Tree item) (x : Tree suffix) → spell (extend i x) ≡ spell i ++ spell x
unfolding spell extend
extend_spells (chain a ss) x = ap (λ us. spell a ++ us) (last_spells ss x) ∙ sym (append_assoc (spell a) (spell ss) (spell x))

pub extend_reports : (i : Tree item) (x : Tree suffix) → events 0 (extend i x) ≡ events 0 i ++ events (first_item i) x
unfolding events extend
extend_reports (chain a ss) x = ap (λ us. events 0 a ++ us) (last_reports (first_atom a) ss x) ∙ sym (append_assoc (events 0 a) (events (first_atom a) ss) (events (first_atom a) x))

pub extend_first : (i : Tree item) (x : Tree suffix) → first_item (extend i x) ≡ first_item i
unfolding extend
extend_first (chain a ss) x = refl

-- atoms
module _ {X : Type 0} {after : X → Event → X} where
  pub bare_held : {p q : Parser} {at : ℕ} (l : X) → Took kind.Name p q at → HeldBare after p l q l at
  unfolding step begin
  bare_held l t = record {
    mark = t.mark;
    walk = took_walk l t;
    first_is = sym t.place_is;
    leads = λ u α. step_leads kind.Name (start u ∷ α) (more u bare ∷ α) refl t;
  }

module _ {X : Type 0} {after : X → Event → X} where
  pub new_done : {p q r s v : Parser} {at b c d : ℕ} {l m : X} → Took kind.New p q at → Took kind.Name q r b → Took kind.OpenParen r s c → Took kind.CloseParen s v d
      → m ≡ after l (event.New b at) → ReadDone after p l v m at
  unfolding step begin spell events
  new_done {l = l} w n o c h =
      let made-is = new w.mark n.mark o.mark c.mark in
      let put = h ∙ (λ i. after l (event.New (n.place_is i) (w.place_is i))) in
      record {
        item = record {
          tree = chain (made made-is) none;
          walk = walk_put _ (walk_took (walk_took (walk_took (took_walk l w) n) o) c) put;
          first_is = sym w.place_is;
          leads = λ u α. step_leads kind.New (start u ∷ α) (fresh (more u done ∷ α)) refl w ∙ took_leads n _ ∙ took_leads o _ ∙ took_leads c _;
        };
        doing = creates made-is;
        spells = refl;
        reports = refl;
        first_is = sym w.place_is;
      }

module _ {X : Type 0} {after : X → Event → X} where
  pub paren_plain : {p q r s : Parser} {at c : ℕ} {l m n : X} → Took kind.OpenParen p q at → ReadExpr after q l r m → Took kind.CloseParen r s c
      → n ≡ after m (event.Bracket) → ReadItem after p l s n at plain
  unfolding step begin spell events
  paren_plain {l = l} o e c h = record {
    tree = chain (paren o.mark e.tree c.mark) none;
    walk = walk_as (sym (append-nil _)) (sym (append-nil _)) (walk_put _ (walk_took (walk_walk (took_walk l o) e.walk) c) h);
    first_is = sym o.place_is;
    leads = λ u α. step_leads kind.OpenParen (start u ∷ α) (start whole ∷ word kind.CloseParen ∷ more u plain ∷ α) refl o ∙ e.leads _ ∙ took_leads c _;
  }

literal_step : (v : tree.Literal) (u : Use) (α : List Sym) → step (start u ∷ α) (literal_kind v) ≡ Some (more u plain ∷ α)
unfolding step begin
literal_step tree.true u α = refl
literal_step tree.false u α = refl
literal_step tree.null u α = refl
literal_step tree.this u α = refl

module _ {X : Type 0} {after : X → Event → X} where
  pub literal_plain : {p q : Parser} {at : ℕ} {l m : X} (v : tree.Literal) → Took (literal_kind v) p q at → m ≡ after l (event.Literal (value_of v) at) → ReadItem after p l q m at plain
  unfolding spell events
  literal_plain {l = l} v t h = record {
    tree = chain (literal v t.mark) none;
    walk = walk_put _ (took_walk l t) (h ∙ ap (λ a. after l (event.Literal (value_of v) a)) t.place_is);
    first_is = sym t.place_is;
    leads = λ u α. step_leads (literal_kind v) (start u ∷ α) (more u plain ∷ α) (literal_step v u α) t;
  }

-- the value of an item is reported, if it was not yet
module _ {X : Type 0} {after : X → Event → X} where
  pub read_item : (f : Found) (s p : Parser) (l m n : X) (at : ℕ) → Finds after s l at f p m → n ≡ fed after m (reads_of f at) → ReadItem after s l p n at (form_of f)
  unfolding spell events
  read_item found.Bare s p l m n at h e = record {
    tree = chain (name h.mark) none;
    walk = walk_put _ h.walk (e ∙ ap (λ a. after m (event.Variable a)) (sym h.first_is));
    first_is = h.first_is;
    leads = h.leads;
  }
  read_item (found.Inner x) s p l m n at h e = record {
    tree = extend h.tree (member h.dot h.name);
    walk = walk_as (sym (extend_spells h.tree (member h.dot h.name))) (sym (extend_reports h.tree (member h.dot h.name)))
        (walk_put _ h.walk (e ∙ (λ i. after m (event.Member (sym h.name_is i) (sym h.first_is i)))));
    first_is = extend_first h.tree (member h.dot h.name) ∙ h.first_is;
    leads = h.leads;
  }
  read_item found.Done s p l m n at h e = subst (λ (k : X). ReadItem after s l p k at done) (sym e) h.item
  read_item found.Plain s p l m n at h e = subst (λ (k : X). ReadItem after s l p k at plain) (sym e) h

-- suffixes
module _ {X : Type 0} {after : X → Event → X} where
  pub after_dot_read : {s p q : Parser} {l m : X} {at d : ℕ} {f : Form} → ReadItem after s l p m at f → Took kind.Dot p q d
      → (alone_is f ≡ true → (kind_at (rest q) ≡ Some kind.Add → ⊥) × (kind_at (rest q) ≡ Some kind.Rem → ⊥)) → AfterDot after s l q m at
  unfolding step onward
  after_dot_read {f = f} i t apart = record {
    tree = i.tree;
    dot = t.mark;
    walk = walk_took i.walk t;
    first_is = i.first_is;
    b = alone_is f;
    leads = λ u α. i.leads u α ∙ step_leads kind.Dot (more u f ∷ α) (dotted u (alone_is f) ∷ α) refl t;
    no_pair = apart;
  }

module _ {X : Type 0} {after : X → Event → X} where
  pub dotted_bare : {s p q : Parser} {l m : X} {at d : ℕ} → HeldBare after s l p m at → Took kind.Dot p q d → DottedBare after s l q m at
  unfolding step onward
  dotted_bare h t = record {
    mark = h.mark;
    dot = t.mark;
    walk = walk_took h.walk t;
    first_is = h.first_is;
    leads = λ u α. h.leads u α ∙ step_leads kind.Dot (more u bare ∷ α) (dotted u true ∷ α) refl t;
  }

end_step : (e : tree.End) (u : Use) (b : Bool) (α : List Sym) → step (dotted u b ∷ α) (end_kind e) ≡ Some (more u plain ∷ α)
unfolding step after_dot
end_step tree.from u b α = refl
end_step tree.to u b α = refl

module _ {X : Type 0} {after : X → Event → X} where
  pub end_plain : {s p q : Parser} {l m n : X} {at w : ℕ} (e : tree.End) → AfterDot after s l p m at → Took (end_kind e) p q w
      → n ≡ after m (event.End (side_of e) at) → ReadItem after s l q n at plain
  unfolding spell events
  end_plain {m = m} e a t h =
      let x = end e a.dot t.mark in
      record {
        tree = extend a.tree x;
        walk = walk_as (append_assoc (spell a.tree) (tok kind.Dot a.dot ∷ []) (tok (end_kind e) t.mark ∷ []) ∙ sym (extend_spells a.tree x)) (sym (extend_reports a.tree x))
            (walk_put _ (walk_took a.walk t) (h ∙ ap (λ k. after m (event.End (side_of e) k)) (sym a.first_is)));
        first_is = extend_first a.tree x ∙ a.first_is;
        leads = λ u α. a.leads u α ∙ step_leads (end_kind e) (dotted u a.b ∷ α) (more u plain ∷ α) (end_step e u a.b α) t;
      }

module _ {X : Type 0} {after : X → Event → X} where
  pub named_read : {s p q : Parser} {l m : X} {at n : ℕ} → AfterDot after s l p m at → Took kind.Name p q n → Named after s l q m at n
  unfolding step after_dot spell
  named_read a t = record {
    tree = a.tree;
    dot = a.dot;
    name = t.mark;
    walk = walk_as (append_assoc (spell a.tree) (tok kind.Dot a.dot ∷ []) (tok kind.Name t.mark ∷ [])) refl (walk_took a.walk t);
    name_is = sym t.place_is;
    first_is = a.first_is;
    leads = λ u α. a.leads u α ∙ step_leads kind.Name (dotted u a.b ∷ α) (named u ∷ α) refl t;
  }

module _ {X : Type 0} {after : X → Event → X} where
  pub inner_held : {s p : Parser} {l m : X} {at n : ℕ} → Named after s l p m at n → (kind_at (rest p) ≡ Some kind.OpenParen → ⊥) → HeldInner after s l p m at n
  inner_held {p = p} a ends-here = record {
    tree = a.tree;
    dot = a.dot;
    name = a.name;
    walk = a.walk;
    name_is = a.name_is;
    first_is = a.first_is;
    leads = λ u α. a.leads u α ∙ named_done u α (rest p) ends-here;
  }

module _ {X : Type 0} {after : X → Event → X} where
  pub call_done : {s p q r v : Parser} {l m k n : X} {at x o c : ℕ} → Named after s l p m at x → Took kind.OpenParen p q o → ReadExpr after q m r k → Took kind.CloseParen r v c
      → n ≡ after k (event.Call x at) → ReadDone after s l v n at
  unfolding step spell events
  call_done {k = k} a o e c h =
      let y = call a.dot a.name o.mark e.tree c.mark in
      let i = a.tree in
      let put = h ∙ (λ j. after k (event.Call (sym a.name_is j) (sym a.first_is j))) in
      let whole-walk = walk_put _ (walk_took (walk_walk (walk_took a.walk o) e.walk) c) put in
      let word-list = tok kind.Dot a.dot ∷ tok kind.Name a.name ∷ [] in
      let words_are : (((spell i ++ word-list) ++ tok kind.OpenParen o.mark ∷ []) ++ spell e.tree) ++ tok kind.CloseParen c.mark ∷ [] ≡ spell i ++ spell y = simp append_assoc in
      let events_are : (events 0 i ++ events 0 e.tree) ++ event.Call a.name.place (first_item i) ∷ [] ≡ events 0 i ++ events (first_item i) y = simp append_assoc in
      let walk_is = walk_as words_are events_are whole-walk in
      record {
        item = record {
          tree = extend i y;
          walk = walk_as (sym (extend_spells i y)) (sym (extend_reports i y)) walk_is;
          first_is = extend_first i y ∙ a.first_is;
          leads = λ u α. a.leads u α ∙ step_leads kind.OpenParen (named u ∷ α) (start whole ∷ word kind.CloseParen ∷ more u done ∷ α) refl o ∙ e.leads _ ∙ took_leads c _;
        };
        doing = calls i a.dot a.name o.mark e.tree c.mark;
        spells = sym (extend_spells i y);
        reports = sym (extend_reports i y);
        first_is = a.first_is;
      }

module _ {X : Type 0} {after : X → Event → X} where
  pub colon_plain : {s p q r : Parser} {l m n : X} {at c x : ℕ} {f : Form} → ReadItem after s l p m at f → Took kind.Colon p q c → Took kind.Name q r x
      → n ≡ after m (event.Instances x at) → ReadItem after s l r n at plain
  unfolding step onward spell events
  colon_plain {m = m} {f = f} i c t h =
      let x = instances c.mark t.mark in
      record {
        tree = extend i.tree x;
        walk = walk_as (append_assoc (spell i.tree) (tok kind.Colon c.mark ∷ []) (tok kind.Name t.mark ∷ []) ∙ sym (extend_spells i.tree x)) (sym (extend_reports i.tree x))
            (walk_put _ (walk_took (walk_took i.walk c) t) (h ∙ (λ j. after m (event.Instances (t.place_is j) (sym i.first_is j)))));
        first_is = extend_first i.tree x ∙ i.first_is;
        leads = λ u α. i.leads u α ∙ step_leads kind.Colon (more u f ∷ α) (word kind.Name ∷ more u plain ∷ α) refl c ∙ took_leads t _;
      }

pub pair_step : (x : tree.Pairing) (u : Use) (α : List Sym) → step (dotted u true ∷ α) (pairing_kind x) ≡ Some (two (more u done ∷ α))
unfolding step after_dot
pair_step tree.add u α = refl
pair_step tree.rem u α = refl

module _ {X : Type 0} {after : X → Event → X} where
  pub pair_done : {s p q r v w y z : Parser} {l m j k n : X} {at a b c d : ℕ} (x : tree.Pairing) → DottedBare after s l p m at → Took (pairing_kind x) p q a → Took kind.OpenParen q r b
      → ReadExpr after r m v j → Took kind.Comma v w c → ReadExpr after w j y k → Took kind.CloseParen y z d
      → n ≡ after k (event.Pair (doing_of x) at) → ReadDone after s l z n at
  unfolding spell events
  pair_done {k = k} x h a b e c f d put =
      let t = pair x h.mark h.dot a.mark b.mark e.tree c.mark f.tree d.mark in
      let walk_is = walk_put _ (walk_took (walk_walk (walk_took (walk_walk (walk_took (walk_took h.walk a) b) e.walk) c) f.walk) d)
      (put ∙ ap (λ i. after k (event.Pair (doing_of x) i)) (sym h.first_is)) in
      let words_are : ((((tok kind.Name h.mark ∷ tok kind.Dot h.dot ∷ tok (pairing_kind x) a.mark ∷ tok kind.OpenParen b.mark ∷ []) ++ spell e.tree) ++ tok kind.Comma c.mark ∷ []) ++ spell f.tree) ++ tok kind.CloseParen d.mark ∷ [] ≡ spell t ++ [] = simp (append_assoc, append-nil) in
      let events_are : (events 0 e.tree ++ events 0 f.tree) ++ event.Pair (doing_of x) h.mark.place ∷ [] ≡ events 0 t ++ [] = simp (append_assoc, append-nil) in
      record {
        item = record {
          tree = chain (made t) none;
          walk = walk_as words_are events_are walk_is;
          first_is = h.first_is;
          leads = λ u α. h.leads u α ∙ step_leads (pairing_kind x) (dotted u true ∷ α) (two (more u done ∷ α)) (pair_step x u α) a
              ∙ took_leads b _ ∙ e.leads _ ∙ took_leads c _ ∙ f.leads _ ∙ took_leads d _;
        };
        doing = creates t;
        spells = sym (append-nil (spell t));
        reports = sym (append-nil (events 0 t));
        first_is = h.first_is;
      }

-- expressions
module _ {X : Type 0} {after : X → Event → X} where
  pub alone_read : {p q : Parser} {l m : X} {at : ℕ} {f : Form} → ReadItem after p l q m at f → (kind_at (rest q) ≡ Some kind.Dot → ⊥) → (kind_at (rest q) ≡ Some kind.Colon → ⊥)
      → (kind_at (rest q) ≡ Some kind.Equal → ⊥) → (kind_at (rest q) ≡ Some kind.Assign → settable f ≡ false) → ReadExpr after p l q m
  unfolding spell events
  alone_read {q = q} {f = f} i nd nc nq na = record {
    tree = alone i.tree;
    walk = i.walk;
    leads = λ α. i.leads whole α ∙ more_done whole f α (rest q) nd nc (λ e. absurd (nq e)) na refl;
  }

module _ {X : Type 0} {after : X → Event → X} where
  pub equal_read : {p q r v : Parser} {l m k n : X} {at x y : ℕ} {f g : Form} → ReadItem after p l q m at f → Took kind.Equal q r x → ReadItem after r m v k y g
      → (kind_at (rest v) ≡ Some kind.Dot → ⊥) → (kind_at (rest v) ≡ Some kind.Colon → ⊥) → n ≡ after k (event.Equal at) → ReadExpr after p l v n
  unfolding step onward spell events
  equal_read {v = v} {k = k} {f = f} {g} i t j nd nc h = record {
    tree = equal i.tree t.mark j.tree;
    walk = walk_as (append_assoc (spell i.tree) (tok kind.Equal t.mark ∷ []) (spell j.tree)) (append_assoc (events 0 i.tree) (events 0 j.tree) (event.Equal (first_item i.tree) ∷ []))
        (walk_put _ (walk_walk (walk_took i.walk t) j.walk) (h ∙ ap (λ a. after k (event.Equal a)) (sym i.first_is)));
    leads = λ α. i.leads whole α ∙ step_leads kind.Equal (more whole f ∷ α) (start operand ∷ α) refl t ∙ j.leads operand α ∙ more_done operand g α (rest v) nd nc (λ _. refl) (λ _. refl) refl;
  }

module _ {X : Type 0} {after : X → Event → X} where
  bare_target : {p q r : Parser} {l m n : X} {at x : ℕ} → HeldBare after p l q m at → Took kind.Assign q r x → n ≡ after m (event.ToVariable at) → ReadTarget after p l r n
  unfolding step onward spell events
  bare_target {m = m} h t e = record {
    tree = tree.bare h.mark;
    mark = t.mark;
    walk = walk_put _ (walk_took h.walk t) (e ∙ ap (λ a. after m (event.ToVariable a)) (sym h.first_is));
    leads = λ α. h.leads whole α ∙ step_leads kind.Assign (more whole bare ∷ α) (start whole ∷ α) refl t;
  }

module _ {X : Type 0} {after : X → Event → X} where
  inner_target : {p q r : Parser} {l m n : X} {at y x : ℕ} → HeldInner after p l q m at y → Took kind.Assign q r x → n ≡ after m (event.ToMember y at) → ReadTarget after p l r n
  unfolding step onward spell events
  inner_target {m = m} h t e = record {
    tree = inside h.tree h.dot h.name;
    mark = t.mark;
    walk = walk_put _ (walk_took h.walk t) (e ∙ (λ i. after m (event.ToMember (sym h.name_is i) (sym h.first_is i))));
    leads = λ α. h.leads whole α ∙ step_leads kind.Assign (more whole inner ∷ α) (start whole ∷ α) refl t;
  }

module _ {X : Type 0} (after : X → Event → X) where
  pub target_read : (f : Found) (p q : Parser) (l m : X) (at : ℕ) (e : Event) {r : Parser} {n : X} {x : ℕ} → target_of f at ≡ Some e → Finds after p l at f q m → Took kind.Assign q r x → n ≡ after m e → ReadTarget after p l r n
  target_read found.Bare p q l m at e s h t put = bare_target h t (put ∙ ap (after m) (sym (some_inj _ _ s)))
  target_read (found.Inner y) p q l m at e s h t put = inner_target h t (put ∙ ap (after m) (sym (some_inj _ _ s)))
  target_read found.Done p q l m at e s h t put = absurd (none-some e s)
  target_read found.Plain p q l m at e s h t put = absurd (none-some e s)

-- what is no target cannot be assigned to
pub no_target : (f : Found) (at : ℕ) → target_of f at ≡ None → settable (form_of f) ≡ false
no_target found.Bare at e = absurd (none-some _ (sym e))
no_target (found.Inner y) at e = absurd (none-some _ (sym e))
no_target found.Done at e = refl
no_target found.Plain at e = refl

-- targets read so far: whatever expression follows, the whole is an expression
pub record Chained {X : Type 0} (after : X → Event → X) (s : Parser) (l : X) (p : Parser) (m : X) (n : ℕ) : Type 0 where
  pub ws : List Token
  pub es : List Event
  pub words : rest s ≡ ws ++ rest p
  pub log : m ≡ fed after l es
  pub end_is : p.end ≡ s.end
  pub count : n + n + length (rest p) ≤ length (rest s)
  pub tree : Tree expr → Tree expr
  pub spells : (e : Tree expr) → spell (tree e) ≡ ws ++ spell e
  pub reports : (e : Tree expr) → events 0 (tree e) ≡ es ++ (events 0 e ++ replicate n event.Assigned)
  pub leads : Leads s (start whole) p (λ α. start whole ∷ α)

module _ {X : Type 0} {after : X → Event → X} where
  pub chain_none : (s : Parser) (l : X) → Chained after s l s l 0
  chain_none s l = record {
    ws = [];
    es = [];
    words = refl;
    log = refl;
    end_is = refl;
    count = omega arith;
    tree = λ e. e;
    spells = λ e. refl;
    reports = λ e. sym (append-nil (events 0 e));
    leads = λ α. refl;
  }

-- a place is a word or more
place_words : (x : Tree place) → 1 ≤ length (spell x)
unfolding spell
place_words (tree.bare n) = omega arith
place_words (inside i d n) = simp length-append (omega arith)

-- one event more at the front
last_first : (n : ℕ) (e : Event) → e ∷ replicate n e ≡ replicate (n + 1) e
last_first n e = let h : suc n ≡ n + 1 = omega arith in ap (λ k. replicate k e) h

pub last_more : (n : ℕ) (e : Event) → replicate n e ++ e ∷ [] ≡ replicate (n + 1) e
last_more zero e = refl
last_more (suc n) e = let h : suc (n + 1) ≡ suc n + 1 = omega arith in ap (λ es. e ∷ es) (last_more n e) ∙ ap (λ k. replicate k e) h

module _ {X : Type 0} {after : X → Event → X} where
  pub chain_more : {s p q : Parser} {l m k : X} {n : ℕ} → Chained after s l p m n → ReadTarget after p m q k → Chained after s l q k (n + 1)
  unfolding spell events
  chain_more {q = q} {l = l} {n = n} c t = record {
    ws = c.ws ++ (spell t.tree ++ tok kind.Assign t.mark ∷ []);
    es = c.es ++ events 0 t.tree;
    words = c.words ∙ ap (λ us. c.ws ++ us) t.walk.words ∙ sym (append_assoc c.ws _ (rest q));
    log = t.walk.log ∙ ap (λ x. fed after x (events 0 t.tree)) c.log ∙ sym (fed_append after l c.es (events 0 t.tree));
    end_is = t.walk.end_is ∙ c.end_is;
    count = omega (arith, c.count, place_words t.tree, simp length-append at (ap length t.walk.words));
    tree = λ e. c.tree (assign t.tree t.mark e);
    spells = λ e. c.spells (assign t.tree t.mark e) ∙ simp append_assoc;
    reports = λ e. c.reports (assign t.tree t.mark e)
        ∙ simp append_assoc (ap (λ us. c.es ++ (events 0 t.tree ++ (events 0 e ++ us))) (last_first n event.Assigned));
    leads = λ α. c.leads α ∙ t.leads α;
  }

module _ {X : Type 0} {after : X → Event → X} where
  pub chain_read : {s p q : Parser} {l m k j : X} {n : ℕ} → Chained after s l p m n → ReadExpr after p m q k → j ≡ fed after k (replicate n event.Assigned) → ReadExpr after s l q j
  chain_read {q = q} {l = l} {n = n} c e h = record {
    tree = c.tree e.tree;
    walk = record {
      words = c.words ∙ ap (λ us. c.ws ++ us) e.walk.words ∙ sym (append_assoc c.ws (spell e.tree) (rest q)) ∙ ap (λ us. us ++ rest q) (sym (c.spells e.tree));
      log = h ∙ ap (λ x. fed after x (replicate n event.Assigned)) (e.walk.log ∙ ap (λ x. fed after x (events 0 e.tree)) c.log)
          ∙ sym (fed_append after (fed after l c.es) (events 0 e.tree) (replicate n event.Assigned)) ∙ sym (fed_append after l c.es (events 0 e.tree ++ replicate n event.Assigned)) ∙ ap (fed after l) (sym (c.reports e.tree));
      end_is = e.walk.end_is ∙ c.end_is;
      shorter = omega (arith, c.count, e.walk.shorter);
    };
    leads = λ α. c.leads α ∙ e.leads α;
  }
