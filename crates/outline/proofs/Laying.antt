-- The events of a tree lay it out.
use Rattle.std.proofs.Common.{◌≡◌, ℕ, suc, ◌+◌, max, true, false, cond, List, [], ◌∷◌, ◌++◌, Some, None, sym, refl, ap, ◌∙◌, add-zero, arith}
use Rattle.grammar.specs.declared.event.Event.{Event}
use Rattle.grammar.specs.declared.event.Event.TheVariants as event
use Rattle.grammar.specs.Events.{events, fed, first_item, first_atom, type_of}
use Rattle.grammar.proofs.Items.{fed_append}
use Rattle.grammar.specs.Trees.{Sort, expr, item, atom, creation, suffix, place, action, stmt, variable, method, decl, many, Tree, none, more, name, literal, paren, made, new, pair, member, call, instances, end, chain, bare, inside, alone, equal, assign, assigns, calls, creates, act, branch, declares, method_of, class, relationship}
use Rattle.grammar.specs.Trees as tree
use Rattle.outline.specs.declared.builder.pending.Open.{Open}
use Rattle.outline.specs.declared.entry.Shape.TheVariants as shape
use Rattle.outline.specs.Layout.{Layout, laid, add_class, add_relationship, add_declared, add_method, add_node, add_block, next, newest}
use Rattle.outline.specs.Limits.{height, crowd, how_many}
use Rattle.outline.specs.Drafts.{Draft, draft, taken, held, to_variable, to_member, heighten, in_first, parted, settled_in, raised}
use Rattle.outline.proofs.Heights.{cap, cap_raised, cap_both, cap_settled}

-- the events es lead from d to e
pub record Leads (d : Draft) (es : List Event) (e : Draft) : Type 0 where
  pub is : fed taken d es ≡ e

then : {d e f : Draft} {ds es : List Event} → Leads d ds e → Leads e es f → Leads d (ds ++ es) f
then {d} {ds = ds} {es} p q = record { is = fed_append taken d ds es ∙ ap (λ x. fed taken x es) p.is ∙ q.is }

from : {d e f : Draft} {es : List Event} → d ≡ e → Leads e es f → Leads d es f
from {es = es} p q = record { is = ap (λ x. fed taken x es) p ∙ q.is }

after : {d f : Draft} (e : Event) {es : List Event} → Leads (taken d e) es f → Leads d (e ∷ es) f
after e q = record { is = q.is }

to : {d e f : Draft} {es : List Event} → e ≡ f → Leads d es e → Leads d es f
to p q = record { is = q.is ∙ p }

by : {d e : Draft} {es : List Event} → fed taken d es ≡ e → Leads d es e
by p = record { is = p }

counted : (n x : ℕ) → (n + x) + 1 ≡ suc n + x
counted n x = omega arith

settled_count : (n x : ℕ) → n + (x + 1) ≡ suc n + x
settled_count n x = omega arith

-- a node is complete
done : (n x : ℕ) {l : Layout} {o : List Open} {m k v w g h : ℕ} → g ≡ h
    → draft l (held m g ∷ o) ((n + x) + 1) k v w ≡ draft l (held m h ∷ o) (suc n + x) k v w
done n x {l} {o} {m} {k} {v} {w} {g} {h} e =
    ap (λ y. draft l (held m y ∷ o) ((n + x) + 1) k v w) e ∙ ap (λ c. draft l (held m h ∷ o) c k v w) (counted n x)

assigned_done : (n x : ℕ) {l : Layout} {o : List Open} {m k v w g h : ℕ} → g ≡ h
    → draft l (held m g ∷ o) (n + (x + 1)) k v w ≡ draft l (held m h ∷ o) (suc n + x) k v w
assigned_done n x {l} {o} {m} {k} {v} {w} {g} {h} e =
    ap (λ y. draft l (held m y ∷ o) (n + (x + 1)) k v w) e ∙ ap (λ c. draft l (held m h ∷ o) c k v w) (settled_count n x)

more_targets : (n x : ℕ) {l : Layout} {o : List Open} {k v w : ℕ} → draft l o ((n + x) + 1) k v w ≡ draft l o (n + (x + 1)) k v w
more_targets n x {l} {o} {k} {v} {w} = let e : (n + x) + 1 ≡ n + (x + 1) = omega arith in ap (λ c. draft l o c k v w) e

-- where a statement stands: in no branch, or in one that is open
data Spot : Type 0 where
  outside : Spot
  within : Open → List Open → ℕ → Spot

abbrev opens : Spot → ℕ → List Open
opens outside h = []
opens (within x o k) h = heighten h x ∷ o

abbrev tall : Spot → ℕ → ℕ
tall outside h = h
tall (within x o k) h = k

abbrev at : Layout → Spot → ℕ → ℕ → ℕ → ℕ → Draft
at l s h c v w = draft l (opens s h) c (tall s h) v w

settles : (l : Layout) (s : Spot) (g h c v w : ℕ) → settled_in (opens s g) h (at l s g c v w) ≡ at l s (max g h) c v w
settles l outside g h c v w = refl
settles l (within x o k) g h c v w = refl

state_done : (l : Layout) (s : Spot) (h a n x v w : ℕ)
    → settled_in (opens s (cap h)) (raised (cap a)) (at l s (cap h) ((n + x) + 1) v w) ≡ at l s (cap (max h (a + 1))) (suc n + x) v w
state_done l s h a n x v w =
    settles l s (cap h) (raised (cap a)) ((n + x) + 1) v w
    ∙ ap (λ y. at l s y ((n + x) + 1) v w) (cap_settled h a) ∙ ap (λ c. at l s (cap (max h (a + 1))) c v w) (counted n x)

join_done : (l : Layout) (s : Spot) (h a c v w : ℕ)
    → settled_in (opens s (cap h)) (raised (cap a)) (at l s (cap h) c v w) ≡ at l s (cap (max h (a + 1))) c v w
join_done l s h a c v w = settles l s (cap h) (raised (cap a)) c v w ∙ ap (λ y. at l s y c v w) (cap_settled h a)

abbrev Valued : {s : Sort} → Tree s → Type 0
Valued t =
    (p : ℕ) (l : Layout) (o : List Open) (x k v w : ℕ)
    → Leads (draft l o (next l + x) k v w) (events p t) (draft (laid p t l) (held (newest (laid p t l)) (cap (height 0 t)) ∷ o) (next (laid p t l) + x) k v w)

abbrev Suffixed : {s : Sort} → Tree s → Type 0
Suffixed t =
    (p h : ℕ) (l : Layout) (o : List Open) (x k v w : ℕ)
    → Leads (draft l (held (newest l) (cap h) ∷ o) (next l + x) k v w) (events p t)
    (draft (laid p t l) (held (newest (laid p t l)) (cap (height h t)) ∷ o) (next (laid p t l) + x) k v w)

-- what will be assigned to
abbrev target : Tree place → Layout → Open
target (bare n) l = to_variable n.place
target (inside i d n) l = to_member n.place (first_item i) (held (newest l) (cap (height 0 i)))

abbrev Placed : Tree place → Type 0
Placed t =
    (l : Layout) (o : List Open) (x k v w : ℕ)
    → Leads (draft l o (next l + x) k v w) (events 0 t) (draft (laid 0 t l) (target t (laid 0 t l) ∷ o) (next (laid 0 t l) + (x + 1)) k v w)

abbrev Stated : {s : Sort} → Tree s → Type 0
Stated t =
    (p h : ℕ) (l : Layout) (s : Spot) (x v w : ℕ)
    → Leads (at l s (cap h) (next l + x) v w) (events p t) (at (laid p t l) s (cap (height h t)) (next (laid p t l) + x) v w)

assigns_to : (t : Tree place) (q : tree.Mark) (e : Tree expr) (l : Layout) (o : List Open) (x k v w : ℕ)
    → Leads (draft (laid 0 e (laid 0 t l)) (held (newest (laid 0 e (laid 0 t l))) (cap (height 0 e)) ∷ target t (laid 0 t l) ∷ o) (next (laid 0 e (laid 0 t l)) + (x + 1)) k v w)
    (event.Assigned ∷ [])
    (draft (laid 0 (assign t q e) l) (held (newest (laid 0 (assign t q e) l)) (cap (height 0 (assign t q e))) ∷ o) (next (laid 0 (assign t q e) l) + x) k v w)
unfolding taken laid height add_node
assigns_to (bare n) q e l o x k v w = by (assigned_done _ _ (cap_both 0 (height 0 e)))
assigns_to (inside i d n) q e l o x k v w = by (assigned_done _ _ (cap_both (height 0 i) (height 0 e)))

mutual
  unfolding taken laid height add_node events

  pub expr_laid : (t : Tree expr) → Valued t
  expr_laid (alone i) p l o x k v w = item_laid i 0 l o x k v w
  expr_laid (equal i q j) p l o x k v w =
      then (item_laid i 0 l o x k v w) (then (item_laid j 0 _ _ x k v w) (by (done _ _ (cap_both (height 0 i) (height 0 j)))))
  expr_laid (assign y q e) p l o x k v w =
      then (place_laid y l o x k v w) (then (expr_laid e 0 _ _ (x + 1) k v w) (assigns_to y q e l o x k v w))

  pub item_laid : (t : Tree item) → Valued t
  item_laid (chain a ss) p l o x k v w = then (atom_laid a 0 l o x k v w) (suffixes_laid ss (first_atom a) (height 0 a) _ o x k v w)

  pub atom_laid : (t : Tree atom) → Valued t
  atom_laid (name n) p l o x k v w = by (done _ _ refl)
  atom_laid (literal tree.true m) p l o x k v w = by (done _ _ refl)
  atom_laid (literal tree.false m) p l o x k v w = by (done _ _ refl)
  atom_laid (literal tree.null m) p l o x k v w = by (done _ _ refl)
  atom_laid (literal tree.this m) p l o x k v w = by (done _ _ refl)
  atom_laid (paren q e c) p l o x k v w =
      then (expr_laid e 0 l o x k v w) (by (ap (λ h. draft (laid 0 e l) (held (newest (laid 0 e l)) h ∷ o) (next (laid 0 e l) + x) k v w) (cap_raised (height 0 e))))
  atom_laid (made c) p l o x k v w = creation_laid c 0 l o x k v w

  pub creation_laid : (t : Tree creation) → Valued t
  creation_laid (new m n q c) p l o x k v w = by (done _ _ refl)
  creation_laid (pair tree.add n d m q a r b c) p l o x k v w =
      then (expr_laid a 0 l o x k v w) (then (expr_laid b 0 _ _ x k v w) (by (done _ _ (cap_both (height 0 a) (height 0 b)))))
  creation_laid (pair tree.rem n d m q a r b c) p l o x k v w =
      then (expr_laid a 0 l o x k v w) (then (expr_laid b 0 _ _ x k v w) (by (done _ _ (cap_both (height 0 a) (height 0 b)))))

  pub suffix_laid : (t : Tree suffix) → Suffixed t
  suffix_laid (member d n) p h l o x k v w = by (done _ _ (cap_raised h))
  suffix_laid (call d n q e c) p h l o x k v w = then (expr_laid e 0 l _ x k v w) (by (done _ _ (cap_both h (height 0 e))))
  suffix_laid (instances c n) p h l o x k v w = by (done _ _ (cap_raised h))
  suffix_laid (end tree.from d m) p h l o x k v w = by (done _ _ (cap_raised h))
  suffix_laid (end tree.to d m) p h l o x k v w = by (done _ _ (cap_raised h))

  pub suffixes_laid : (t : Tree (many suffix)) → Suffixed t
  suffixes_laid none p h l o x k v w = by refl
  suffixes_laid (more t ts) p h l o x k v w = then (suffix_laid t p h l o x k v w) (suffixes_laid ts p (height h t) _ o x k v w)

  pub place_laid : (t : Tree place) → Placed t
  place_laid (bare n) l o x k v w = by (more_targets _ _)
  place_laid (inside i d n) l o x k v w = then (item_laid i 0 l o x k v w) (by (more_targets _ _))

action_laid : (t : Tree action) → Valued t
unfolding taken laid height add_node events
action_laid (assigns y q e) p l o x k v w =
    then (place_laid y l o x k v w) (then (expr_laid e 0 _ _ (x + 1) k v w) (assigns_to y q e l o x k v w))
action_laid (calls i d n q e c) p l o x k v w =
    then (item_laid i 0 l o x k v w) (then (expr_laid e 0 _ _ x k v w) (by (done _ _ (cap_both (height 0 i) (height 0 e)))))
action_laid (creates c) p l o x k v w = creation_laid c 0 l o x k v w

mutual
  unfolding taken laid height add_node add_block events

  stmt_laid : (t : Tree stmt) → Stated t
  stmt_laid (act a q) p h l s x v w =
      then (action_laid a 0 l (opens s (cap h)) x (tall s (cap h)) v w)
      (by (state_done (laid 0 (act a q) l) s h (height 0 a) (next (laid 0 a l)) x v w))
  stmt_laid (branch i o e c b ss f g j us k q) p h l s x v w =
      let e' = laid 0 e l in
      let b' = add_node shape.Branch i.place (Some (newest e')) None e' in
      let O = opens s (cap h) in
      let K = tall s (cap h) in
      then (expr_laid e 0 l O x K v w)
      (after (event.Branch i.place)
      (from (ap (λ c. draft b' (in_first (next e') (cap (height 0 e)) ∷ O) c K v w) (counted (next e') x))
      (then (stmts_laid ss 0 (height 0 e) b' (within (in_first (next e') 0) O K) x v w)
      (after event.Otherwise
      (then (stmts_laid us 0 (height (height 0 e) ss) (laid 0 ss b') (within (parted (next (laid 0 ss b')) (in_first (next e') 0)) O K) x v w)
      (by (join_done (laid 0 (branch i o e c b ss f g j us k q) l) s h (height (height (height 0 e) ss) us) (next (laid 0 us (laid 0 ss b')) + x) v w)))))))

  stmts_laid : (t : Tree (many stmt)) → Stated t
  stmts_laid none p h l s x v w = by refl
  stmts_laid (more t ts) p h l s x v w = then (stmt_laid t p h l s x v w) (stmts_laid ts p (height h t) _ s x v w)

-- the fields of a row
fields_laid : (t : Tree (many variable)) (p : ℕ) (l : Layout) (o : List Open) (c k v w : ℕ) → l.in_method ≡ false
    → Leads (draft l o c k v w) (events p t) (draft (laid p t l) o c k v w)
unfolding taken laid add_declared events
fields_laid none p l o c k v w e = by refl
fields_laid (more (declares t n s) ts) p l o c k v w e =
    let l' = add_declared (type_of t) n.place l in
    after (event.Declared (type_of t) n.place)
    (from (ap (λ b. draft l' o c k (cond b (v + 1) v) (cond b (max w (v + 1)) w)) e) (fields_laid ts p l' o c k v w e))

-- the locals of a method
locals_laid : (t : Tree (many variable)) (p : ℕ) (l : Layout) (o : List Open) (c k v w : ℕ) → l.in_method ≡ true
    → Leads (draft l o c k v (max w v)) (events p t) (draft (laid p t l) o c k (v + how_many t) (max w (v + how_many t)))
unfolding taken laid add_declared events how_many
locals_laid none p l o c k v w e = by (ap (λ y. draft l o c k y (max w y)) (sym (add-zero v)))
locals_laid (more (declares t n s) ts) p l o c k v w e =
    let l' = add_declared (type_of t) n.place l in
    let m : max (max w v) (v + 1) ≡ max w (v + 1) = omega arith in
    let r : (v + 1) + how_many ts ≡ v + (how_many ts + 1) = omega arith in
    after (event.Declared (type_of t) n.place)
    (from (ap (λ b. draft l' o c k (cond b (v + 1) v) (cond b (max (max w v) (v + 1)) (max w v))) e ∙ ap (λ y. draft l' o c k (v + 1) y) m)
    (to (ap (λ y. draft (laid p ts l') o c k y (max w y)) r) (locals_laid ts p l' o c k (v + 1) w e)))

-- declared variables are no nodes
no_nodes : (t : Tree (many variable)) (p : ℕ) (l : Layout) → next (laid p t l) ≡ next l
unfolding laid add_declared
no_nodes none p l = refl
no_nodes (more (declares t n s) ts) p l = no_nodes ts p (add_declared (type_of t) n.place l)

-- the events es lead from d to these tables, with nothing left open
pub record Ends (d : Draft) (es : List Event) (l : Layout) (c k w : ℕ) : Type 0 where
  pub locals : ℕ
  pub leads : Leads d es (draft l [] c k locals w)

abbrev Whole : {s : Sort} → Tree s → Type 0
Whole t =
    (p h : ℕ) (l : Layout) (x v w : ℕ)
    → Ends (draft l [] (next l + x) (cap h) v w) (events p t) (laid p t l) (next (laid p t l) + x) (cap (height h t)) (crowd w t)

method_laid : (t : Tree method) → Whole t
unfolding taken laid height crowd add_node add_method events
method_laid (method_of t n o u q c b vs ss r e s f) p h l x v w =
    let m' = add_method (type_of t) n.place (type_of u) q.place l in
    let v' = laid 0 vs m' in
    let N = 2 + how_many vs in
    record {
      locals = N;
      leads =
          after (event.Method (type_of t) n.place (type_of u) q.place)
          (then (locals_laid vs 0 m' [] (next l + x) (cap h) 2 w refl)
          (from (ap (λ c. draft v' [] (c + x) (cap h) N (max w N)) (sym (no_nodes vs 0 m')))
          (then (stmts_laid ss 0 h v' outside x N (max w N))
          (then (expr_laid e 0 (laid 0 ss v') [] x (cap (height h ss)) N (max w N))
          (by (state_done (laid 0 (method_of t n o u q c b vs ss r e s f) l) outside (height h ss) (height 0 e) (next (laid 0 e (laid 0 ss v'))) x N (max w N)))))));
    }

methods_laid : (t : Tree (many method)) → Whole t
unfolding laid height crowd events
methods_laid none p h l x v w = record { locals = v; leads = by refl }
methods_laid (more t ts) p h l x v w =
    let a = method_laid t p h l x v w in
    let b = methods_laid ts p (height h t) (laid p t l) x a.locals (crowd w t) in
    record { locals = b.locals; leads = then a.leads b.leads }

decl_laid : (t : Tree decl) → Whole t
unfolding taken laid height crowd add_class add_relationship events
decl_laid (class y n z q b vs ms f) p h l x v w =
    let l' = add_class n.place q.place l in
    let v' = laid 0 vs l' in
    let m = methods_laid ms 0 h v' x v w in
    record {
      locals = m.locals;
      leads =
          after (event.Class n.place q.place)
          (then (fields_laid vs 0 l' [] (next l + x) (cap h) v w refl)
          (from (ap (λ c. draft v' [] (c + x) (cap h) v w) (sym (no_nodes vs 0 l'))) m.leads));
    }
decl_laid (relationship y n z q o r i j c b vs ms f) p h l x v w =
    let l' = add_relationship n.place q.place r.place j.place l in
    let v' = laid 0 vs l' in
    let m = methods_laid ms 0 h v' x v w in
    record {
      locals = m.locals;
      leads =
          after (event.Relationship n.place q.place r.place j.place)
          (then (fields_laid vs 0 l' [] (next l + x) (cap h) v w refl)
          (from (ap (λ c. draft v' [] (c + x) (cap h) v w) (sym (no_nodes vs 0 l'))) m.leads));
    }

-- a program's events lead from nothing to its tables
pub program_laid : (t : Tree (many decl)) → Whole t
unfolding laid height crowd events
program_laid none p h l x v w = record { locals = v; leads = by refl }
program_laid (more t ts) p h l x v w =
    let a = decl_laid t p h l x v w in
    let b = program_laid ts p (height h t) (laid p t l) x a.locals (crowd w t) in
    record { locals = b.locals; leads = then a.leads b.leads }
