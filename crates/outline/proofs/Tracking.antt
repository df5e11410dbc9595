-- The builder follows the draft, as long as no limit is passed.
use Rattle.std.proofs.Common.{◌≡◌, ℕ, suc, pred, ◌+◌, ◌-◌, ◌*◌, ◌<◌, ◌≤◌, min, max, Bool, true, false, cond, List, [], ◌∷◌, length, Some, None, Option, unwrap_or, sym, refl, ap, ◌∙◌, subst, sub-one, arith}
use Rattle.std.proofs.lemmas.Bool.{both_ways}
use Rattle.grammar.specs.declared.event.TypeWord.{TypeWord}
use Rattle.grammar.specs.declared.event.Event.{Event}
use Rattle.grammar.specs.declared.event.Event.TheVariants as event
use Rattle.tables.specs.declared.table.Table.{Table}
use Rattle.tables.specs.Listed.{listed, shortened, newest}
use Rattle.outline.specs.declared.entry.Shape.{Shape}
use Rattle.outline.specs.declared.entry.Shape.TheVariants as shape
use Rattle.outline.specs.declared.builder.pending.Pending.{Pending}
use Rattle.outline.specs.declared.builder.pending.Pending.TheVariants as pending
use Rattle.outline.specs.declared.builder.pending.Open.{Open}
use Rattle.outline.specs.declared.contents.Outline.{Outline}
use Rattle.outline.specs.declared.builder.Tally.{Tally}
use Rattle.outline.specs.declared.builder.Builder.{Builder}
use Rattle.outline.specs.Layout.{Layout, node, block, class_row, relationship_row, field_entry, variable_entry, method_entry, add_class, add_relationship, add_declared, add_method, add_node, add_block, next}
use Rattle.outline.specs.Drafts.{Draft, draft, taken, leaf, unary, binary, held, to_variable, to_member, heighten, in_first, parted, value_of, raised, top, below, on_top, settled_in, with_opened, assigned_to, assigned, statement, branching, joining_to, joining, declaring, in_layout, value_shape, doing_shape, side_shape}
use Rattle.outline.specs.Building.{counting, opening, closing, top_of, next_node, last_method, counted, with_node, node_added, block_added, leaf_added, unary_added, binary_added, variable_targeted, assigned_in, assigned_at, settling, statement_added, branch_added, joined_in, joined_at, replaced, class_added, relationship_added, field_added, local_added, method_added, declared_in, with_height, settled_at, built}
use Rattle.outline.proofs.Shown.{Shows, show_length, show_push, show_drop, show_drop_none, show_newest, show_none}

-- the tables hold the layout
pub record Holds (o : Outline) (l : Layout) : Type 0 where
  pub classes : Shows o.classes l.classes
  pub relationships : Shows o.relationships l.relationships
  pub fields : Shows o.fields l.fields
  pub methods : Shows o.methods l.methods
  pub variables : Shows o.variables l.variables
  pub nodes : Shows o.nodes l.nodes
  pub blocks : Shows o.blocks l.blocks

-- and what is open is o
pub record Same (b : Builder) (l : Layout) (o : List Open) (k : ℕ) : Type 0 where
  pub tables : Holds b.outline l
  pub opened : Shows b.opened o
  pub owner : b.tally.owner ≡ l.owner
  pub tallest : b.tally.tallest ≡ k

-- what is declared in a layout, in number
pub record Sizes : Type 0 where
  pub classes : ℕ
  pub relationships : ℕ
  pub fields : ℕ
  pub methods : ℕ
  pub variables : ℕ
  pub in_method : Bool

abbrev sizes : Layout → Sizes
sizes l =
    record {
      classes = length l.classes;
      relationships = length l.relationships;
      fields = length l.fields;
      methods = length l.methods;
      variables = length l.variables;
      in_method = l.in_method;
    }

-- the counts, each as far as its bits tell
pub record Counts (t : Tally) (z : Sizes) (c v w : ℕ) : Type 0 where
  pub classes : t.classes ≡ min z.classes 255
  pub relationships : t.relationships ≡ min z.relationships 255
  pub fields : t.fields ≡ min z.fields 255
  pub methods : t.methods ≡ min z.methods 255
  pub nodes : t.nodes ≡ min c 65535
  pub locals : t.locals ≡ min v 255
  pub most : t.most ≡ min w 255
  pub in_method : t.in_method ≡ z.in_method

-- no limit on the tables is passed, with n nodes, of which c are counted
pub record Small (z : Sizes) (n c w : ℕ) : Type 0 where
  pub classes : z.classes ≤ 31
  pub relationships : z.relationships ≤ 31
  pub fields : z.fields ≤ 128
  pub methods : z.methods ≤ 64
  pub nodes : n ≤ 2048
  pub count : c ≤ 2048
  pub most : w ≤ 12

-- what is open, and the blocks, are no more than the nodes; variables are no more than the methods can have
pub record Fine (z : Sizes) (o k c v w : ℕ) : Type 0 where
  pub opened : o + k ≤ c
  pub variables : w ≤ 12 → z.variables ≤ 11 * z.methods
  pub newest : w ≤ 12 → z.in_method ≡ true → z.variables + 12 ≤ 11 * z.methods + v
  pub locals : z.in_method ≡ true → v ≤ w

abbrev Counted : Tally → Draft → Type 0
Counted t d = Counts t (sizes d.layout) d.count d.locals d.most

abbrev Slight : Draft → Type 0
Slight d = Small (sizes d.layout) (length d.layout.nodes) d.count d.most

abbrev Bound : Draft → Type 0
Bound d = Fine (sizes d.layout) (length d.opened) (length d.layout.blocks) d.count d.locals d.most

abbrev Alike : Builder → Draft → Type 0
Alike b d = Same b d.layout d.opened d.tallest

pub record Tracks (b : Builder) (d : Draft) : Type 0 where
  pub counts : Counted b.tally d
  pub fine : Bound d
  pub same : Slight d → Alike b d

never : {C : Type 0} → false ≡ true → C
never e = absurd (both_ways false refl e)

-- Sameness, step by step.

last_is : {b : Builder} {l : Layout} {o : List Open} {k : ℕ} → Same b l o k → last_method b.outline ≡ pred (length l.methods)
last_is h = let n = show_length h.tables.methods in ap (λ m. m - 1) n ∙ sub-one _

next_is : {b : Builder} {l : Layout} {o : List Open} {k : ℕ} → Same b l o k → next_node b ≡ next l
next_is h = show_length h.tables.nodes

top_is : {b : Builder} {l : Layout} (o : List Open) {k : ℕ} → Same b l o k → top_of b ≡ top o
top_is [] h = ap (λ x. unwrap_or x (held 0 0)) (show_none h.opened)
top_is (x ∷ o) h = ap (λ x. unwrap_or x (held 0 0)) (show_newest h.opened)

same_node : {b : Builder} {l : Layout} {o : List Open} {k : ℕ} (s : Shape) (p : ℕ) {x y x' y' : Option ℕ} → x ≡ x' → y ≡ y' → Same b l o k → length l.nodes < 2048
    → Same (node_added b s p x y) (add_node s p x' y' l) o k
unfolding add_node
same_node {b} {l} s p {x} {y} {x'} {y'} e f h room =
    let t = h.tables in
    record {
      tables =
          record {
            classes = t.classes;
            relationships = t.relationships;
            fields = t.fields;
            methods = t.methods;
            variables = t.variables;
            nodes =
                show_push
                (ap (λ m. node s m p x y) (last_is h) ∙ ap (λ z. node s (pred (length l.methods)) p z y) e ∙ ap (λ z. node s (pred (length l.methods)) p x' z) f)
                t.nodes room;
            blocks = t.blocks;
          };
      opened = h.opened;
      owner = h.owner;
      tallest = h.tallest;
    }

same_block : {b : Builder} {l : Layout} {o : List Open} {k : ℕ} (x n : ℕ) → Same b l o k → length l.blocks < 2048
    → Same (block_added b x n) (add_block x n (next l) l) o k
unfolding add_block
same_block x n h room =
    let t = h.tables in
    record {
      tables =
          record {
            classes = t.classes;
            relationships = t.relationships;
            fields = t.fields;
            methods = t.methods;
            variables = t.variables;
            nodes = t.nodes;
            blocks = show_push (ap (λ j. block x n j) (next_is h)) t.blocks room;
          };
      opened = h.opened;
      owner = h.owner;
      tallest = h.tallest;
    }

same_open : {b : Builder} {l : Layout} {o : List Open} {k : ℕ} {x y : Open} → x ≡ y → Same b l o k → length o < 2048 → Same (opening b x) l (y ∷ o) k
same_open e h room = record { tables = h.tables; opened = show_push e h.opened room; owner = h.owner; tallest = h.tallest }

close_shows : {t : Table Open 2048} (o : List Open) → Shows t o → Shows (shortened t) (below o)
close_shows [] h = show_drop_none h
close_shows (x ∷ o) h = show_drop h

same_close : {b : Builder} {l : Layout} (o : List Open) {k : ℕ} → Same b l o k → Same (closing b) l (below o) k
same_close o h = record { tables = h.tables; opened = close_shows o h.opened; owner = h.owner; tallest = h.tallest }

same_counted : {b : Builder} {l : Layout} {o : List Open} {k : ℕ} → Same b l o k → Same (counted b) l o k
same_counted h = record { tables = h.tables; opened = h.opened; owner = h.owner; tallest = h.tallest }

same_tallest : {b : Builder} {l : Layout} {o : List Open} {k : ℕ} (g : ℕ) → Same b l o k → Same (counting (with_height g b.tally) b) l o (max k g)
same_tallest g h = record { tables = h.tables; opened = h.opened; owner = h.owner; tallest = ap (λ y. max y g) h.tallest }

below_less : (o : List Open) → length (below o) ≤ length o - 1
below_less [] = omega arith
below_less (x ∷ o) = omega arith

on_top_length : (f : Open → Open) (o : List Open) → length (on_top f o) ≡ length o
on_top_length f [] = refl
on_top_length f (x ∷ o) = refl

same_replaced : {b : Builder} {l : Layout} (o : List Open) {k : ℕ} (f g : Open → Open) → ((x : Open) → f x ≡ g x) → Same b l o k → length o ≤ 2048
    → Same (replaced (newest (listed b.opened)) f b) l (on_top g o) k
same_replaced {b} {l} [] {k} f g e h room = let P : Option Open → Type 0 = λ t. Same (replaced t f b) l [] k in subst P (sym (show_none h.opened)) h
same_replaced {b} {l} (x ∷ o) {k} f g e h room =
    let P : Option Open → Type 0 = λ t. Same (replaced t f b) l (g x ∷ o) k in
    subst P (sym (show_newest h.opened)) (same_open (e x) (same_close (x ∷ o) h) (omega arith))

same_settled : {b : Builder} {l : Layout} (o : List Open) (c v w : ℕ) {k g g' : ℕ} → g ≡ g' → Same b l o k → length o ≤ 2048
    → Alike (settling b g) (settled_in o g' (draft l o c k v w))
same_settled {b} {l} [] c v w {k} {g} {g'} e h room =
    let P : Option Open → Type 0 = λ t. Same (settled_at t g b) l [] (max k g') in
    let Q : ℕ → Type 0 = λ y. Same (counting (with_height g b.tally) b) l [] (max k y) in
    subst P (sym (show_none h.opened)) (subst Q e (same_tallest g h))
same_settled {b} {l} (x ∷ o) c v w {k} {g} {g'} e h room =
    let P : Option Open → Type 0 = λ t. Same (settled_at t g b) l (heighten (max x.height g') x ∷ o) k in
    subst P (sym (show_newest h.opened)) (same_open (ap (λ y. heighten (max x.height y) x) e) (same_close (x ∷ o) h) (omega arith))

-- Counts and bounds, step by step.

counts_more : {t : Tally} {z : Sizes} {c v w : ℕ} → Counts t z c v w → Counts (with_node t) z (c + 1) v w
counts_more h =
    record {
      classes = h.classes;
      relationships = h.relationships;
      fields = h.fields;
      methods = h.methods;
      nodes = omega (arith, h.nodes);
      locals = h.locals;
      most = h.most;
      in_method = h.in_method;
    }

counts_height : {t : Tally} {z : Sizes} {c v w : ℕ} (g : ℕ) → Counts t z c v w → Counts (with_height g t) z c v w
counts_height g h =
    record {
      classes = h.classes;
      relationships = h.relationships;
      fields = h.fields;
      methods = h.methods;
      nodes = h.nodes;
      locals = h.locals;
      most = h.most;
      in_method = h.in_method;
    }

fine_opened : {z : Sizes} {o k c v w : ℕ} (o' k' c' : ℕ) → Fine z o k c v w → o' + k' ≤ c' → Fine z o' k' c' v w
fine_opened o' k' c' h e = record { opened = e; variables = h.variables; newest = h.newest; locals = h.locals }

shrink : {z : Sizes} {n n' c c' w : ℕ} → Small z n' c' w → n ≤ n' → c ≤ c' → Small z n c w
shrink h d e =
    record {
      classes = h.classes;
      relationships = h.relationships;
      fields = h.fields;
      methods = h.methods;
      nodes = omega (arith, h.nodes);
      count = omega (arith, h.count);
      most = h.most;
    }

-- Tracking, event by event.

held_as : {n m g h : ℕ} → n ≡ m → g ≡ h → held n g ≡ held m h
held_as {n} {m} {g} {h} e f = ap (λ y. held y g) e ∙ ap (λ y. held m y) f

first_as : {n m g h : ℕ} → n ≡ m → g ≡ h → in_first n g ≡ in_first m h
first_as {n} {m} {g} {h} e f = ap (λ y. in_first y g) e ∙ ap (λ y. in_first m y) f

higher : {x y x' y' : Open} → x ≡ x' → y ≡ y' → raised (max x.height y.height) ≡ raised (max x'.height y'.height)
higher {x} {y} {x'} {y'} e f = ap (λ z. raised (max z.height y.height)) e ∙ ap (λ z. raised (max x'.height z.height)) f

-- a builder that has o open gets a node with parts x and y, and opens z
tracks_node : {b e : Builder} {d : Draft} (o : List Open) (s : Shape) (p : ℕ) {x y x' y' : Option ℕ} {z z' : Open} → Tracks b d → Counted e.tally d → length o ≤ length d.opened
    → (Alike b d → Same e d.layout o d.tallest × (x ≡ x') × (y ≡ y') × (z ≡ z'))
    → Tracks (counted (opening (node_added e s p x y) z)) (draft (add_node s p x' y' d.layout) (z' ∷ o) (d.count + 1) d.tallest d.locals d.most)
unfolding add_node
tracks_node {b} {e} {d} o s p t n less steps =
    let few = t.fine.opened in
    record {
      counts = counts_more n;
      fine = fine_opened _ _ _ t.fine (omega arith);
      same =
          λ m. let q = m.count in
          let h = steps (t.same (shrink m (omega arith) (omega arith))) in
          same_counted (same_open h.3 (same_node s p h.1 h.2 h.0 (omega (arith, m.nodes))) (omega arith));
    }

tracks_leaf : {b : Builder} {d : Draft} (s : Shape) (p : ℕ) → Tracks b d → Tracks (leaf_added b s p) (leaf s p d)
tracks_leaf {b} {d} s p t = tracks_node d.opened s p t t.counts (omega arith) (λ h. (h, refl, refl, held_as (next_is h) refl))

tracks_unary : {b : Builder} {d : Draft} (s : Shape) (p : ℕ) → Tracks b d → Tracks (unary_added b s p) (unary s p d)
tracks_unary {b} {d} s p t =
    let less = below_less d.opened in
    tracks_node (below d.opened) s p t t.counts (omega arith)
    (λ h. let e = top_is d.opened h in
    (same_close d.opened h, ap (λ x. value_of x.pending) e, refl, held_as (next_is h) (ap (λ x. raised x.height) e)))

tracks_branch : {b : Builder} {d : Draft} (p : ℕ) → Tracks b d → Tracks (branch_added b p) (branching p d)
tracks_branch {b} {d} p t =
    let less = below_less d.opened in
    tracks_node (below d.opened) shape.Branch p t t.counts (omega arith)
    (λ h. let e = top_is d.opened h in
    (same_close d.opened h, ap (λ x. value_of x.pending) e, refl, first_as (next_is h) (ap (λ x. x.height) e)))

tracks_binary : {b : Builder} {d : Draft} (s : Shape) (p : ℕ) → Tracks b d → Tracks (binary_added b s p) (binary s p d)
tracks_binary {b} {d} s p t =
    let less = below_less d.opened in
    let lesser = below_less (below d.opened) in
    tracks_node (below (below d.opened)) s p t t.counts (omega arith)
    (λ h. let g = same_close d.opened h in
    let e = top_is d.opened h in
    let f = top_is (below d.opened) g in
    (same_close (below d.opened) g, ap (λ x. value_of x.pending) f, ap (λ x. value_of x.pending) e, held_as (next_is h) (higher f e)))

replaced_counts : (b : Builder) {z : Sizes} {c v w : ℕ} (o : Option Open) (f : Open → Open) → Counts b.tally z c v w → Counts (replaced o f b).tally z c v w
replaced_counts b None f h = h
replaced_counts b (Some x) f h = h

tracks_replaced : {b : Builder} {d : Draft} (f g : Open → Open) → Tracks b d → (Slight d → (x : Open) → f x ≡ g x)
    → Tracks (replaced (newest (listed b.opened)) f b) (with_opened (on_top g d.opened) d.count d)
tracks_replaced {b} {d} f g t e =
    let few = t.fine.opened in
    let n = on_top_length g d.opened in
    record {
      counts = replaced_counts b (newest (listed b.opened)) f t.counts;
      fine = fine_opened _ _ _ t.fine (omega arith);
      same = λ m. let q = m.count in same_replaced d.opened f g (e m) (t.same m) (omega arith);
    }

tracks_more : {b : Builder} {d : Draft} → Tracks b d → Tracks (counted b) (with_opened d.opened (d.count + 1) d)
tracks_more {b} {d} t =
    let few = t.fine.opened in
    record {
      counts = counts_more t.counts;
      fine = fine_opened _ _ _ t.fine (omega arith);
      same = λ m. same_counted (t.same (shrink m (omega arith) (omega arith)));
    }

tracks_to_variable : {b : Builder} {d : Draft} (p : ℕ) → Tracks b d → Tracks (variable_targeted b p) (with_opened (to_variable p ∷ d.opened) (d.count + 1) d)
tracks_to_variable {b} {d} p t =
    let few = t.fine.opened in
    record {
      counts = counts_more t.counts;
      fine = fine_opened _ _ _ t.fine (omega arith);
      same = λ m. let q = m.count in same_counted (same_open refl (t.same (shrink m (omega arith) (omega arith))) (omega arith));
    }

-- an assignment leaves the tally, and what is declared
assigned_tally : (x : Pending) (h : ℕ) (e : Open) (b : Builder) → b.tally ≡ (assigned_in x h e b).tally
assigned_tally (pending.Assignment s p a) h e b = refl
assigned_tally x h e b = refl

counts_assigned : {t : Tally} (x : Pending) (h : ℕ) (e : Open) (o : List Open) (d : Draft) → Counted t d → Counted t (assigned_to x h e o d)
unfolding add_node
counts_assigned (pending.Assignment s p a) h e o d n = n
counts_assigned x h e o d n = n

fine_assigned_to : (x : Pending) (h : ℕ) (e : Open) (o : List Open) (d : Draft) → Bound d → length o + 1 + length d.layout.blocks ≤ d.count → Bound (assigned_to x h e o d)
unfolding add_node
fine_assigned_to (pending.Assignment s p a) h e o d f few = fine_opened _ _ _ f (omega arith)
fine_assigned_to x h e o d f few = fine_opened _ _ _ f (omega arith)

fine_assigned : (o : List Open) (l : Layout) (c k v w : ℕ) → Bound (draft l o c k v w) → Bound (assigned (draft l o c k v w))
fine_assigned [] l c k v w f = f
fine_assigned (e ∷ o) l c k v w f =
    let few = f.opened in
    let less = below_less o in
    fine_assigned_to (top o).pending (top o).height e (below o) (draft l (e ∷ o) c k v w) f (omega arith)

shrink_assigned : (x : Pending) (h : ℕ) (e : Open) (o : List Open) (d : Draft) → Slight (assigned_to x h e o d) → Slight d
unfolding add_node
shrink_assigned (pending.Assignment s p a) h e o d m = shrink m (omega arith) (omega arith)
shrink_assigned x h e o d m = m

same_assigned : {b : Builder} (x : Pending) (h : ℕ) (e : Open) (o : List Open) (d : Draft) → Same b d.layout o d.tallest → length o < 2048 → Slight (assigned_to x h e o d)
    → Alike (assigned_in x h e b) (assigned_to x h e o d)
unfolding add_node
same_assigned (pending.Assignment s p a) h e o d g few m = same_open (held_as (next_is g) refl) (same_node s p refl refl g (omega (arith, m.nodes))) few
same_assigned x h e o d g few m = g

tracks_assigned : {b : Builder} (o : List Open) (l : Layout) (c k v w : ℕ) → Tracks b (draft l o c k v w) → Tracks (assigned_at b) (assigned (draft l o c k v w))
tracks_assigned {b} o l c k v w t =
    let few = t.fine.opened in
    let less = below_less o in
    let lesser = below_less (below o) in
    let x = top (below o) in
    let d = draft l o c k v w in
    record {
      counts =
          subst (λ y. Counted y (assigned d)) (assigned_tally (top_of (closing b)).pending (top_of (closing b)).height (top_of b) (closing (closing b)))
          (counts_assigned x.pending x.height (top o) (below (below o)) d t.counts);
      fine = fine_assigned o l c k v w t.fine;
      same =
          λ m. let M = shrink_assigned x.pending x.height (top o) (below (below o)) d m in
          let q = M.count in
          let g = t.same M in
          let P : Open → Open → Type 0 = λ y e. Alike (assigned_in y.pending y.height e (closing (closing b))) (assigned d) in
          subst (λ y. P y (top_of b)) (sym (top_is (below o) (same_close o g)))
          (subst (P x) (sym (top_is o g))
          (same_assigned x.pending x.height (top o) (below (below o)) d (same_close (below o) (same_close o g)) (omega arith) m));
    }

settled_counts : (b : Builder) {z : Sizes} {c v w : ℕ} (x : Option Open) (g : ℕ) → Counts b.tally z c v w → Counts (settled_at x g b).tally z c v w
settled_counts b None g h = counts_height g h
settled_counts b (Some x) g h = h

tracks_settled : {b : Builder} (o : List Open) (l : Layout) (c k v w g g' : ℕ) → (let d = draft l o c k v w in Counted b.tally d × Bound d × (Slight d → (g ≡ g') × Same b l o k))
    → Tracks (settling b g) (settled_in o g' (draft l o c k v w))
tracks_settled {b} [] l c k v w g g' t =
    record {
      counts = settled_counts b (newest (listed b.opened)) g t.0;
      fine = t.1;
      same = λ m. let s = t.2 m in same_settled [] c v w s.0 s.1 (omega arith);
    }
tracks_settled {b} (x ∷ o) l c k v w g g' t =
    let few = t.1.opened in
    record {
      counts = settled_counts b (newest (listed b.opened)) g t.0;
      fine = fine_opened _ _ _ t.1 (omega arith);
      same = λ m. let q = m.count in let s = t.2 m in same_settled (x ∷ o) c v w s.0 s.1 (omega arith);
    }

tracks_statement : {b : Builder} {d : Draft} (s : Shape) (p : ℕ) → Tracks b d → Tracks (statement_added b s p) (statement s p d)
unfolding add_node
tracks_statement {b} {d} s p t =
    let few = t.fine.opened in
    let less = below_less d.opened in
    tracks_settled (below d.opened) (add_node s p (value_of (top d.opened).pending) None d.layout) (d.count + 1) d.tallest d.locals d.most (raised (top_of b).height) (raised (top d.opened).height) (
      counts_more t.counts,
      fine_opened _ _ _ t.fine (omega arith),
      (λ m. let q = m.count in
          let h = t.same (shrink m (omega arith) (omega arith)) in
          let e = top_is d.opened h in
          (ap (λ y. raised y.height) e, same_counted (same_node s p (ap (λ y. value_of y.pending) e) refl (same_close d.opened h) (omega (arith, m.nodes))))),
    )

joined_counts : (x : Pending) (h : ℕ) (b : Builder) {z : Sizes} {c v w : ℕ} → Counts b.tally z c v w → Counts (joined_in x h b).tally z c v w
joined_counts (pending.Second n p) h b g = settled_counts (block_added b n p) (newest (listed (block_added b n p).opened)) (raised h) g
joined_counts x h b g = g

-- settling leaves the counts and the bounds
counts_settled : {t : Tally} (o : List Open) (g : ℕ) (d : Draft) → Counted t d → Counted t (settled_in o g d)
counts_settled [] g d n = n
counts_settled (x ∷ o) g d n = n

fine_settled : (o : List Open) (g : ℕ) (l : Layout) (c k v w : ℕ) → Bound (draft l o c k v w) → Bound (settled_in o g (draft l o c k v w))
fine_settled [] g l c k v w f = f
fine_settled (x ∷ o) g l c k v w f = let few = f.opened in fine_opened _ _ _ f (omega arith)

shrink_settled : (o : List Open) (g : ℕ) (d : Draft) → Slight (settled_in o g d) → Slight d
shrink_settled [] g d m = m
shrink_settled (x ∷ o) g d m = m

counts_joined : {t : Tally} (x : Pending) (h : ℕ) (o : List Open) (d : Draft) → Counted t d → Counted t (joining_to x h o d)
unfolding add_block
counts_joined (pending.Second n p) h o d g = counts_settled o (raised h) (draft (add_block n p (next d.layout) d.layout) o d.count d.tallest d.locals d.most) g
counts_joined x h o d g = g

fine_joined_to : (x : Pending) (h : ℕ) (o : List Open) (d : Draft) → Bound d → length o + 1 + length d.layout.blocks ≤ d.count → Bound (joining_to x h o d)
unfolding add_block
fine_joined_to (pending.Second n p) h o d f few =
    fine_settled o (raised h) (add_block n p (next d.layout) d.layout) d.count d.tallest d.locals d.most (fine_opened _ _ _ f (omega arith))
fine_joined_to x h o d f few = fine_opened _ _ _ f (omega arith)

fine_joined : (o : List Open) (l : Layout) (c k v w : ℕ) → Bound (draft l o c k v w) → Bound (joining (draft l o c k v w))
fine_joined [] l c k v w f = f
fine_joined (x ∷ o) l c k v w f = let few = f.opened in fine_joined_to x.pending x.height o (draft l (x ∷ o) c k v w) f (omega arith)

shrink_joined : (x : Pending) (h : ℕ) (o : List Open) (d : Draft) → Slight (joining_to x h o d) → Slight d
unfolding add_block
shrink_joined (pending.Second n p) h o d m = shrink_settled o (raised h) (draft (add_block n p (next d.layout) d.layout) o d.count d.tallest d.locals d.most) m
shrink_joined x h o d m = m

same_joined_to : {b : Builder} (x : Pending) (h : ℕ) (o : List Open) (d : Draft) → Same b d.layout o d.tallest → length o + 1 + length d.layout.blocks ≤ 2048
    → Alike (joined_in x h b) (joining_to x h o d)
same_joined_to (pending.Second n p) h o d g few = same_settled o d.count d.locals d.most refl (same_block n p g (omega arith)) (omega arith)
same_joined_to x h o d g few = g

same_joined : {b : Builder} (o : List Open) (l : Layout) (c k v w : ℕ) → Bound (draft l o c k v w) → c ≤ 2048 → Same b l o k → Alike (joined_at b) (joining (draft l o c k v w))
same_joined {b} [] l c k v w f q g =
    let P : Open → Type 0 = λ y. Same (joined_in y.pending y.height (closing b)) l [] k in subst P (sym (top_is [] g)) (same_close [] g)
same_joined {b} (x ∷ o) l c k v w f q g =
    let few = f.opened in
    let P : Open → Type 0 = λ y. Alike (joined_in y.pending y.height (closing b)) (joining (draft l (x ∷ o) c k v w)) in
    subst P (sym (top_is (x ∷ o) g)) (same_joined_to x.pending x.height o (draft l (x ∷ o) c k v w) (same_close (x ∷ o) g) (omega arith))

tracks_joined : {b : Builder} (o : List Open) (l : Layout) (c k v w : ℕ) → Tracks b (draft l o c k v w) → Tracks (joined_at b) (joining (draft l o c k v w))
tracks_joined {b} o l c k v w t =
    let d = draft l o c k v w in
    record {
      counts = joined_counts (top_of b).pending (top_of b).height (closing b) (counts_joined (top o).pending (top o).height (below o) d t.counts);
      fine = fine_joined o l c k v w t.fine;
      same = λ m. let M = shrink_joined (top o).pending (top o).height (below o) d m in same_joined o l c k v w t.fine M.count (t.same M);
    }

-- The declarations.

tracks_class : {b : Builder} {d : Draft} (n p : ℕ) → Tracks b d → Tracks (class_added b n p) (in_layout (add_class n p d.layout) d)
unfolding add_class
tracks_class {b} {d} n p t =
    let c = t.counts in
    record {
      counts =
          record {
            classes = omega (arith, c.classes);
            relationships = c.relationships;
            fields = c.fields;
            methods = c.methods;
            nodes = c.nodes;
            locals = c.locals;
            most = c.most;
            in_method = refl;
          };
      fine = record { opened = t.fine.opened; variables = t.fine.variables; newest = λ e f. never f; locals = λ f. never f };
      same =
          λ m. let q = m.classes in
          let h = t.same (record { classes = omega arith; relationships = m.relationships; fields = m.fields; methods = m.methods; nodes = m.nodes; count = m.count; most = m.most }) in
          record {
            tables =
                record {
                  classes = show_push refl h.tables.classes (omega arith);
                  relationships = h.tables.relationships;
                  fields = h.tables.fields;
                  methods = h.tables.methods;
                  variables = h.tables.variables;
                  nodes = h.tables.nodes;
                  blocks = h.tables.blocks;
                };
            opened = h.opened;
            owner =
                let e : raised b.tally.classes ≡ suc (length d.layout.classes) = omega (arith, c.classes) in ap class_row e;
            tallest = h.tallest;
          };
    }

tracks_relationship : {b : Builder} {d : Draft} (n p x y : ℕ) → Tracks b d → Tracks (relationship_added b n p x y) (in_layout (add_relationship n p x y d.layout) d)
unfolding add_relationship
tracks_relationship {b} {d} n p x y t =
    let c = t.counts in
    record {
      counts =
          record {
            classes = c.classes;
            relationships = omega (arith, c.relationships);
            fields = c.fields;
            methods = c.methods;
            nodes = c.nodes;
            locals = c.locals;
            most = c.most;
            in_method = refl;
          };
      fine = record { opened = t.fine.opened; variables = t.fine.variables; newest = λ e f. never f; locals = λ f. never f };
      same =
          λ m. let q = m.relationships in
          let h = t.same (record { classes = m.classes; relationships = omega arith; fields = m.fields; methods = m.methods; nodes = m.nodes; count = m.count; most = m.most }) in
          record {
            tables =
                record {
                  classes = h.tables.classes;
                  relationships = show_push refl h.tables.relationships (omega arith);
                  fields = h.tables.fields;
                  methods = h.tables.methods;
                  variables = h.tables.variables;
                  nodes = h.tables.nodes;
                  blocks = h.tables.blocks;
                };
            opened = h.opened;
            owner =
                let e : raised b.tally.relationships ≡ suc (length d.layout.relationships) = omega (arith, c.relationships) in ap relationship_row e;
            tallest = h.tallest;
          };
    }

tracks_method : {b : Builder} {d : Draft} (r : TypeWord) (n : ℕ) (u : TypeWord) (p : ℕ) → Tracks b d
    → Tracks (method_added b r n u p) (draft (add_method r n u p d.layout) d.opened d.count d.tallest 2 (max d.most 2))
unfolding add_method
tracks_method {b} {d} r n u p t =
    let c = t.counts in
    let f = t.fine in
    record {
      counts =
          record {
            classes = c.classes;
            relationships = c.relationships;
            fields = c.fields;
            methods = omega (arith, c.methods);
            nodes = c.nodes;
            locals = refl;
            most = omega (arith, c.most);
            in_method = refl;
          };
      fine =
          record {
            opened = f.opened;
            variables = λ e. let g = f.variables (omega arith) in omega arith;
            newest = λ e y. let g = f.variables (omega arith) in omega arith;
            locals = λ y. omega arith;
          };
      same =
          λ m. let q = m.methods in
          let z = m.most in
          let g = f.variables (omega arith) in
          let h = t.same (record { classes = m.classes; relationships = m.relationships; fields = m.fields; methods = omega arith; nodes = m.nodes; count = m.count; most = omega arith }) in
          record {
            tables =
                record {
                  classes = h.tables.classes;
                  relationships = h.tables.relationships;
                  fields = h.tables.fields;
                  methods = show_push (ap (λ o. method_entry o r n) h.owner) h.tables.methods (omega arith);
                  variables = show_push (ap (λ k. variable_entry k u p) (show_length h.tables.methods)) h.tables.variables (omega arith);
                  nodes = h.tables.nodes;
                  blocks = h.tables.blocks;
                };
            opened = h.opened;
            owner = h.owner;
            tallest = h.tallest;
          };
    }

-- what a declaration does, where i says whether a method is being read
abbrev declared_where : Bool → TypeWord → ℕ → Draft → Draft
declared_where i u n d =
    let l = d.layout in
    draft
    (record {
      classes = l.classes;
      relationships = l.relationships;
      fields = cond i l.fields (field_entry l.owner u n ∷ l.fields);
      methods = l.methods;
      variables = cond i (variable_entry (pred (length l.methods)) u n ∷ l.variables) l.variables;
      nodes = l.nodes;
      blocks = l.blocks;
      owner = l.owner;
      in_method = l.in_method;
    })
    d.opened d.count d.tallest (cond i (d.locals + 1) d.locals) (cond i (max d.most (d.locals + 1)) d.most)

tracks_field : {b : Builder} {d : Draft} (u : TypeWord) (n : ℕ) → d.layout.in_method ≡ false → Tracks b d → Tracks (field_added b u n) (declared_where false u n d)
tracks_field {b} {d} u n e t =
    let c = t.counts in
    let f = t.fine in
    record {
      counts =
          record {
            classes = c.classes;
            relationships = c.relationships;
            fields = omega (arith, c.fields);
            methods = c.methods;
            nodes = c.nodes;
            locals = c.locals;
            most = c.most;
            in_method = c.in_method;
          };
      fine = record { opened = f.opened; variables = f.variables; newest = λ y z. never (sym e ∙ z); locals = λ z. never (sym e ∙ z) };
      same =
          λ m. let q = m.fields in
          let h = t.same (record { classes = m.classes; relationships = m.relationships; fields = omega arith; methods = m.methods; nodes = m.nodes; count = m.count; most = m.most }) in
          record {
            tables =
                record {
                  classes = h.tables.classes;
                  relationships = h.tables.relationships;
                  fields = show_push (ap (λ y. field_entry y u n) h.owner) h.tables.fields (omega arith);
                  methods = h.tables.methods;
                  variables = h.tables.variables;
                  nodes = h.tables.nodes;
                  blocks = h.tables.blocks;
                };
            opened = h.opened;
            owner = h.owner;
            tallest = h.tallest;
          };
    }

tracks_local : {b : Builder} {d : Draft} (u : TypeWord) (n : ℕ) → d.layout.in_method ≡ true → Tracks b d → Tracks (local_added b u n) (declared_where true u n d)
tracks_local {b} {d} u n e t =
    let c = t.counts in
    let f = t.fine in
    record {
      counts =
          record {
            classes = c.classes;
            relationships = c.relationships;
            fields = c.fields;
            methods = c.methods;
            nodes = c.nodes;
            locals = omega (arith, c.locals);
            most = omega (arith, c.most, c.locals);
            in_method = c.in_method;
          };
      fine =
          record {
            opened = f.opened;
            variables = λ y. let g = f.newest (omega arith) e in omega arith;
            newest = λ y z. let g = f.newest (omega arith) e in omega arith;
            locals = λ z. omega arith;
          };
      same =
          λ m. let q = m.methods in
          let w = m.most in
          let g = f.newest (omega arith) e in
          let h = t.same (record { classes = m.classes; relationships = m.relationships; fields = m.fields; methods = m.methods; nodes = m.nodes; count = m.count; most = omega arith }) in
          record {
            tables =
                record {
                  classes = h.tables.classes;
                  relationships = h.tables.relationships;
                  fields = h.tables.fields;
                  methods = h.tables.methods;
                  variables = show_push (ap (λ y. variable_entry y u n) (last_is h)) h.tables.variables (omega arith);
                  nodes = h.tables.nodes;
                  blocks = h.tables.blocks;
                };
            opened = h.opened;
            owner = h.owner;
            tallest = h.tallest;
          };
    }

tracks_declared : {b : Builder} {d : Draft} (i : Bool) (u : TypeWord) (n : ℕ) → d.layout.in_method ≡ i → Tracks b d → Tracks (declared_in i b u n) (declaring u n d)
unfolding add_declared
tracks_declared {b} {d} true u n e t = subst (λ j. Tracks (local_added b u n) (declared_where j u n d)) (sym e) (tracks_local u n e t)
tracks_declared {b} {d} false u n e t = subst (λ j. Tracks (field_added b u n) (declared_where j u n d)) (sym e) (tracks_field u n e t)

-- an event keeps the builder on the draft's track
pub tracks_event : {b : Builder} {l : Layout} {o : List Open} {c k v w : ℕ} (e : Event) → Tracks b (draft l o c k v w) → Tracks (built b e) (taken (draft l o c k v w) e)
unfolding built taken
tracks_event (event.Class n p) t = tracks_class n p t
tracks_event (event.Relationship n p x y) t = tracks_relationship n p x y t
tracks_event {b} (event.Declared u n) t = tracks_declared b.tally.in_method u n (sym t.counts.in_method) t
tracks_event (event.Method r n u p) t = tracks_method r n u p t
tracks_event (event.Variable p) t = tracks_leaf (shape.Variable p) p t
tracks_event (event.Literal v p) t = tracks_leaf (value_shape v) p t
tracks_event (event.New n p) t = tracks_leaf (shape.New n) p t
tracks_event (event.Pair x p) t = tracks_binary (doing_shape x p) p t
tracks_event (event.Member n p) t = tracks_unary (shape.Member n) p t
tracks_event (event.Call n p) t = tracks_binary (shape.Call n) p t
tracks_event (event.Instances n p) t = tracks_unary (shape.Instances n) p t
tracks_event (event.End e p) t = tracks_unary (side_shape e) p t
tracks_event event.Bracket t = tracks_replaced (λ x. heighten (raised x.height) x) (λ x. heighten (raised x.height) x) t (λ m x. refl)
tracks_event (event.Equal p) t = tracks_binary shape.Equal p t
tracks_event (event.ToVariable p) t = tracks_to_variable p t
tracks_event (event.ToMember n p) t = tracks_more (tracks_replaced (to_member n p) (to_member n p) t (λ m x. refl))
tracks_event {l = l} {o} {c} {k} {v} {w} event.Assigned t = tracks_assigned o l c k v w t
tracks_event (event.Acted p) t = tracks_statement shape.Action p t
tracks_event (event.Branch p) t = tracks_branch p t
tracks_event {b} {l} event.Otherwise t = tracks_replaced (parted (next_node b)) (parted (next l)) t (λ m x. ap (λ n. parted n x) (next_is (t.same m)))
tracks_event {l = l} {o} {c} {k} {v} {w} event.Joined t = tracks_joined o l c k v w t
tracks_event (event.Return p) t = tracks_statement shape.Return p t
