-- The tables of a program, from its tree.
use Rattle.std.specs.Prelude.{ℕ, pred, Bool, true, false, cond, List, [], ◌∷◌, reverse, length, Some, None, Option}
use Rattle.values.specs.declared.types.CellRow.{CellRow}
use Rattle.values.specs.declared.types.Lineage.TheVariants as lineage
use Rattle.grammar.specs.declared.event.TypeWord.{TypeWord}
use Rattle.grammar.specs.Events.{first_atom, first_item, first_action, type_of}
use Rattle.grammar.specs.Trees.{Literal, Pairing, End, Sort, place, Tree, Program, none, more, name, literal, paren, made, new, pair, member, call, instances, end, chain, bare, inside, alone, equal, assign, assigns, calls, creates, act, branch, boolean, set_of, row, declares, method_of, class, relationship}
use Rattle.grammar.specs.Trees as tree
use Rattle.outline.specs.declared.entry.Row.{Row}
use Rattle.outline.specs.declared.entry.Field.{Field}
use Rattle.outline.specs.declared.entry.Method.{Method}
use Rattle.outline.specs.declared.entry.Variable.{Variable}
use Rattle.outline.specs.declared.entry.Shape.{Shape}
use Rattle.outline.specs.declared.entry.Shape.TheVariants as shape
use Rattle.outline.specs.declared.entry.Node.{Node}
use Rattle.outline.specs.declared.entry.Block.{Block}
use Rattle.outline.specs.Contents.{Contents}

-- The tables so far, each newest first; the row that was declared last; and whether a method of it is being read, whose
-- variables come next.
pub record Layout : Type 0 where
  pub classes : List Row
  pub relationships : List Row
  pub fields : List Field
  pub methods : List Method
  pub variables : List Variable
  pub nodes : List Node
  pub blocks : List Block
  pub owner : CellRow
  pub in_method : Bool

abbrev pub row_entry : ℕ → ℕ → ℕ → ℕ → Row
row_entry n p a b = record { name = n; parent = p; first = a; second = b }

-- class and relationship rows are numbered from 1
abbrev pub class_row : ℕ → CellRow
class_row n = record { lineage = lineage.Class; number = n }

abbrev pub relationship_row : ℕ → CellRow
relationship_row n = record { lineage = lineage.Relationship; number = n }

abbrev pub node : Shape → ℕ → ℕ → Option ℕ → Option ℕ → Node
node s m p a b = record { shape = s; method = m; place = p; left = a; right = b }

abbrev pub block : ℕ → ℕ → ℕ → Block
block b o j = record { branch = b; otherwise = o; joined = j }

-- a class of this name under this parent
unfoldable pub add_class : ℕ → ℕ → Layout → Layout
add_class n p l =
    record {
      classes = row_entry n p 0 0 ∷ l.classes;
      relationships = l.relationships;
      fields = l.fields;
      methods = l.methods;
      variables = l.variables;
      nodes = l.nodes;
      blocks = l.blocks;
      owner = class_row (length (row_entry n p 0 0 ∷ l.classes));
      in_method = false;
    }

-- a relationship of this name under this parent, between these ends
unfoldable pub add_relationship : ℕ → ℕ → ℕ → ℕ → Layout → Layout
add_relationship n p a b l =
    record {
      classes = l.classes;
      relationships = row_entry n p a b ∷ l.relationships;
      fields = l.fields;
      methods = l.methods;
      variables = l.variables;
      nodes = l.nodes;
      blocks = l.blocks;
      owner = relationship_row (length (row_entry n p a b ∷ l.relationships));
      in_method = false;
    }

-- a field of the row, or a local of the method
abbrev pub field_entry : CellRow → TypeWord → ℕ → Field
field_entry o t n = record { owner = o; typed = t; name = n }

abbrev pub variable_entry : ℕ → TypeWord → ℕ → Variable
variable_entry m t n = record { method = m; typed = t; name = n }

unfoldable pub add_declared : TypeWord → ℕ → Layout → Layout
add_declared t n l =
    record {
      classes = l.classes;
      relationships = l.relationships;
      fields = cond l.in_method l.fields (field_entry l.owner t n ∷ l.fields);
      methods = l.methods;
      variables = cond l.in_method (variable_entry (pred (length l.methods)) t n ∷ l.variables) l.variables;
      nodes = l.nodes;
      blocks = l.blocks;
      owner = l.owner;
      in_method = l.in_method;
    }

abbrev pub method_entry : CellRow → TypeWord → ℕ → Method
method_entry o t n = record { owner = o; result = t; name = n }

-- a method with its result, name and parameter
unfoldable pub add_method : TypeWord → ℕ → TypeWord → ℕ → Layout → Layout
add_method r n t p l =
    record {
      classes = l.classes;
      relationships = l.relationships;
      fields = l.fields;
      methods = method_entry l.owner r n ∷ l.methods;
      variables = variable_entry (length l.methods) t p ∷ l.variables;
      nodes = l.nodes;
      blocks = l.blocks;
      owner = l.owner;
      in_method = true;
    }

-- a node with a place and the parts that it has
unfoldable pub add_node : Shape → ℕ → Option ℕ → Option ℕ → Layout → Layout
add_node s p a b l =
    record {
      classes = l.classes;
      relationships = l.relationships;
      fields = l.fields;
      methods = l.methods;
      variables = l.variables;
      nodes = node s (pred (length l.methods)) p a b ∷ l.nodes;
      blocks = l.blocks;
      owner = l.owner;
      in_method = l.in_method;
    }

unfoldable pub add_block : ℕ → ℕ → ℕ → Layout → Layout
add_block b o j l =
    record {
      classes = l.classes;
      relationships = l.relationships;
      fields = l.fields;
      methods = l.methods;
      variables = l.variables;
      nodes = l.nodes;
      blocks = block b o j ∷ l.blocks;
      owner = l.owner;
      in_method = l.in_method;
    }

-- how many nodes there are, which is the number of the next; and the number of the newest
abbrev pub next : Layout → ℕ
next l = length l.nodes

abbrev pub newest : Layout → ℕ
newest l = pred (length l.nodes)

abbrev pub literal_shape : Literal → Shape
literal_shape tree.true = shape.True
literal_shape tree.false = shape.False
literal_shape tree.null = shape.Null
literal_shape tree.this = shape.This

abbrev pub pairing_shape : Pairing → ℕ → Shape
pairing_shape tree.add n = shape.Add n
pairing_shape tree.rem n = shape.Rem n

abbrev pub end_shape : End → Shape
end_shape tree.from = shape.From
end_shape tree.to = shape.To

-- the assignment to a place whose parts are laid out in x; the value is node v
abbrev pub add_assigned : Tree place → Layout → ℕ → Layout → Layout
add_assigned (bare n) x v = add_node (shape.SetVariable n.place) n.place None (Some v)
add_assigned (inside i d n) x v = add_node (shape.SetMember n.place) (first_item i) (Some (newest x)) (Some v)

-- The tables after a tree, where they were l before it: parts before the whole, from the left. The suffixes of an item
-- have the place p of its first word.
unfoldable pub laid : {s : Sort} → ℕ → Tree s → Layout → Layout
laid p none l = l
laid p (more t ts) l = laid p ts (laid p t l)
laid p (name n) l = add_node (shape.Variable n.place) n.place None None l
laid p (literal v w) l = add_node (literal_shape v) w.place None None l
laid p (paren o e c) l = laid 0 e l
laid p (made c) l = laid 0 c l
laid p (new w n o c) l = add_node (shape.New n.place) w.place None None l
laid p (pair x n d w o a m b c) l =
    let a' = laid 0 a l in
    let b' = laid 0 b a' in
    add_node (pairing_shape x n.place) n.place (Some (newest a')) (Some (newest b')) b'
laid p (member d n) l = add_node (shape.Member n.place) p (Some (newest l)) None l
laid p (call d n o e c) l = let e' = laid 0 e l in add_node (shape.Call n.place) p (Some (newest l)) (Some (newest e')) e'
laid p (instances c n) l = add_node (shape.Instances n.place) p (Some (newest l)) None l
laid p (end f d w) l = add_node (end_shape f) p (Some (newest l)) None l
laid p (chain a ss) l = laid (first_atom a) ss (laid 0 a l)
laid p (bare n) l = l
laid p (inside i d n) l = laid 0 i l
laid p (alone i) l = laid 0 i l
laid p (equal i q j) l =
    let i' = laid 0 i l in
    let j' = laid 0 j i' in
    add_node shape.Equal (first_item i) (Some (newest i')) (Some (newest j')) j'
laid p (assign x q e) l =
    let x' = laid 0 x l in
    let e' = laid 0 e x' in
    add_assigned x x' (newest e') e'
laid p (assigns x q e) l =
    let x' = laid 0 x l in
    let e' = laid 0 e x' in
    add_assigned x x' (newest e') e'
laid p (calls i d n o e c) l =
    let i' = laid 0 i l in
    let e' = laid 0 e i' in
    add_node (shape.Call n.place) (first_item i) (Some (newest i')) (Some (newest e')) e'
laid p (creates c) l = laid 0 c l
laid p (act a s) l = let a' = laid 0 a l in add_node shape.Action (first_action a) (Some (newest a')) None a'
laid p (branch i o e c b ss f g h us k s) l =
    let e' = laid 0 e l in
    let b' = add_node shape.Branch i.place (Some (newest e')) None e' in
    let ss' = laid 0 ss b' in
    let us' = laid 0 us ss' in
    add_block (newest b') (next ss') (next us') us'
laid p (boolean w) l = l
laid p (set_of w o n c) l = l
laid p (row n) l = l
laid p (declares t n s) l = add_declared (type_of t) n.place l
laid p (method_of t n o u v c b vs ss r e s f) l =
    let m' = add_method (type_of t) n.place (type_of u) v.place l in
    let e' = laid 0 e (laid 0 ss (laid 0 vs m')) in
    add_node shape.Return r.place (Some (newest e')) None e'
laid p (class w n x q b vs ms f) l = laid 0 ms (laid 0 vs (add_class n.place q.place l))
laid p (relationship w n x q o y m z c b vs ms f) l =
    laid 0 ms (laid 0 vs (add_relationship n.place q.place y.place z.place l))

abbrev pub nothing : Layout
nothing =
    record {
      classes = [];
      relationships = [];
      fields = [];
      methods = [];
      variables = [];
      nodes = [];
      blocks = [];
      owner = class_row 0;
      in_method = false;
    }

-- in the order of the text
abbrev pub in_order : Layout → Contents
in_order l =
    record {
      classes = reverse l.classes;
      relationships = reverse l.relationships;
      fields = reverse l.fields;
      methods = reverse l.methods;
      variables = reverse l.variables;
      nodes = reverse l.nodes;
      blocks = reverse l.blocks;
    }

-- the tables of a program
unfoldable pub contents_of : Program → Contents
contents_of t = in_order (laid 0 t nothing)
