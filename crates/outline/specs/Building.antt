-- What each event does to the builder.
use Rattle.std.specs.Prelude.{ℕ, ◌+◌, ◌-◌, min, max, Bool, true, false, length, Some, None, Option, unwrap_or}
use Rattle.grammar.specs.declared.event.TypeWord.{TypeWord}
use Rattle.grammar.specs.declared.event.Event.{Event}
use Rattle.grammar.specs.declared.event.Event.TheVariants as event
use Rattle.values.specs.declared.types.Lineage.{Lineage}
use Rattle.tables.specs.Listed.{listed, pushed, shortened, newest}
use Rattle.outline.specs.declared.entry.Shape.{Shape}
use Rattle.outline.specs.declared.entry.Shape.TheVariants as shape
use Rattle.outline.specs.declared.builder.pending.Pending.{Pending}
use Rattle.outline.specs.declared.builder.pending.Pending.TheVariants as pending
use Rattle.outline.specs.declared.builder.pending.Open.{Open}
use Rattle.outline.specs.declared.contents.Outline.{Outline}
use Rattle.outline.specs.declared.builder.Tally.{Tally}
use Rattle.outline.specs.declared.builder.Builder.{Builder}
use Rattle.outline.specs.Layout.{row_entry, class_row, relationship_row, field_entry, variable_entry, method_entry, node, block}
use Rattle.outline.specs.Drafts.{held, value_of, to_variable, to_member, heighten, in_first, parted, raised, value_shape, doing_shape, side_shape}

abbrev pub building : Outline → Builder → Builder
building o b = record { outline = o; opened = b.opened; tally = b.tally }

abbrev pub counting : Tally → Builder → Builder
counting t b = record { outline = b.outline; opened = b.opened; tally = t }

abbrev pub opening : Builder → Open → Builder
opening b x = record { outline = b.outline; opened = pushed b.opened x; tally = b.tally }

abbrev pub closing : Builder → Builder
closing b = record { outline = b.outline; opened = shortened b.opened; tally = b.tally }

abbrev pub in_row : Lineage → ℕ → Tally → Tally
in_row l n t =
    record {
      classes = t.classes;
      relationships = t.relationships;
      fields = t.fields;
      methods = t.methods;
      locals = t.locals;
      most = t.most;
      nodes = t.nodes;
      tallest = t.tallest;
      owner = record { lineage = l; number = n };
      in_method = false;
    }

abbrev pub in_class : Tally → Tally
in_class t =
    record {
      classes = raised t.classes;
      relationships = t.relationships;
      fields = t.fields;
      methods = t.methods;
      locals = t.locals;
      most = t.most;
      nodes = t.nodes;
      tallest = t.tallest;
      owner = class_row (raised t.classes);
      in_method = false;
    }

abbrev pub in_relationship : Tally → Tally
in_relationship t =
    record {
      classes = t.classes;
      relationships = raised t.relationships;
      fields = t.fields;
      methods = t.methods;
      locals = t.locals;
      most = t.most;
      nodes = t.nodes;
      tallest = t.tallest;
      owner = relationship_row (raised t.relationships);
      in_method = false;
    }

abbrev pub with_field : Tally → Tally
with_field t =
    record {
      classes = t.classes;
      relationships = t.relationships;
      fields = raised t.fields;
      methods = t.methods;
      locals = t.locals;
      most = t.most;
      nodes = t.nodes;
      tallest = t.tallest;
      owner = t.owner;
      in_method = t.in_method;
    }

abbrev pub with_local : Tally → Tally
with_local t =
    record {
      classes = t.classes;
      relationships = t.relationships;
      fields = t.fields;
      methods = t.methods;
      locals = raised t.locals;
      most = max t.most (raised t.locals);
      nodes = t.nodes;
      tallest = t.tallest;
      owner = t.owner;
      in_method = t.in_method;
    }

abbrev pub with_method : Tally → Tally
with_method t =
    record {
      classes = t.classes;
      relationships = t.relationships;
      fields = t.fields;
      methods = raised t.methods;
      locals = 2;
      most = max t.most 2;
      nodes = t.nodes;
      tallest = t.tallest;
      owner = t.owner;
      in_method = true;
    }

abbrev pub with_node : Tally → Tally
with_node t =
    record {
      classes = t.classes;
      relationships = t.relationships;
      fields = t.fields;
      methods = t.methods;
      locals = t.locals;
      most = t.most;
      nodes = min (t.nodes + 1) 65535;
      tallest = t.tallest;
      owner = t.owner;
      in_method = t.in_method;
    }

abbrev pub with_height : ℕ → Tally → Tally
with_height h t =
    record {
      classes = t.classes;
      relationships = t.relationships;
      fields = t.fields;
      methods = t.methods;
      locals = t.locals;
      most = t.most;
      nodes = t.nodes;
      tallest = max t.tallest h;
      owner = t.owner;
      in_method = t.in_method;
    }

abbrev pub begun : Builder → Lineage → ℕ → Builder
begun b l n = counting (in_row l n b.tally) b

abbrev pub class_added : Builder → ℕ → ℕ → Builder
class_added b n p =
    record {
      outline =
          record {
            classes = pushed b.outline.classes (row_entry n p 0 0);
            relationships = b.outline.relationships;
            fields = b.outline.fields;
            methods = b.outline.methods;
            variables = b.outline.variables;
            nodes = b.outline.nodes;
            blocks = b.outline.blocks;
          };
      opened = b.opened;
      tally = in_class b.tally;
    }

abbrev pub relationship_added : Builder → ℕ → ℕ → ℕ → ℕ → Builder
relationship_added b n p x y =
    record {
      outline =
          record {
            classes = b.outline.classes;
            relationships = pushed b.outline.relationships (row_entry n p x y);
            fields = b.outline.fields;
            methods = b.outline.methods;
            variables = b.outline.variables;
            nodes = b.outline.nodes;
            blocks = b.outline.blocks;
          };
      opened = b.opened;
      tally = in_relationship b.tally;
    }

abbrev pub field_added : Builder → TypeWord → ℕ → Builder
field_added b t n =
    record {
      outline =
          record {
            classes = b.outline.classes;
            relationships = b.outline.relationships;
            fields = pushed b.outline.fields (field_entry b.tally.owner t n);
            methods = b.outline.methods;
            variables = b.outline.variables;
            nodes = b.outline.nodes;
            blocks = b.outline.blocks;
          };
      opened = b.opened;
      tally = with_field b.tally;
    }

abbrev pub variable_added : ℕ → TypeWord → ℕ → Outline → Outline
variable_added m t n o =
    record {
      classes = o.classes;
      relationships = o.relationships;
      fields = o.fields;
      methods = o.methods;
      variables = pushed o.variables (variable_entry m t n);
      nodes = o.nodes;
      blocks = o.blocks;
    }

abbrev pub last_method : Outline → ℕ
last_method o = length (listed o.methods) - 1

abbrev pub local_added : Builder → TypeWord → ℕ → Builder
local_added b t n =
    record {
      outline = variable_added (last_method b.outline) t n b.outline;
      opened = b.opened;
      tally = with_local b.tally;
    }

abbrev pub method_added : Builder → TypeWord → ℕ → TypeWord → ℕ → Builder
method_added b r n t p =
    record {
      outline =
          record {
            classes = b.outline.classes;
            relationships = b.outline.relationships;
            fields = b.outline.fields;
            methods = pushed b.outline.methods (method_entry b.tally.owner r n);
            variables = pushed b.outline.variables (variable_entry (length (listed b.outline.methods)) t p);
            nodes = b.outline.nodes;
            blocks = b.outline.blocks;
          };
      opened = b.opened;
      tally = with_method b.tally;
    }

abbrev pub node_added : Builder → Shape → ℕ → Option ℕ → Option ℕ → Builder
node_added b s p x y =
    record {
      outline =
          record {
            classes = b.outline.classes;
            relationships = b.outline.relationships;
            fields = b.outline.fields;
            methods = b.outline.methods;
            variables = b.outline.variables;
            nodes = pushed b.outline.nodes (node s (last_method b.outline) p x y);
            blocks = b.outline.blocks;
          };
      opened = b.opened;
      tally = b.tally;
    }

abbrev pub block_added : Builder → ℕ → ℕ → Builder
block_added b n o =
    record {
      outline =
          record {
            classes = b.outline.classes;
            relationships = b.outline.relationships;
            fields = b.outline.fields;
            methods = b.outline.methods;
            variables = b.outline.variables;
            nodes = b.outline.nodes;
            blocks = pushed b.outline.blocks (block n o (length (listed b.outline.nodes)));
          };
      opened = b.opened;
      tally = b.tally;
    }

abbrev pub next_node : Builder → ℕ
next_node b = length (listed b.outline.nodes)

abbrev pub top_of : Builder → Open
top_of b = unwrap_or (newest (listed b.opened)) (held 0 0)

abbrev pub counted : Builder → Builder
counted b = counting (with_node b.tally) b

abbrev pub leaf_added : Builder → Shape → ℕ → Builder
leaf_added b s p = counted (opening (node_added b s p None None) (held (next_node b) 1))

abbrev pub unary_added : Builder → Shape → ℕ → Builder
unary_added b s p =
    counted (opening (node_added (closing b) s p (value_of (top_of b).pending) None) (held (next_node b) (raised (top_of b).height)))

abbrev pub binary_added : Builder → Shape → ℕ → Builder
binary_added b s p =
    counted (opening (node_added (closing (closing b)) s p (value_of (top_of (closing b)).pending) (value_of (top_of b).pending))
    (held (next_node b) (raised (max (top_of (closing b)).height (top_of b).height))))

-- the topmost is replaced, if there is one
abbrev pub replaced : Option Open → (Open → Open) → Builder → Builder
replaced None f b = b
replaced (Some x) f b = opening (closing b) (f x)

abbrev pub bracketed : Builder → Builder
bracketed b = replaced (newest (listed b.opened)) (λ x. heighten (raised x.height) x) b

abbrev pub variable_targeted : Builder → ℕ → Builder
variable_targeted b p = counted (opening b (to_variable p))

abbrev pub member_targeted : Builder → ℕ → ℕ → Builder
member_targeted b n p = counted (replaced (newest (listed b.opened)) (to_member n p) b)

abbrev pub assigned_in : Pending → ℕ → Open → Builder → Builder
assigned_in (pending.Assignment s p a) h e b =
    opening (node_added b s p a (value_of e.pending)) (held (next_node b) (raised (max h e.height)))
assigned_in x h e b = b

abbrev pub assigned_at : Builder → Builder
assigned_at b = assigned_in (top_of (closing b)).pending (top_of (closing b)).height (top_of b) (closing (closing b))

abbrev pub settled_at : Option Open → ℕ → Builder → Builder
settled_at None h b = counting (with_height h b.tally) b
settled_at (Some x) h b = opening (closing b) (heighten (max x.height h) x)

abbrev pub settling : Builder → ℕ → Builder
settling b h = settled_at (newest (listed b.opened)) h b

abbrev pub statement_added : Builder → Shape → ℕ → Builder
statement_added b s p = settling (counted (node_added (closing b) s p (value_of (top_of b).pending) None)) (raised (top_of b).height)

abbrev pub branch_added : Builder → ℕ → Builder
branch_added b p =
    counted (opening (node_added (closing b) shape.Branch p (value_of (top_of b).pending) None) (in_first (next_node b) (top_of b).height))

abbrev pub parting : Builder → Builder
parting b = replaced (newest (listed b.opened)) (parted (next_node b)) b

abbrev pub joined_in : Pending → ℕ → Builder → Builder
joined_in (pending.Second n o) h b = settling (block_added b n o) (raised h)
joined_in x h b = b

abbrev pub joined_at : Builder → Builder
joined_at b = joined_in (top_of b).pending (top_of b).height (closing b)

abbrev pub declared_in : Bool → Builder → TypeWord → ℕ → Builder
declared_in true b t n = local_added b t n
declared_in false b t n = field_added b t n

unfoldable pub built : Builder → Event → Builder
built b (event.Class n p) = class_added b n p
built b (event.Relationship n p x y) = relationship_added b n p x y
built b (event.Declared t n) = declared_in b.tally.in_method b t n
built b (event.Method r n t p) = method_added b r n t p
built b (event.Variable p) = leaf_added b (shape.Variable p) p
built b (event.Literal v p) = leaf_added b (value_shape v) p
built b (event.New n p) = leaf_added b (shape.New n) p
built b (event.Pair x p) = binary_added b (doing_shape x p) p
built b (event.Member n p) = unary_added b (shape.Member n) p
built b (event.Call n p) = binary_added b (shape.Call n) p
built b (event.Instances n p) = unary_added b (shape.Instances n) p
built b (event.End e p) = unary_added b (side_shape e) p
built b event.Bracket = bracketed b
built b (event.Equal p) = binary_added b shape.Equal p
built b (event.ToVariable p) = variable_targeted b p
built b (event.ToMember n p) = member_targeted b n p
built b event.Assigned = assigned_at b
built b (event.Acted p) = statement_added b shape.Action p
built b (event.Branch p) = branch_added b p
built b event.Otherwise = parting b
built b event.Joined = joined_at b
built b (event.Return p) = statement_added b shape.Return p
