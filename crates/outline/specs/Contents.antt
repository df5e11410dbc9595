-- What the tables of a program hold.
use Rattle.std.specs.Prelude.{List}
use Rattle.outline.specs.declared.entry.Row.{Row}
use Rattle.outline.specs.declared.entry.Field.{Field}
use Rattle.outline.specs.declared.entry.Method.{Method}
use Rattle.outline.specs.declared.entry.Variable.{Variable}
use Rattle.outline.specs.declared.entry.Node.{Node}
use Rattle.outline.specs.declared.entry.Block.{Block}
use Rattle.outline.specs.declared.contents.Outline.{Outline}
use Rattle.tables.specs.Listed.{listed}

-- each list in the order of the text
pub record Contents : Type 0 where
  pub classes : List Row
  pub relationships : List Row
  pub fields : List Field
  pub methods : List Method
  pub variables : List Variable
  pub nodes : List Node
  pub blocks : List Block

abbrev pub contents : Outline → Contents
contents o =
    record {
      classes = listed o.classes;
      relationships = listed o.relationships;
      fields = listed o.fields;
      methods = listed o.methods;
      variables = listed o.variables;
      nodes = listed o.nodes;
      blocks = listed o.blocks;
    }
