-- The builder before the first event, and the limits that its counts pass.
use Rattle.std.specs.Prelude.{◌≡◌, Bool, false, [], Option, nat_lt}
use Rattle.std.specs.List.{find}
use Rattle.tables.specs.Listed.{listed}
use Rattle.outline.specs.declared.builder.Tally.{Tally}
use Rattle.outline.specs.declared.builder.Builder.{Builder}
use Rattle.outline.specs.declared.limit.TheConstants.{LIMITS}
use Rattle.outline.specs.declared.limit.Limit.{Limit}
use Rattle.outline.specs.declared.limit.Limit.TheVariants as limit
use Rattle.outline.specs.Layout.{class_row}

abbrev pub nought : Tally
nought =
    record {
      classes = 0;
      relationships = 0;
      fields = 0;
      methods = 0;
      locals = 0;
      most = 0;
      nodes = 0;
      tallest = 0;
      owner = class_row 0;
      in_method = false;
    }

pub record Empty (b : Builder) : Type 0 where
  pub classes : listed b.outline.classes ≡ []
  pub relationships : listed b.outline.relationships ≡ []
  pub fields : listed b.outline.fields ≡ []
  pub methods : listed b.outline.methods ≡ []
  pub variables : listed b.outline.variables ≡ []
  pub nodes : listed b.outline.nodes ≡ []
  pub blocks : listed b.outline.blocks ≡ []
  pub opened : listed b.opened ≡ []
  pub tally : b.tally ≡ nought

-- the counts pass this limit
abbrev pub passes : Tally → Limit → Bool
passes t limit.Classes = nat_lt 31 t.classes
passes t limit.Relationships = nat_lt 31 t.relationships
passes t limit.Fields = nat_lt 128 t.fields
passes t limit.Methods = nat_lt 64 t.methods
passes t limit.Variables = nat_lt 12 t.most
passes t limit.Nodes = nat_lt 2048 t.nodes
passes t limit.Height = nat_lt 16 t.tallest

abbrev pub limit_of : Tally → Option Limit
limit_of t = find (passes t) LIMITS
