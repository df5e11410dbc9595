-- What the tables of a program hold.
use Rattle.std.specs.Prelude.{ℕ, ◌-◌, Bool, List, length, codes}
use Rattle.std.specs.List.{slice_get}
use Rattle.words.specs.Names.{name_at, is_name}
use Rattle.values.specs.declared.types.CellRow.{CellRow}
use Rattle.values.specs.declared.types.Lineage.TheVariants.{Class}
use Rattle.tables.specs.Below.{first_below, tabulated}
use Rattle.tables.specs.Listed.{listed}
use Rattle.outline.specs.declared.entry.Block.{Block}
use Rattle.outline.specs.Contents.{Contents}
use Rattle.declarations.specs.Resolved.{Declared, declared, declared_of}
use Rattle.tables.specs.Items.{given, holds}
use Rattle.declarations.specs.Rows.{row}
use Rattle.typing.specs.declared.step.Instruction.{Instruction}
use Rattle.typing.specs.Passing.{instruction_at}
use Rattle.program.specs.declared.code.Code.{Code}
use Rattle.program.specs.declared.code.Dispatch.{Dispatch}
use Rattle.program.specs.declared.code.Counts.{Counts}

-- each list in the order of the text
pub record Model : Type 0 where
  pub declared : Declared
  pub owners : List CellRow
  pub dispatches : List Dispatch
  pub variables : List ℕ
  pub nodes : List Instruction
  pub blocks : List Block
  pub main : ℕ

unfoldable pub model : Code → Model
model c =
    record {
      declared = declared c.declarations;
      owners = listed c.owners;
      dispatches = listed c.dispatches;
      variables = listed c.variables;
      nodes = listed c.nodes;
      blocks = listed c.blocks;
      main = c.main;
    }

-- the row that declares field i
abbrev pub owner_of : Contents → ℕ → CellRow
owner_of k i = given (slice_get k.fields i) (row Class 0) (λ f. f.owner)

-- method j has this name
abbrev pub method_called : List ℕ → Contents → List ℕ → ℕ → Bool
method_called text k name j = holds (slice_get k.methods j) (λ m. is_name text m.name name)

-- the number of the first method of this name; 0 where there is none
abbrev pub first_called : List ℕ → Contents → List ℕ → ℕ
first_called text k name = given (first_below (method_called text k name) (length k.methods)) 0 (λ j. j)

abbrev pub dispatch : CellRow → ℕ → Dispatch
dispatch r s = record { owner = r; selector = s }

-- where a call finds method i
abbrev pub dispatch_of : List ℕ → Contents → ℕ → Dispatch
dispatch_of text k i = given (slice_get k.methods i) (dispatch (row Class 0) 0) (λ m. dispatch m.owner (first_called text k (name_at text m.name)))

-- the method of variable i
abbrev pub method_of_variable : Contents → ℕ → ℕ
method_of_variable k i = given (slice_get k.variables i) 0 (λ v. v.method)

-- the program of a text with these tables
unfoldable pub model_of : List ℕ → Contents → Model
model_of text k =
    record {
      declared = declared_of text k;
      owners = tabulated (owner_of k) (length k.fields);
      dispatches = tabulated (dispatch_of text k) (length k.methods);
      variables = tabulated (method_of_variable k) (length k.variables);
      nodes = tabulated (instruction_at text k (declared_of text k)) (length k.nodes);
      blocks = k.blocks;
      main = first_called text k (codes "main");
    }

-- how much of each kind a program has, the roots left out
abbrev pub counts_of : Model → Counts
counts_of m =
    record {
      classes = length m.declared.ancestry.classes - 1;
      relationships = length m.declared.ancestry.relationships - 1;
      fields = length m.owners;
      methods = length m.dispatches;
      nodes = length m.nodes;
    }
