-- The types that are found are those that the rules give.
use Rattle.std.specs.Prelude.{◌≡◌, ℕ, ◌<◌, ◌≤◌, List, length, Some}
use Rattle.values.specs.declared.types.Ty.{Ty}
use Rattle.outline.specs.Contents.{Contents}
use Rattle.declarations.specs.Resolved.{Declared}
use Rattle.typing.specs.Faults.{NoFault, WellPlaced, WellTyped}
use Rattle.typing.specs.HasType.{HasType}
use Rattle.typing.specs.Passing.{type_at}

pub record TypeLaws (text : List ℕ) (k : Contents) (d : Declared) : Type 0 where
  -- a node that has a type is given it
  pub complete : (i : ℕ) (t : Ty) → HasType text k d i t → type_at text k d i ≡ Some t
  -- a node that is given a type has it
  pub sound : (i : ℕ) (t : Ty) → i < length k.nodes → type_at text k d i ≡ Some t → HasType text k d i t
  -- no node has two types
  pub single : (i : ℕ) (s t : Ty) → HasType text k d i s → HasType text k d i t → s ≡ t
  -- with parts that are expressions before their nodes, and no node at fault, every node has a type or is in order
  pub whole : (n : ℕ) → n ≤ length k.nodes → WellPlaced k n → NoFault text k d n → (i : ℕ) → i < n → WellTyped text k d i
