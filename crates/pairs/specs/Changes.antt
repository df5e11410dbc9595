-- What a pair table's calls do to its rows, and what its questions answer.
use Rattle.std.specs.Prelude.{◌≡◌, ℕ, ◌+◌, ◌<◌, true, cond, List, length, is_some, Some, None, Ok, Err, Option, Result, nat_le}
use Rattle.cells.specs.Members.{has, Words}
use Rattle.cells.specs.declared.CellSet.{CellSet}
use Rattle.pairs.specs.declared.row.Row.{Row}
use Rattle.pairs.specs.declared.row.PutRefusal.{PutRefusal}
use Rattle.pairs.specs.Rows.{alike, in_force, Judged, Small}

-- one row more: its instance is in force for its relationship and cells, and all else is as before
pub record Added (before : List Row) (row : Row) (after : List Row) : Type 0 where
  pub found : (r f t : ℕ) → in_force after r f t ≡ cond (alike row.relationship row.from row.to r f t) (Some row.instance) (in_force before r f t)
  pub count : length after ≡ length before + 1

-- what is left after the answer of put: one row more, or after a refusal the same rows
abbrev pub Left : List Row → Row → Result (Unit {0}) PutRefusal → List Row → Type 0
Left before row (Ok _) after = Added before row after
Left before row (Err e) after = after ≡ before

-- put into a table of that limit
pub record Put (limit : ℕ) (before : List Row) (row : Row) (answer : Result (Unit {0}) PutRefusal) (after : List Row) : Type 0 where
  pub judged : Judged row (in_force before row.relationship row.from row.to) (nat_le limit (length before)) answer
  pub left : Left before row answer after

-- drop answers the instance in force, which is so no more, and all else is as before
pub record Dropped (before : List Row) (relationship from to : ℕ) (answer : Option ℕ) (after : List Row) : Type 0 where
  pub told : answer ≡ in_force before relationship from to
  pub rest : (r f t : ℕ) → in_force after r f t ≡ cond (alike relationship from to r f t) None (in_force before r f t)
  pub count : length after + cond (is_some answer) 1 0 ≡ length before
  pub same : answer ≡ None → after ≡ before

-- the cells to which the relationship leads from a cell
pub record ToCells (rows : List Row) (relationship from : ℕ) (answer : CellSet) : Type 0 where
  pub members : (t : ℕ) → has answer t ≡ is_some (in_force rows relationship from t)
  pub words : Words answer

-- the instances in force for the relationship and a from cell
pub record Instances (rows : List Row) (relationship from : ℕ) (answer : CellSet) : Type 0 where
  pub goes : (t i : ℕ) → in_force rows relationship from t ≡ Some i → has answer i ≡ true
  pub comes : (i : ℕ) → has answer i ≡ true → (t : ℕ) × (in_force rows relationship from t ≡ Some i)
  pub words : Words answer

-- a row put in and read back: the answer is the instance in force afterwards, which is the row's own if it was put in
pub record ReadBack (limit : ℕ) (before : List Row) (row : Row) (answer : Option ℕ) (after : List Row) : Type 0 where
  pub puts : (said : Result (Unit {0}) PutRefusal) × Put limit before row said after
  pub read : answer ≡ in_force after row.relationship row.from row.to
  pub own : Small row → in_force before row.relationship row.from row.to ≡ None → length before < limit → answer ≡ Some row.instance
