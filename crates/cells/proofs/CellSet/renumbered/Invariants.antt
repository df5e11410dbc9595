use Rattle.cells.specs.Members.{Words}
use Rattle.cells.proofs.Renumbers.{MovedBelow}
use Rattle.cells.proofs.CellSet.renumbered.Given as goal

abbrev pub invariant-loop-c : goal.invariant-loop-c
invariant-loop-c l = MovedBelow l.self l.table l.c l.moved × Words l.moved
