use Rattle.std.proofs.Common.{◌≡◌, arith}
use Rattle.cells.proofs.Renumbers.{moved_all}
use Rattle.cells.proofs.CellSet.renumbered.Goals as goal

pub returns-clause-members : goal.returns-clause-members
returns-clause-members c = let last : c.loop-c.c ≡ 128 = omega arith in moved_all c.args.self c.args.table.now c.loop-c.moved (rw last at c.loop-c.invariant.0)
