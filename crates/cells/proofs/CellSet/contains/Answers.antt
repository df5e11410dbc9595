use Rattle.std.proofs.Common.{arith}
use Rattle.cells.proofs.Meeting.{low_told, high_told}
use Rattle.cells.proofs.CellSet.contains.Goals as goal

pub returns-then-self-low-ne0 : goal.returns-then-self-low-ne0
returns-then-self-low-ne0 c = low_told c.args.self c.only-low.result c.args.cell c.only-low.ensures.members (omega arith) c.if-self-low-ne0.true

pub returns-else-self-low-ne0 : goal.returns-else-self-low-ne0
returns-else-self-low-ne0 c = high_told c.args.self c.only-low.result c.args.cell c.only-low.ensures.members (omega arith) c.if-self-low-ne0.false
