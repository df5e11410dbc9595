use Rattle.std.proofs.Common.{arith}
use lib.Count.{ones-le}
use Rattle.cells.proofs.Words.{size_words}
use Rattle.cells.proofs.CellSet.size.Goals as goal

pub overflow_add-result : goal.overflow_add-result
overflow_add-result c = omega (arith, ones-le 64 c.args.self.low (omega arith), ones-le 64 c.args.self.high (omega arith))

pub overflow_cast-result : goal.overflow_cast-result
overflow_cast-result c = omega (arith, ones-le 64 c.args.self.low (omega arith), ones-le 64 c.args.self.high (omega arith))

pub returns : goal.returns
returns c = size_words c.args.self (record { low_fits = omega arith; high_fits = omega arith })
