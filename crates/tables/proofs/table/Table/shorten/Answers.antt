use Rattle.std.proofs.Common.{refl, arith}
use Rattle.tables.proofs.Laws.{shortened_same}
use Rattle.tables.proofs.table.Table.shorten.Goals as goal

pub returns-then-self-gt0 : goal.returns-then-self-gt0
returns-then-self-gt0 g c = shortened_same _ c.args.self.now refl refl

pub returns-else-self-gt0 : goal.returns-else-self-gt0
returns-else-self-gt0 g c = shortened_same c.args.self.now c.args.self.now refl (omega arith)
