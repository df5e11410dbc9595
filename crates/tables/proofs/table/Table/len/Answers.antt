use Rattle.std.proofs.Common.{sym}
use Rattle.tables.proofs.Laws.{length-listed}
use Rattle.tables.proofs.table.Table.len.Goals as goal

pub returns : goal.returns
returns g c = sym (length-listed c.args.self.now)
