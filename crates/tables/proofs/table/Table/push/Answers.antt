use Rattle.std.proofs.Common.{refl, arith}
use Rattle.tables.proofs.Laws.{pushed_room, pushed_full}
use Rattle.tables.proofs.table.Table.push.Goals as goal

pub returns-then-self : goal.returns-then-self
returns-then-self g c = pushed_room _ c.args.self.now c.args.x (omega arith) refl refl

pub returns-else-self : goal.returns-else-self
returns-else-self g c = pushed_full c.args.self.now c.args.x (omega arith)
