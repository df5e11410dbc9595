use Rattle.std.proofs.Common.{◌≡◌, []}
use Rattle.tables.specs.Below.{pushed_below}
use Rattle.tables.specs.Listed.{listed}
use Rattle.tables.specs.Walks.{Computes}
use Rattle.tables.proofs.table.Table.map.Given as goal

abbrev pub invariant-loop-i : goal.invariant-loop-i
invariant-loop-i g l = (t : _) → Computes g.F.Fn l.f (listed l.self) t → listed l.made ≡ pushed_below g.row.N t l.i []
