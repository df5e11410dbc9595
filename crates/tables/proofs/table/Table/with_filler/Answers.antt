use Rattle.std.proofs.Common.{refl, arith}
use lib.ListN.{length-replicate}
use Rattle.tables.specs.Listed.{listed}
use Rattle.tables.proofs.table.Table.with_filler.Goals as goal

pub invariant_of-result : goal.invariant_of-result
invariant_of-result g c = record { whole = length-replicate g.row.N c.args.fill; few = omega arith }

pub returns : goal.returns
unfolding listed
returns g c = refl
