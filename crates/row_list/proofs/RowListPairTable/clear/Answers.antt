use Rattle.std.proofs.Common.{arith}
use Rattle.pairs.proofs.Rows.{apart_nil, all_small_nil}
use Rattle.row_list.proofs.RowListPairTable.clear.Goals as goal

pub invariant_of-self : goal.invariant_of-self
invariant_of-self c = record { whole = c.args.self.now.whole; few = omega arith; differ = apart_nil; little = all_small_nil }
