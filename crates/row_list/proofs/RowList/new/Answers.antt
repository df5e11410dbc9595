use Rattle.std.proofs.Common.{refl, arith}
use Rattle.pairs.proofs.Rows.{apart_nil, all_small_nil}
use Rattle.row_list.proofs.RowList.new.Goals as goal

pub invariant_of-result : goal.invariant_of-result
invariant_of-result c = record { whole = refl; few = omega arith; differ = apart_nil; little = all_small_nil }
