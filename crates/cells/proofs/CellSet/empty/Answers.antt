use Rattle.std.proofs.Common.{refl}
use Rattle.cells.specs.Members.{none}
use Rattle.cells.proofs.Laws.{has_none, words_none}
use Rattle.cells.proofs.CellSet.empty.Goals as goal

pub returns : goal.returns
unfolding none
returns c = record { value = refl; members = has_none; words = words_none }
