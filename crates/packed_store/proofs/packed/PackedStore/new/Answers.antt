use Rattle.std.proofs.Common.{refl}
use Rattle.packed_store.proofs.packed.PackedStore.new.Goals as goal

pub returns : goal.returns
returns c = refl
