use Rattle.std.proofs.Common.{◌≡◌, take, replicate}
use Rattle.values.specs.declared.value.Value.TheVariants.{Null}
use Rattle.packed_store.proofs.packed.calls.PackedStoreStore.clear.Given as goal

-- as many slots are filled as before, and those before this one are null
abbrev pub invariant-loop-slot : goal.invariant-loop-slot
invariant-loop-slot l = (l.self.filled ≡ l.fn.self.filled) × (take l.slot l.self.slots ≡ replicate l.slot Null)
