use Rattle.std.proofs.Common.{ap, length-set}
use Rattle.store.specs.Model.{done}
use Rattle.packed_store.specs.Packed.{packed}
use Rattle.packed_store.proofs.Spans.{slot_reads, slot_blank, slot_cells}
use Rattle.packed_store.proofs.packed.calls.PackedStoreStore.put.Goals as goal

pub invariant_of-self : goal.invariant_of-self
invariant_of-self c =
    let s = c.args.self.now in
    record {
      whole = s.whole;
      few = s.few;
      room = simp length-set s.room;
      within = s.within;
      sum = s.sum;
      small = s.small;
      begins = s.begins;
      blank = slot_blank s _ _ _ c.in_ok-slot.ensures.place c.args.value;
    }

pub returns-clause-answer : goal.returns-clause-answer
returns-clause-answer c = ap done (slot_reads c.args.self.now _ _ _ c.in_ok-slot.ensures.place c.args.value)

pub returns-clause-after : goal.returns-clause-after
returns-clause-after c = ap packed (slot_cells c.args.self.now _ _ _ c.in_ok-slot.ensures.place c.args.value)
