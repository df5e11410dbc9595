use Rattle.std.proofs.Common.{◌<◌, refl, ap, arith, length-set}
use Rattle.packed_store.specs.declared.packed.Span.{Span}
use Rattle.packed_store.specs.Packed.{packed}
use Rattle.packed_store.specs.PackedSpans.{used_cells, used_slots}
use Rattle.packed_store.proofs.Spans.{more_sum, more_small, more_begins, more_blank, more_cells}
use Rattle.packed_store.proofs.packed.calls.PackedStoreStore.make.Goals as goal

pub invariant_of-self : goal.invariant_of-self
invariant_of-self c =
    let s = c.args.self.now in
    let q : Span = record { head = c.args.head; start = s.filled; count = c.args.fields } in
    let small = c.in_ok-cell.ensures.fields in
    let cells = c.in_ok-cell.ensures.cells in
    let slots = c.in_ok-cell.ensures.slots in
    let n = used_cells s in
    let k = used_slots s in
    let h : s.used < 128 = omega arith in
    record {
      whole = simp length-set s.whole;
      few = omega arith;
      room = s.room;
      within = omega arith;
      sum = more_sum s q refl small h;
      small = more_small s q refl small h;
      begins = more_begins s q refl small h;
      blank = more_blank s c.args.fields;
    }

pub returns-clause-after : goal.returns-clause-after
returns-clause-after c =
    let s = c.args.self.now in
    let q : Span = record { head = c.args.head; start = s.filled; count = c.args.fields } in
    let small = c.in_ok-cell.ensures.fields in
    let cells = c.in_ok-cell.ensures.cells in
    let slots = c.in_ok-cell.ensures.slots in
    let n = used_cells s in
    let k = used_slots s in
    ap packed (more_cells s q refl small (omega arith) (omega arith))
