use Rattle.std.proofs.Common.{◌≡◌, ◌<◌, refl, arith, length-set}
use Rattle.values.specs.declared.value.Value.TheVariants.{Null}
use Rattle.packed_store.proofs.Spans.{filled_blank, nulled_more, nulled_all}
use Rattle.packed_store.proofs.packed.calls.PackedStoreStore.clear.Goals as goal

pub loop-slot-init : goal.loop-slot-init
loop-slot-init c = (refl, refl)

pub invariant_of-self : goal.invariant_of-self
invariant_of-self c =
    let s = c.loop-slot.self in
    let i = c.loop-slot.invariant in
    let h : c.loop-slot.slot < s.filled = let e = i.0 in omega arith in
    record {
      whole = s.whole;
      few = s.few;
      room = simp length-set s.room;
      within = s.within;
      sum = s.sum;
      small = s.small;
      begins = s.begins;
      blank = filled_blank s _ Null h;
    }

pub loop-slot-preserved : goal.loop-slot-preserved
loop-slot-preserved c =
    let s = c.loop-slot.self in
    let i = c.loop-slot.invariant in
    let h : c.loop-slot.slot < s.filled = let e = i.0 in omega arith in
    (i.0, nulled_more s _ h i.1)

pub invariant_of-self-2 : goal.invariant_of-self-2
invariant_of-self-2 c =
    let s = c.loop-slot.self in
    let i = c.loop-slot.invariant in
    let e : c.loop-slot.slot ≡ s.filled = let f = i.0 in omega arith in
    record {
      whole = s.whole;
      few = omega arith;
      room = s.room;
      within = omega arith;
      sum = refl;
      small = λ k d h. absurd (omega arith);
      begins = λ k d h. absurd (omega arith);
      blank = nulled_all s _ e i.1;
    }
