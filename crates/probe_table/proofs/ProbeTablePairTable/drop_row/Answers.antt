use Rattle.std.proofs.Common.{refl, ap, ◌∙◌, arith, length-set}
use Rattle.pairs.proofs.Rows.{alike_self}
use Rattle.pairs.proofs.Changed.{dropped}
use Rattle.probe_table.specs.declared.place.Place.TheVariants.{Dropped}
use Rattle.probe_table.specs.Probing.{is_free}
use Rattle.probe_table.proofs.Probing.{gone_place, in_force_place, used_reset, reached_dropped}
use Rattle.probe_table.proofs.ProbeTablePairTable.drop_row.Goals as goal

pub overflow_sub-self : goal.overflow_sub-self
overflow_sub-self c =
    let self = c.args.self.now in
    let there = c.in_ok-place.ensures in
    omega (arith, (gone_place self.places c.in_ok-place.place (omega arith) _ there.1 self.differ self.little).count, self.counted)

pub invariant_of-self : goal.invariant_of-self
invariant_of-self c =
    let self = c.args.self.now in
    let there = c.in_ok-place.ensures in
    let goes = gone_place self.places c.in_ok-place.place (omega arith) _ there.1 self.differ self.little in
    record {
      whole = length-set self.places c.in_ok-place.place _ ∙ self.whole;
      counted = omega (arith, goes.count, self.counted);
      few = omega arith;
      fresh = omega arith;
      roomy = omega (arith, used_reset self.places c.in_ok-place.place Dropped (omega arith) (ap is_free there.1), self.roomy);
      differ = goes.differ;
      little = goes.little;
      reached = reached_dropped self.places self.whole self.reached c.in_ok-place.place (omega arith);
    }

pub returns : goal.returns
returns c =
    let self = c.args.self.now in
    let there = c.in_ok-place.ensures in
    let joined = alike_self c.args.link.relationship c.args.link.from c.args.link.to in
    record {
      drops = dropped _ _ _ c.args.link.relationship c.args.link.from c.args.link.to
          (gone_place self.places c.in_ok-place.place (omega arith) _ there.1 self.differ self.little) joined
          (in_force_place self.places c.in_ok-place.place (omega arith) _ there.1 self.differ c.args.link.relationship c.args.link.from c.args.link.to joined);
      fixed = refl;
    }
