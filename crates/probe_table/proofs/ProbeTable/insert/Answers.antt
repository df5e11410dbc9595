use Rattle.std.proofs.Common.{refl, ◌∙◌, arith, length-set, subst}
use Rattle.probe_table.specs.declared.place.Place.TheVariants.{Held}
use Rattle.probe_table.specs.Probing.{Open}
use Rattle.probe_table.proofs.Probing.{grown_place, used_set, reached_put}
use Rattle.probe_table.proofs.ProbeTable.insert.Goals as goal

pub offset_bounds-self-place : goal.offset_bounds-self-place
offset_bounds-self-place c = omega arith

pub bounds-self-place : goal.bounds-self-place
bounds-self-place c = omega arith

pub invariant_of-self : goal.invariant_of-self
invariant_of-self c =
    let self = c.args.self.now in
    let to = subst (λ l. Open self.places l.relationship l.from l.to c.room-place.result) c.link.ensures c.room-place.ensures in
    let more = grown_place self.places c.room-place.result (omega arith) c.args.row to.vacant c.requires.absent self.differ self.little c.requires.fit in
    record {
      whole = length-set self.places c.room-place.result _ ∙ self.whole;
      counted = omega (arith, more.added.count);
      few = omega arith;
      fresh = omega arith;
      roomy = omega (arith, used_set self.places c.room-place.result (Held c.args.row), self.roomy);
      differ = more.differ;
      little = more.little;
      reached = reached_put self.places self.whole self.reached c.args.row c.room-place.result to;
    }

pub returns : goal.returns
returns c =
    let self = c.args.self.now in
    let to = subst (λ l. Open self.places l.relationship l.from l.to c.room-place.result) c.link.ensures c.room-place.ensures in
    record {
      added = (grown_place self.places c.room-place.result (omega arith) c.args.row to.vacant c.requires.absent self.differ self.little c.requires.fit).added;
      spends = refl;
    }
