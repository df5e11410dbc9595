use Rattle.std.proofs.Common.{refl, ◌∙◌, arith, length-set}
use Rattle.row_list.specs.Places.{row_at}
use Rattle.pairs.proofs.Changed.{dropped}
use Rattle.row_list.proofs.Places.{gone_placed, in_force_among}
use Rattle.row_list.proofs.RowListPairTable.drop_row.Goals as goal

pub invariant_of-self : goal.invariant_of-self
invariant_of-self c =
    let self = c.args.self.now in
    let goes = gone_placed self.items self.count c.in_ok-place.place (omega arith) c.in_ok-place.ensures.0 self.differ self.little in
    record { whole = length-set self.items c.in_ok-place.place _ ∙ self.whole; few = omega arith; differ = goes.differ; little = goes.little }

pub returns : goal.returns
returns c =
    let self = c.args.self.now in
    let link = c.args.link in
    let placed = c.in_ok-place.ensures in
    let goes = gone_placed self.items self.count c.in_ok-place.place (omega arith) placed.0 self.differ self.little in
    let here = in_force_among self.items self.count c.in_ok-place.place self.differ placed.0 link.relationship link.from link.to placed.1 in
    record {
      drops = dropped _ _ (row_at self.items c.in_ok-place.place) link.relationship link.from link.to goes here.0 here.1;
      fixed = refl;
    }
