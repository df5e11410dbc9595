use Rattle.std.proofs.Common.{rules, arith, subst}
use Rattle.std.specs.Prelude.{not}
use Rattle.probe_table.specs.Probing.{is_held, First}
use Rattle.probe_table.proofs.Probing.{room_found, open_found}
use Rattle.probe_table.proofs.ProbeTable.room.Goals as goal

pub unwrap-place-requires : goal.unwrap-place-requires
unwrap-place-requires c =
    let self = c.args.self.now in
    room_found self.places self.whole (omega (arith, self.counted)) c.args.link.relationship c.args.link.from c.args.link.to c.first.result (c.first.ensures (λ x. not (is_held x)) (λ place answer e. search rules))

pub returns : goal.returns
returns c =
    let self = c.args.self.now in
    let link = c.args.link in
    open_found self.places link.relationship link.from link.to c.unwrap-place.result.0
    (subst (First (λ x. not (is_held x)) self.places link.relationship link.from link.to) c.unwrap-place.ensures (c.first.ensures (λ x. not (is_held x)) (λ place answer e. search rules))).0
