use Rattle.std.proofs.Common.{rules, subst}
use Rattle.pairs.specs.Gathering.{instance_from, Gathered}
use Rattle.pairs.proofs.Told.{instances_gathered}
use Rattle.probe_table.specs.Probing.{held}
use Rattle.probe_table.proofs.Probing.{told_in, told_held}
use Rattle.probe_table.proofs.ProbeTablePairTable.instances.Goals as goal

pub returns : goal.returns
returns c =
    let self = c.args.self.now in
    let told = instance_from c.args.relationship c.args.from in
    instances_gathered c.args.relationship c.args.from (held self.places) c.gathered.result self.differ self.little
    (subst (λ cells. Gathered cells c.gathered.result) (told_held told self.places)
    (c.gathered.ensures (told_in told) (λ place answer e. search rules)))
