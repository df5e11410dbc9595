use Rattle.std.proofs.Common.{rules, subst}
use Rattle.pairs.specs.Gathering.{to_from, Gathered}
use Rattle.pairs.proofs.Told.{to_cells_gathered}
use Rattle.probe_table.specs.Probing.{held}
use Rattle.probe_table.proofs.Probing.{told_in, told_held}
use Rattle.probe_table.proofs.ProbeTablePairTable.to_cells.Goals as goal

pub returns : goal.returns
returns c =
    let self = c.args.self.now in
    let told = to_from c.args.relationship c.args.from in
    to_cells_gathered c.args.relationship c.args.from (held self.places) c.gathered.result self.little
    (subst (λ cells. Gathered cells c.gathered.result) (told_held told self.places)
    (c.gathered.ensures (told_in told) (λ place answer e. search rules)))
