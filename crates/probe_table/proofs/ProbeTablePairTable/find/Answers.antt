use Rattle.std.proofs.Common.{rules}
use Rattle.probe_table.proofs.Probing.{located_told}
use Rattle.probe_table.proofs.ProbeTablePairTable.find.Goals as goal

pub returns : goal.returns
returns c =
    let self = c.args.self.now in
    let link = c.args.link in
    let told = located_told self.places self.whole self.differ link.relationship link.from link.to c.position.result c.position.ensures in
    search (rules, told)
