use Rattle.std.proofs.Common.{subst, rules, filter_map, take}
use Rattle.pairs.specs.Gathering.{to_from, Gathered}
use Rattle.pairs.proofs.Told.{to_cells_gathered}
use Rattle.row_list.proofs.RowListPairTable.to_cells.Goals as goal

pub returns : goal.returns
returns c =
    let self = c.args.self.now in
    let told = to_from c.args.relationship c.args.from in
    to_cells_gathered c.args.relationship c.args.from (take self.count self.items) c.gathered.result self.little
    (subst (λ rows. Gathered (filter_map told rows) c.gathered.result) c.rows.ensures (c.gathered.ensures told (λ item answer e. search rules)))
