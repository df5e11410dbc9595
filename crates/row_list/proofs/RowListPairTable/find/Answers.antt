use Rattle.std.proofs.Common.{rules}
use Rattle.row_list.proofs.Places.{placed_among}
use Rattle.row_list.proofs.RowListPairTable.find.Goals as goal

pub returns : goal.returns
returns c =
    let self = c.args.self.now in
    let link = c.args.link in
    let told = placed_among self.items self.count self.differ link.relationship link.from link.to c.position.result c.position.ensures in
    search (rules, told)
