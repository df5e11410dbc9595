use Rattle.std.proofs.Common.{rules, sym, subst, take}
use Rattle.std.proofs.lemmas.Iterator.{YieldsList-from_slice}
use Rattle.std.proofs.lemmas.Iterator.Search.{position_from_yields_List}
use Rattle.pairs.proofs.Rows.{joins}
use Rattle.row_list.specs.Places.{Placed}
use Rattle.row_list.proofs.Places.{placed_first}
use Rattle.row_list.proofs.RowList.position.Goals as goal

pub returns : goal.returns
returns c =
    let link = c.args.link in
    let rows = take c.args.self.now.count c.args.self.now.items in
    let first = position_from_yields_List (λ row. joins row link.relationship link.from link.to) _ _ c.position.result c.position.ensures.ran (YieldsList-from_slice rows cc)
    (λ row answer f k. search rules) in
    subst (Placed rows link.relationship link.from link.to) (sym first) (placed_first rows link.relationship link.from link.to)
