use Rattle.std.proofs.Common.{◌≡◌, ◌<◌, None, take, sym, refl, ◌∙◌, arith, length-set, length-take}
use Rattle.std.proofs.lemmas.Bool.{leb-false, lt-leb}
use Rattle.pairs.proofs.Rows.{place_of, place_of_link}
use Rattle.row_list.proofs.Places.{grown_at}
use Rattle.row_list.proofs.RowListPairTable.put.Goals as goal

pub invariant_of-self : goal.invariant_of-self
invariant_of-self c =
    let self = c.args.self.now in
    let good = c.in_ok-judged.ensures in
    let l : self.count < 256 = leb-false 256 self.count good.2 in
    let absent : place_of (take self.count self.items) c.args.row ≡ None = place_of_link (take self.count self.items) c.args.row c.link.result c.link.ensures ∙ sym c.find.ensures ∙ good.1 in
    let more = grown_at self.items self.count c.args.row (omega arith) absent self.differ self.little good.0 in
    record { whole = length-set self.items self.count _ ∙ self.whole; few = omega arith; differ = more.differ; little = more.little }

pub returns : goal.returns
returns c =
    let self = c.args.self.now in
    let good = c.in_ok-judged.ensures in
    let l : self.count < 256 = leb-false 256 self.count good.2 in
    let absent : place_of (take self.count self.items) c.args.row ≡ None = place_of_link (take self.count self.items) c.args.row c.link.result c.link.ensures ∙ sym c.find.ensures ∙ good.1 in
    let more = grown_at self.items self.count c.args.row (omega arith) absent self.differ self.little good.0 in
    record {
      puts = record { judged = (good.0, absent, lt-leb 256 _ (simp length-take (omega arith))); left = more.added };
      fixed = refl;
    }
