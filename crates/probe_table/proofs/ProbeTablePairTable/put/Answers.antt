use Rattle.std.proofs.Common.{◌<◌, sym, refl, ◌∙◌, arith}
use Rattle.std.proofs.lemmas.Bool.{leb-false, lt-leb}
use Rattle.pairs.proofs.Rows.{place_of_link}
use Rattle.probe_table.specs.Probing.{held}
use Rattle.probe_table.proofs.Probing.{same_added}
use Rattle.probe_table.proofs.ProbeTablePairTable.put.Goals as goal

pub freshen-requires : goal.freshen-requires
freshen-requires c = leb-false 256 c.args.self.now.count c.in_ok-judged.ensures.2

pub insert-requires : goal.insert-requires
insert-requires c =
    let self = c.args.self.now in
    let good = c.in_ok-judged.ensures in
    let absent = place_of_link (held self.places) c.args.row c.link.result c.link.ensures ∙ sym c.find.ensures ∙ good.1 in
    let few : self.count < 256 = leb-false 256 self.count good.2 in
    let same = c.freshen.ensures.same in
    let now-self = c.freshen.new.self in
    record {
      fit = good.0;
      absent = same.found _ _ _ ∙ absent;
      room = omega (arith, same.count, self.counted, now-self.counted);
      unworn = c.freshen.ensures.unworn;
    }

pub returns : goal.returns
returns c =
    let self = c.args.self.now in
    let good = c.in_ok-judged.ensures in
    let absent = place_of_link (held self.places) c.args.row c.link.result c.link.ensures ∙ sym c.find.ensures ∙ good.1 in
    let few : self.count < 256 = leb-false 256 self.count good.2 in
    record {
      puts = record {
        judged = (good.0, absent, lt-leb 256 _ (omega (arith, self.counted)));
        left = same_added _ _ _ c.args.row c.freshen.ensures.same c.insert.ensures.added;
      };
      fixed = refl;
    }
