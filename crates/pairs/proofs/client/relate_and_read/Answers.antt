use Rattle.std.proofs.Common.{sym, ◌∙◌}
use Rattle.pairs.proofs.Rows.{place_of_link}
use Rattle.pairs.proofs.Found.{put_found}
use Rattle.pairs.proofs.client.relate_and_read.Goals as goal

pub returns : goal.returns
returns g c =
    let read = c.find.ensures ∙ sym (place_of_link (g.P.PairTable.rows c.put.new.self) c.args.row c.link.result c.link.ensures) in
    record {
      reads = record {
        puts = (c.put.result, c.put.ensures.puts);
        read = read;
        own = λ fit absent room. read ∙ put_found _ _ c.args.row c.put.result _ c.put.ensures.puts fit absent room;
      };
      fixed = c.put.ensures.fixed;
    }
