use Rattle.std.proofs.Common.{arith}
use Rattle.probe_table.proofs.Probing.{same_refl}
use Rattle.probe_table.proofs.ProbeTable.freshen.Goals as goal

pub returns-then-self-ge-WORN : goal.returns-then-self-ge-WORN
returns-then-self-ge-WORN c =
    let made = c.relaid in
    record {
      same = made.ensures.same;
      unworn = omega (arith, made.ensures.unspent, made.ensures.same.count, made.result.counted, c.args.self.now.counted);
    }

pub returns-else-self-ge-WORN : goal.returns-else-self-ge-WORN
returns-else-self-ge-WORN c = record { same = same_refl _; unworn = c.if-self-ge-WORN.false }
