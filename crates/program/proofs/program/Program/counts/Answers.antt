use Rattle.std.proofs.Common.{◌-◌, ap}
use Rattle.values.specs.Lines.{ancestry}
use Rattle.program.specs.Model.{model}
use Rattle.program.proofs.program.Program.counts.Goals as goal

pub returns : goal.returns
unfolding model ancestry
returns c =
    λ i. record {
      classes = ap (λ n. n - 1) c.rows.ensures.count i;
      relationships = ap (λ n. n - 1) c.rows-2.ensures.count i;
      fields = c.len.ensures i;
      methods = c.len-2.ensures i;
      nodes = c.len-3.ensures i;
    }
