use Rattle.std.proofs.Common.{length, sym, refl, ap, ◌∙◌, le_of_eq, arith}
use Rattle.pairs.specs.Rows.{apart, all_small}
use Rattle.pairs.proofs.Rows.{apart_nil, all_small_nil}
use Rattle.probe_table.proofs.Probing.{held_free, used_free, reached_free}
use Rattle.probe_table.proofs.ProbeTable.new.Goals as goal

pub invariant_of-result : goal.invariant_of-result
invariant_of-result c =
    record {
      whole = refl;
      counted = sym (ap length (held_free 512));
      few = omega arith;
      fresh = omega arith;
      roomy = le_of_eq (used_free 512);
      differ = ap apart (held_free 512) ∙ apart_nil;
      little = ap all_small (held_free 512) ∙ all_small_nil;
      reached = reached_free 512;
    }

pub returns : goal.returns
returns c = record { rows = held_free 512; unspent = refl }
