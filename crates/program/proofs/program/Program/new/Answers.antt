use Rattle.program.proofs.Smallest.{smallest, never_refused}
use Rattle.program.proofs.program.Program.new.Goals as goal

pub unreachable-requires : goal.unreachable-requires
unreachable-requires c = never_refused c.in-Err.field-0 c.in-Err.ensures

pub invariant_of-result : goal.invariant_of-result
invariant_of-result c = record { accepted = ∣ record { text = smallest; scratch = 2; accepted = c.in-Ok.ensures } ∣₁ }
