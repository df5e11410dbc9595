use Rattle.program.proofs.check.check.Goals as goal

pub invariant_of-place : goal.invariant_of-place
invariant_of-place c = record { accepted = ∣ record { text = c.args.text.now; scratch = _; accepted = c.in_ok-code.ensures } ∣₁ }
