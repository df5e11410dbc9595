use Rattle.std.proofs.Common.{◌≡◌, Decides, rules, arith}
use Rattle.cells.proofs.Laws.{same_sets}
use Rattle.cells.proofs.CellSet.same_members.Goals as goal

pub returns-clause-agree : goal.returns-clause-agree
returns-clause-agree c =
    λ same.
    let d : Decides c.eq.result (c.args.self ≡ c.args.other) = search rules in
    d.1 (same_sets c.args.self c.args.other (record { low_fits = omega arith; high_fits = omega arith }) (record { low_fits = omega arith; high_fits = omega arith }) same)
