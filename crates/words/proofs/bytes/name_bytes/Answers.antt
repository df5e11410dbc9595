use Rattle.std.proofs.Common.{sym, rules, tests}
use Rattle.std.proofs.lemmas.List.Sums.{prefix_len_is}
use Rattle.words.specs.Bytes.{name_byte}
use Rattle.words.proofs.bytes.name_bytes.Goals as goal

pub returns-clause-is : goal.returns-clause-is
returns-clause-is c =
    let run = c.run_of.ensures in
    sym (prefix_len_is name_byte c.args.s.now _ 0 run.within (λ k l. let h = run.passing k l in search (rules, tests)) (λ l. let h = run.stopped l in search (rules, tests)))
