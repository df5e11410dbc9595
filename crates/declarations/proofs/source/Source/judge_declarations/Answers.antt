use Rattle.declarations.proofs.FirstFaults.{judged}
use Rattle.declarations.proofs.source.Source.judge_declarations.Goals as goal

pub returns-clause-first : goal.returns-clause-first
returns-clause-first c = judged _ _ _ _ c.refuse_faults.ensures
