use Rattle.std.proofs.Common.{◌∷◌, ◌∙◌}
use Rattle.words.specs.declared.kind.Kind.TheVariants as kind
use Rattle.grammar.specs.Machine.{word, start, whole, acting}
use Rattle.grammar.proofs.Bodies
use Rattle.grammar.proofs.Steps.{took_leads}
use Rattle.grammar.proofs.Failing.{failed}
use Rattle.grammar.proofs.parser.Parser.assigned.Goals as goal

pub returns-in_err-expr : goal.returns-in_err-expr
returns-in_err-expr g c = λ s l at h.
    let t = c.in_ok-take.ensures in
    rw (failed c.from_residual-in_err-expr.result c.from_residual-in_err-expr.ensures.1) (Bodies.fails_from (λ α. start acting ∷ word kind.Semicolon ∷ α) (λ α. start whole ∷ α) (λ α. word kind.Semicolon ∷ α) (λ α. h.leads _ ∙ took_leads t _) (t.end_is ∙ h.path.end_is) (Bodies.fails_all c.in_err-expr.ensures))

pub returns : goal.returns
returns g c = λ s l at h. Bodies.assign_action h c.in_ok-take.ensures c.put.ensures c.in_ok-expr.ensures c.put-2.ensures
