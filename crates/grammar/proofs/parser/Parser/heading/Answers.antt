use Rattle.std.proofs.Common.{◌∷◌, ◌∙◌}
use Rattle.words.specs.declared.kind.Kind.TheVariants as kind
use Rattle.grammar.specs.Machine.{word}
use Rattle.grammar.proofs.Bodies
use Rattle.grammar.proofs.Steps.{took_leads}
use Rattle.grammar.proofs.Failing.{failed}
use Rattle.grammar.proofs.parser.Parser.heading.Goals as goal

pub returns-in_err-take : goal.returns-in_err-take
returns-in_err-take c =
    let p = c.args.self.now in
    let n = c.in_ok-name.ensures in
    rw (failed c.from_residual-in_err-take.result c.from_residual-in_err-take.ensures.1) (Bodies.fails_from (λ α. word kind.Name ∷ word kind.Extends ∷ word kind.Name ∷ α) (λ α. word kind.Extends ∷ α) (λ α. word kind.Name ∷ α) (λ α. took_leads n _) n.end_is (Bodies.fails_all c.in_err-take.ensures))

pub returns-in_err-parent : goal.returns-in_err-parent
returns-in_err-parent c =
    let p = c.args.self.now in
    let n = c.in_ok-name.ensures in
    let x = c.in_ok-take.ensures in
    rw (failed c.from_residual-in_err-parent.result c.from_residual-in_err-parent.ensures.1) (Bodies.fails_from (λ α. word kind.Name ∷ word kind.Extends ∷ word kind.Name ∷ α) (λ α. word kind.Name ∷ α) (λ α. α) (λ α. took_leads n _ ∙ took_leads x _) (x.end_is ∙ n.end_is) (Bodies.fails_all c.in_err-parent.ensures))

pub returns : goal.returns
returns c = Bodies.heading_read c.in_ok-name.ensures c.in_ok-take.ensures c.in_ok-parent.ensures
