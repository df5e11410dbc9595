use Rattle.std.proofs.Common.{◌∷◌, ◌∙◌}
use Rattle.words.specs.declared.kind.Kind.TheVariants as kind
use Rattle.grammar.specs.Machine.{word}
use Rattle.grammar.proofs.Bodies
use Rattle.grammar.proofs.Steps.{took_leads}
use Rattle.grammar.proofs.Failing.{failed}
use Rattle.grammar.proofs.parser.Parser.ends.Goals as goal

pub returns-in_err-first : goal.returns-in_err-first
returns-in_err-first c =
    let p = c.args.self.now in
    let o = c.in_ok-take.ensures in
    rw (failed c.from_residual-in_err-first.result c.from_residual-in_err-first.ensures.1) (Bodies.fails_from (λ α. word kind.OpenParen ∷ word kind.Name ∷ word kind.Comma ∷ word kind.Name ∷ word kind.CloseParen ∷ α) (λ α. word kind.Name ∷ α) (λ α. word kind.Comma ∷ word kind.Name ∷ word kind.CloseParen ∷ α) (λ α. took_leads o _) o.end_is (Bodies.fails_all c.in_err-first.ensures))

pub returns-in_err-take-2 : goal.returns-in_err-take-2
returns-in_err-take-2 c =
    let p = c.args.self.now in
    let o = c.in_ok-take.ensures in
    let f = c.in_ok-first.ensures in
    rw (failed c.from_residual-in_err-take-2.result c.from_residual-in_err-take-2.ensures.1) (Bodies.fails_from (λ α. word kind.OpenParen ∷ word kind.Name ∷ word kind.Comma ∷ word kind.Name ∷ word kind.CloseParen ∷ α) (λ α. word kind.Comma ∷ α) (λ α. word kind.Name ∷ word kind.CloseParen ∷ α) (λ α. took_leads o _ ∙ took_leads f _) (f.end_is ∙ o.end_is) (Bodies.fails_all c.in_err-take-2.ensures))

pub returns-in_err-second : goal.returns-in_err-second
returns-in_err-second c =
    let p = c.args.self.now in
    let o = c.in_ok-take.ensures in
    let f = c.in_ok-first.ensures in
    let m = c.in_ok-take-2.ensures in
    rw (failed c.from_residual-in_err-second.result c.from_residual-in_err-second.ensures.1) (Bodies.fails_from (λ α. word kind.OpenParen ∷ word kind.Name ∷ word kind.Comma ∷ word kind.Name ∷ word kind.CloseParen ∷ α) (λ α. word kind.Name ∷ α) (λ α. word kind.CloseParen ∷ α) (λ α. took_leads o _ ∙ took_leads f _ ∙ took_leads m _) (m.end_is ∙ f.end_is ∙ o.end_is) (Bodies.fails_all c.in_err-second.ensures))

pub returns-in_err-take-3 : goal.returns-in_err-take-3
returns-in_err-take-3 c =
    let p = c.args.self.now in
    let o = c.in_ok-take.ensures in
    let f = c.in_ok-first.ensures in
    let m = c.in_ok-take-2.ensures in
    let s = c.in_ok-second.ensures in
    rw (failed c.from_residual-in_err-take-3.result c.from_residual-in_err-take-3.ensures.1) (Bodies.fails_from (λ α. word kind.OpenParen ∷ word kind.Name ∷ word kind.Comma ∷ word kind.Name ∷ word kind.CloseParen ∷ α) (λ α. word kind.CloseParen ∷ α) (λ α. α) (λ α. took_leads o _ ∙ took_leads f _ ∙ took_leads m _ ∙ took_leads s _) (s.end_is ∙ m.end_is ∙ f.end_is ∙ o.end_is) (Bodies.fails_all c.in_err-take-3.ensures))

pub returns : goal.returns
returns c = Bodies.ends_read c.in_ok-take.ensures c.in_ok-first.ensures c.in_ok-take-2.ensures c.in_ok-second.ensures c.in_ok-take-3.ensures
