use Rattle.std.proofs.Common.{◌∷◌, ◌∙◌}
use Rattle.words.specs.declared.kind.Kind.TheVariants as kind
use Rattle.grammar.specs.Machine as machine
use Rattle.grammar.specs.Machine.{Sym, word, start, stmts, body, decls, members, whole, acting}
use Rattle.grammar.proofs.Bodies
use Rattle.grammar.proofs.Passing.{took}
use Rattle.grammar.proofs.Steps.{took_leads, fails_after}
use Rattle.grammar.proofs.Failing.{failed}
use Rattle.grammar.proofs.parser.Parser.set_type.Goals as goal

pub returns-in_err-take : goal.returns-in_err-take
returns-in_err-take c =
    let p = c.args.self.now in
    let w = took kind.Set p _ c.requires c.advance.ensures in
    rw (failed c.from_residual.result c.from_residual.ensures.1) (fails_after machine.typed (word kind.Less) (λ α. word kind.Name ∷ word kind.Greater ∷ α) (Bodies.set_lead w) w.end_is c.in_err-take.ensures)

pub returns-in_err-name : goal.returns-in_err-name
returns-in_err-name c =
    let p = c.args.self.now in
    let w = took kind.Set p _ c.requires c.advance.ensures in
    let l = c.in_ok-take.ensures in
    rw (failed c.from_residual-in_err-name.result c.from_residual-in_err-name.ensures.1) (fails_after machine.typed (word kind.Name) (λ α. word kind.Greater ∷ α) (λ α. Bodies.set_lead w α ∙ took_leads l _) (l.end_is ∙ w.end_is) c.in_err-name.ensures)

pub returns-in_err-take-2 : goal.returns-in_err-take-2
returns-in_err-take-2 c =
    let p = c.args.self.now in
    let w = took kind.Set p _ c.requires c.advance.ensures in
    let l = c.in_ok-take.ensures in
    let n = c.in_ok-name.ensures in
    rw (failed c.from_residual-in_err-take-2.result c.from_residual-in_err-take-2.ensures.1) (fails_after machine.typed (word kind.Greater) (λ α. α) (λ α. Bodies.set_lead w α ∙ took_leads l _ ∙ took_leads n _) (n.end_is ∙ l.end_is ∙ w.end_is) c.in_err-take-2.ensures)

pub returns : goal.returns
returns c = Bodies.set_read (took kind.Set c.args.self.now _ c.requires c.advance.ensures) c.in_ok-take.ensures c.in_ok-name.ensures c.in_ok-take-2.ensures
