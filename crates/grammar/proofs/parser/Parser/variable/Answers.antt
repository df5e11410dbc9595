use Rattle.std.proofs.Common.{◌∷◌, refl, ◌∙◌}
use Rattle.words.specs.declared.kind.Kind.TheVariants as kind
use Rattle.grammar.specs.Machine as machine
use Rattle.grammar.specs.Machine.{Sym, word, start, stmts, body, decls, members, whole, acting}
use Rattle.grammar.specs.Told.{rest}
use Rattle.grammar.proofs.Bodies
use Rattle.grammar.proofs.Expected
use Rattle.grammar.proofs.Steps.{took_leads, fails_after}
use Rattle.grammar.proofs.Failing.{failed}
use Rattle.grammar.proofs.parser.Parser.variable.Goals as goal

pub returns-in_err-typed-clause-gives : goal.returns-in_err-typed-clause-gives
returns-in_err-typed-clause-gives g c =
    let p = c.args.self.now in
    rw (failed c.from_residual.result c.from_residual.ensures.1) (fails_after body machine.typed (λ α. word kind.Name ∷ word kind.Semicolon ∷ body ∷ α) (λ α. Expected.body_variable α (rest p) c.requires) refl c.in_err-typed.ensures)

pub returns-in_err-name-clause-gives : goal.returns-in_err-name-clause-gives
returns-in_err-name-clause-gives g c =
    let p = c.args.self.now in
    let t = c.in_ok-typed.ensures in
    rw (failed c.from_residual-in_err-name.result c.from_residual-in_err-name.ensures.1) (fails_after body (word kind.Name) (λ α. word kind.Semicolon ∷ body ∷ α) (λ α. Expected.body_variable α (rest p) c.requires ∙ t.leads _) t.end_is c.in_err-name.ensures)

pub returns-in_err-take-clause-gives : goal.returns-in_err-take-clause-gives
returns-in_err-take-clause-gives g c =
    let p = c.args.self.now in
    let t = c.in_ok-typed.ensures in
    let n = c.in_ok-name.ensures in
    rw (failed c.from_residual-in_err-take.result c.from_residual-in_err-take.ensures.1) (fails_after body (word kind.Semicolon) (λ α. body ∷ α) (λ α. Expected.body_variable α (rest p) c.requires ∙ t.leads _ ∙ took_leads n _) (n.end_is ∙ t.end_is) c.in_err-take.ensures)

pub returns-clause-gives : goal.returns-clause-gives
returns-clause-gives g c =
    let t = c.in_ok-typed.ensures in
    let n = c.in_ok-name.ensures in
    let s = c.in_ok-take.ensures in
    Bodies.variable_read c.requires t n s c.put.ensures
