use Rattle.std.proofs.Common.{◌∷◌, refl, ◌∙◌}
use Rattle.words.specs.declared.kind.Kind.TheVariants as kind
use Rattle.grammar.specs.Machine.{word, start, stmts, acting}
use Rattle.grammar.specs.Told.{rest}
use Rattle.grammar.proofs.Bodies
use Rattle.grammar.proofs.Expected
use Rattle.grammar.proofs.Steps.{fails_after}
use Rattle.grammar.proofs.Failing.{failed}
use Rattle.grammar.proofs.parser.Parser.action.Goals as goal

pub returns-in_err-item : goal.returns-in_err-item
returns-in_err-item g c =
    let p = c.args.self.now in
    rw (failed c.from_residual.result c.from_residual.ensures.1) (fails_after stmts (start acting) (λ α. word kind.Semicolon ∷ stmts ∷ α) (λ α. Expected.stmts_item α (rest p) c.requires.begins c.requires.other) refl (c.in_err-item.ensures.gives acting))

pub returns-in_err-acted : goal.returns-in_err-acted
returns-in_err-acted g c =
    let p = c.args.self.now in
    let fails = c.in_err-acted.ensures p _ c.in_ok-item.ensures.gives in
    rw (failed c.from_residual-in_err-acted.result c.from_residual-in_err-acted.ensures.1) (Bodies.fails_one (Bodies.fails_from (λ α. stmts ∷ α) (λ α. start acting ∷ word kind.Semicolon ∷ α) (λ α. stmts ∷ α) (λ α. Expected.stmts_item α (rest p) c.requires.begins c.requires.other) refl fails))

pub returns-in_err-take : goal.returns-in_err-take
returns-in_err-take g c =
    let p = c.args.self.now in
    let a = c.in_ok-acted.ensures p _ c.in_ok-item.ensures.gives in
    rw (failed c.from_residual-in_err-take.result c.from_residual-in_err-take.ensures.1) (fails_after stmts (word kind.Semicolon) (λ α. stmts ∷ α) (λ α. Expected.stmts_item α (rest p) c.requires.begins c.requires.other ∙ a.leads (stmts ∷ α)) a.path.end_is c.in_err-take.ensures)

pub returns : goal.returns
returns g c =
    let p = c.args.self.now in
    Bodies.act_read (c.in_ok-acted.ensures p _ c.in_ok-item.ensures.gives) c.in_ok-take.ensures c.put.ensures c.requires.begins c.requires.other
