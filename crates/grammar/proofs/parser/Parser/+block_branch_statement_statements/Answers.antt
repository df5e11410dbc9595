use Rattle.std.proofs.Common.{List, ◌∷◌, sym, ◌∙◌}
use Rattle.words.specs.declared.kind.Kind.TheVariants as kind
use Rattle.grammar.specs.Machine.{Sym, word, start, stmts, whole}
use Rattle.grammar.specs.Trees as tree
use Rattle.grammar.proofs.Bodies
use Rattle.grammar.proofs.Expected
use Rattle.grammar.proofs.Passing.{took}
use Rattle.grammar.proofs.Steps.{took_leads, fails_after}
use Rattle.grammar.proofs.Failing.{failed}
use Rattle.grammar.proofs.parser.Parser.+block_branch_statement_statements.Goals as goal

-- what is still expected in an `if`, from one of its words on
abbrev at_end : List Sym → List Sym
at_end α = word kind.Semicolon ∷ stmts ∷ α

abbrev at_second : List Sym → List Sym
at_second α = word kind.OpenBrace ∷ stmts ∷ word kind.CloseBrace ∷ at_end α

abbrev at_else : List Sym → List Sym
at_else α = word kind.Else ∷ at_second α

abbrev at_first : List Sym → List Sym
at_first α = word kind.OpenBrace ∷ stmts ∷ word kind.CloseBrace ∷ at_else α

abbrev at_block : List Sym → List Sym
at_block α = word kind.OpenBrace ∷ stmts ∷ word kind.CloseBrace ∷ α

pub block-returns-in_err-statements : goal.block-returns-in_err-statements
block-returns-in_err-statements g t c =
    let o = c.in_ok-take.ensures in
    rw (failed c.from_residual-in_err-statements.result c.from_residual-in_err-statements.ensures.1) (Bodies.fails_from at_block (λ α. stmts ∷ α) (λ α. word kind.CloseBrace ∷ α) (λ α. took_leads o _) o.end_is (Bodies.fails_all c.in_err-statements.ensures))

pub block-returns-in_err-take-2 : goal.block-returns-in_err-take-2
block-returns-in_err-take-2 g t c =
    let o = c.in_ok-take.ensures in
    let s = c.in_ok-statements.ensures in
    rw (failed c.from_residual-in_err-take-2.result c.from_residual-in_err-take-2.ensures.1) (Bodies.fails_from at_block (λ α. word kind.CloseBrace ∷ α) (λ α. α) (λ α. took_leads o _ ∙ s.leads _) (s.path.end_is ∙ o.end_is) (Bodies.fails_all c.in_err-take-2.ensures))

pub block-returns : goal.block-returns
block-returns g t c = Bodies.block_read c.in_ok-take.ensures c.in_ok-statements.ensures c.in_ok-take-2.ensures

pub branch-returns-in_err-take : goal.branch-returns-in_err-take
branch-returns-in_err-take g t c =
    let i = took kind.If c.args.self.now _ c.requires c.advance.ensures in
    rw (failed c.from_residual.result c.from_residual.ensures.1) (fails_after stmts (word kind.OpenParen) (λ α. start whole ∷ word kind.CloseParen ∷ at_first α) (Bodies.if_lead i) i.end_is c.in_err-take.ensures)

pub branch-returns-in_err-expr : goal.branch-returns-in_err-expr
branch-returns-in_err-expr g t c =
    let i = took kind.If c.args.self.now _ c.requires c.advance.ensures in
    let o = c.in_ok-take.ensures in
    rw (failed c.from_residual-in_err-expr.result c.from_residual-in_err-expr.ensures.1) (fails_after stmts (start whole) (λ α. word kind.CloseParen ∷ at_first α) (λ α. Bodies.if_lead i α ∙ took_leads o _) (o.end_is ∙ i.end_is) c.in_err-expr.ensures)

pub branch-returns-in_err-take-2 : goal.branch-returns-in_err-take-2
branch-returns-in_err-take-2 g t c =
    let i = took kind.If c.args.self.now _ c.requires c.advance.ensures in
    let o = c.in_ok-take.ensures in
    let e = c.in_ok-expr.ensures in
    rw (failed c.from_residual-in_err-take-2.result c.from_residual-in_err-take-2.ensures.1) (fails_after stmts (word kind.CloseParen) at_first (λ α. Bodies.if_lead i α ∙ took_leads o _ ∙ e.leads _) (e.walk.end_is ∙ o.end_is ∙ i.end_is) c.in_err-take-2.ensures)

pub branch-returns-in_err-block : goal.branch-returns-in_err-block
branch-returns-in_err-block g t c =
    let i = took kind.If c.args.self.now _ c.requires c.advance.ensures in
    let o = c.in_ok-take.ensures in
    let e = c.in_ok-expr.ensures in
    let k = c.in_ok-take-2.ensures in
    rw (failed c.from_residual-in_err-block.result c.from_residual-in_err-block.ensures.1) (Bodies.fails_one (Bodies.fails_from (λ α. stmts ∷ α) at_block at_else (λ α. Bodies.if_lead i α ∙ took_leads o _ ∙ e.leads _ ∙ took_leads k _) (k.end_is ∙ e.walk.end_is ∙ o.end_is ∙ i.end_is) c.in_err-block.ensures))

pub branch-returns-in_err-take-3 : goal.branch-returns-in_err-take-3
branch-returns-in_err-take-3 g t c =
    let i = took kind.If c.args.self.now _ c.requires c.advance.ensures in
    let o = c.in_ok-take.ensures in
    let e = c.in_ok-expr.ensures in
    let k = c.in_ok-take-2.ensures in
    let b = c.in_ok-block.ensures in
    rw (failed c.from_residual-in_err-take-3.result c.from_residual-in_err-take-3.ensures.1) (fails_after stmts (word kind.Else) at_second (λ α. Bodies.if_lead i α ∙ took_leads o _ ∙ e.leads _ ∙ took_leads k _ ∙ b.leads _) (b.path.end_is ∙ k.end_is ∙ e.walk.end_is ∙ o.end_is ∙ i.end_is) c.in_err-take-3.ensures)

pub branch-returns-in_err-block-2 : goal.branch-returns-in_err-block-2
branch-returns-in_err-block-2 g t c =
    let i = took kind.If c.args.self.now _ c.requires c.advance.ensures in
    let o = c.in_ok-take.ensures in
    let e = c.in_ok-expr.ensures in
    let k = c.in_ok-take-2.ensures in
    let b = c.in_ok-block.ensures in
    let l = c.in_ok-take-3.ensures in
    rw (failed c.from_residual-in_err-block-2.result c.from_residual-in_err-block-2.ensures.1) (Bodies.fails_one (Bodies.fails_from (λ α. stmts ∷ α) at_block at_end (λ α. Bodies.if_lead i α ∙ took_leads o _ ∙ e.leads _ ∙ took_leads k _ ∙ b.leads _ ∙ took_leads l _) (l.end_is ∙ b.path.end_is ∙ k.end_is ∙ e.walk.end_is ∙ o.end_is ∙ i.end_is) c.in_err-block-2.ensures))

pub branch-returns-in_err-take-4 : goal.branch-returns-in_err-take-4
branch-returns-in_err-take-4 g t c =
    let i = took kind.If c.args.self.now _ c.requires c.advance.ensures in
    let o = c.in_ok-take.ensures in
    let e = c.in_ok-expr.ensures in
    let k = c.in_ok-take-2.ensures in
    let b = c.in_ok-block.ensures in
    let l = c.in_ok-take-3.ensures in
    let d = c.in_ok-block-2.ensures in
    rw (failed c.from_residual-in_err-take-4.result c.from_residual-in_err-take-4.ensures.1) (fails_after stmts (word kind.Semicolon) (λ α. stmts ∷ α) (λ α. Bodies.if_lead i α ∙ took_leads o _ ∙ e.leads _ ∙ took_leads k _ ∙ b.leads _ ∙ took_leads l _ ∙ d.leads _) (d.path.end_is ∙ l.end_is ∙ b.path.end_is ∙ k.end_is ∙ e.walk.end_is ∙ o.end_is ∙ i.end_is) c.in_err-take-4.ensures)

pub branch-returns : goal.branch-returns
branch-returns g t c =
    let i = rw (sym c.place-place.ensures) at (took kind.If c.args.self.now _ c.requires c.advance.ensures) in
    Bodies.branch_read i c.in_ok-take.ensures c.in_ok-expr.ensures c.in_ok-take-2.ensures c.put.ensures c.in_ok-block.ensures c.in_ok-take-3.ensures
    c.put-2.ensures c.in_ok-block-2.ensures c.in_ok-take-4.ensures c.put-3.ensures

pub statement-returns-then-sees-clause-falls : goal.statement-returns-then-sees-clause-falls
statement-returns-then-sees-clause-falls g t c = Bodies.stmt_falls g.S.Sink.after c.branch-self.result c.args.self.now c.branch-self.new.self c.args.sink.now c.branch-self.new.sink stmts (λ α. stmts ∷ α) c.branch-self.ensures

pub statement-returns-else-sees-clause-falls : goal.statement-returns-else-sees-clause-falls
statement-returns-else-sees-clause-falls g t c = Bodies.stmt_falls g.S.Sink.after c.action.result c.args.self.now c.action.new.self c.args.sink.now c.action.new.sink stmts (λ α. stmts ∷ α) c.action.ensures

pub statements-loop-self-init : goal.statements-loop-self-init
statements-loop-self-init g t c = Bodies.some_none tree.stmt stmts _ _

pub statements-loop-self-preserved : goal.statements-loop-self-preserved
statements-loop-self-preserved g t c = Bodies.some_more c.loop-self.invariant c.in_ok-statement.ensures.gives

pub statements-returns : goal.statements-returns
statements-returns g t c = Bodies.some_done c.loop-self.invariant (λ α. Expected.stmts_done α _ (sym c.loop-self-test.ensures))
