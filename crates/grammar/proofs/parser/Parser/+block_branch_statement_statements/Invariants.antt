use Rattle.std.proofs.Common.{◌+◌, ◌*◌, List, ◌∷◌, length}
use Rattle.grammar.specs.Bodies.{ReadTree}
use Rattle.grammar.specs.Machine.{Sym, stmts}
use Rattle.grammar.specs.Told.{rest}
use Rattle.grammar.specs.Trees.{many, stmt}
use Rattle.grammar.proofs.parser.Parser.+block_branch_statement_statements.Given as goal

abbrev pub decreases-block : goal.decreases-block
decreases-block g l = 2 * length (rest l.self.now) + 1

abbrev pub decreases-branch : goal.decreases-branch
decreases-branch g l = 2 * length (rest l.self.now)

abbrev pub decreases-statement : goal.decreases-statement
decreases-statement g l = 2 * length (rest l.self.now) + 1

abbrev pub decreases-statements : goal.decreases-statements
decreases-statements g l = 2 * length (rest l.self.now) + 2

abbrev pub invariant-statements-loop-self : goal.invariant-statements-loop-self
invariant-statements-loop-self g l = ReadTree g.S.Sink.after (many stmt) l.initial.self l.initial.sink l.self l.sink stmts (λ (α : List Sym). stmts ∷ α)

abbrev pub decreases-statements-loop-self : goal.decreases-statements-loop-self
decreases-statements-loop-self g l = length (rest l.self)
