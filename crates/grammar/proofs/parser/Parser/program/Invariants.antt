use Rattle.std.proofs.Common.{List, ◌∷◌, length}
use Rattle.grammar.specs.Bodies.{ReadTree}
use Rattle.grammar.specs.Machine as machine
use Rattle.grammar.specs.Told.{rest}
use Rattle.grammar.specs.Trees.{many, decl}
use Rattle.grammar.proofs.parser.Parser.program.Given as goal

abbrev pub invariant-loop-self : goal.invariant-loop-self
invariant-loop-self g l = ReadTree g.S.Sink.after (many decl) l.initial.self l.initial.sink l.self l.sink machine.decls (λ (α : List machine.Sym). machine.decls ∷ α)

abbrev pub decreases-loop-self : goal.decreases-loop-self
decreases-loop-self g l = length (rest l.self)
