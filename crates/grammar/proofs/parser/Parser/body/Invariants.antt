use Rattle.std.proofs.Common.{List, ◌∷◌, length}
use Rattle.grammar.specs.Bodies.{ReadTree}
use Rattle.grammar.specs.Machine as machine
use Rattle.grammar.specs.Told.{rest}
use Rattle.grammar.specs.Trees.{many, variable}
use Rattle.grammar.proofs.parser.Parser.body.Given as goal

abbrev pub invariant-loop-self : goal.invariant-loop-self
invariant-loop-self g l = ReadTree g.S.Sink.after (many variable) l.initial.self l.initial.sink l.self l.sink machine.body (λ (α : List machine.Sym). machine.body ∷ α)

abbrev pub decreases-loop-self : goal.decreases-loop-self
decreases-loop-self g l = length (rest l.self)
