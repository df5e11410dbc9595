use Rattle.std.proofs.Common.{length}
use Rattle.grammar.specs.Bodies.{Gathered}
use Rattle.grammar.specs.Told.{rest}
use Rattle.grammar.proofs.parser.Parser.members.Given as goal

abbrev pub invariant-loop-section : goal.invariant-loop-section
invariant-loop-section g l = Gathered g.S.Sink.after l.section l.initial.self l.initial.sink l.self l.sink

abbrev pub decreases-loop-section : goal.decreases-loop-section
decreases-loop-section g l = length (rest l.self)
