use Rattle.std.proofs.Common.{true, sym}
use Rattle.grammar.specs.Machine.{members}
use Rattle.grammar.specs.Trees as tree
use Rattle.grammar.proofs.Bodies
use Rattle.grammar.proofs.parser.Parser.members.Goals as goal

pub loop-section-init : goal.loop-section-init
loop-section-init g c = Bodies.some_none tree.variable (members true) _ _

pub returns : goal.returns
returns g c = Bodies.gather_done c.loop-section.section _ _ _ _ c.loop-section.invariant (sym c.loop-section-test.ensures)
