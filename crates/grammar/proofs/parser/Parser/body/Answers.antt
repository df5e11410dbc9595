use Rattle.std.proofs.Common.{sym}
use Rattle.grammar.specs.Machine.{body}
use Rattle.grammar.specs.Trees as tree
use Rattle.grammar.proofs.Bodies
use Rattle.grammar.proofs.parser.Parser.body.Goals as goal

pub loop-self-init : goal.loop-self-init
loop-self-init g c = Bodies.some_none tree.variable body _ _

pub loop-self-preserved : goal.loop-self-preserved
loop-self-preserved g c = Bodies.some_more c.loop-self.invariant c.in_ok-variable.ensures.gives

pub returns : goal.returns
returns g c = Bodies.body_gives c.statements.result _ c.loop-self.self _ _ _ _ c.loop-self.invariant (sym c.loop-self-test.ensures) c.statements.ensures
