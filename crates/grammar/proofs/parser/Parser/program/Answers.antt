use Rattle.std.proofs.Common.{◌≡◌, false, rules}
use Rattle.words.specs.declared.kind.Kind.TheVariants as kind
use Rattle.grammar.specs.Machine.{decls}
use Rattle.grammar.specs.Told.{rest, seen}
use Rattle.grammar.specs.Trees as tree
use Rattle.grammar.proofs.Bodies
use Rattle.grammar.proofs.Passing.{unseen_first}
use Rattle.grammar.proofs.parser.Parser.program.Goals as goal

pub loop-self-init : goal.loop-self-init
loop-self-init g c = Bodies.some_none tree.decl decls _ _

pub loop-self-preserved-in-Class-1 : goal.loop-self-preserved-in-Class-1
loop-self-preserved-in-Class-1 g c = Bodies.some_more c.loop-self.invariant c.in_ok-class-in-Some-Class.ensures.gives

pub loop-self-preserved : goal.loop-self-preserved
loop-self-preserved g c = Bodies.some_more c.loop-self.invariant c.in_ok-relationship-in-Some-Relationship.ensures.gives

pub returns-in_default : goal.returns-in_default
returns-in_default g c =
    let ws = rest c.loop-self.self in
    let a : seen kind.Class ws ≡ false = search rules in
    let b : seen kind.Relationship ws ≡ false = search rules in
    Bodies.program_gives c.finished.result _ c.loop-self.self _ _ c.loop-self.invariant (unseen_first kind.Class _ a) (unseen_first kind.Relationship _ b) c.finished.ensures
