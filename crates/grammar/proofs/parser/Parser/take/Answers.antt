use Rattle.std.proofs.Common.{sym, subst}
use Rattle.grammar.specs.Told.{Took}
use Rattle.grammar.proofs.Passing.{took, fails, seen_first, unseen_first}
use Rattle.grammar.proofs.parser.Parser.take.Goals as goal

pub returns-then-not-sees : goal.returns-then-not-sees
returns-then-not-sees c = fails c.args.kind c.args.self.now _ (unseen_first c.args.kind _ (sym c.if-not-sees.ensures)) c.place-place.ensures

pub returns : goal.returns
returns c =
    let k = c.args.kind in
    let p = c.args.self.now in
    subst (Took k p c.advance.new.self) (sym c.place-place.ensures) (took k p c.advance.new.self (seen_first k _ (sym c.if-not-sees.ensures)) c.advance.ensures)
