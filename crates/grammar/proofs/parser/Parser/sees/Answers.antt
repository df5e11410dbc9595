use Rattle.std.proofs.Common.{◌∙◌}
use Rattle.grammar.proofs.Passing.{seen_is}
use Rattle.grammar.proofs.parser.Parser.sees.Goals as goal

pub returns : goal.returns
returns c = rw c.kind.ensures at c.eq.ensures ∙ seen_is c.args.kind _
