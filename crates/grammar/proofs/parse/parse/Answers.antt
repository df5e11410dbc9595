use Rattle.grammar.proofs.Parses.{parses}
use Rattle.grammar.proofs.parse.parse.Goals as goal

pub returns : goal.returns
returns g c = parses g.S.Sink.after c.program.result c.new-parser.result _ _ _ _ c.new-parser.ensures.rest c.new-parser.ensures.end c.program.ensures
