use Rattle.std.proofs.Common.{refl, ap}
use Rattle.words.specs.Words.{told, unread}
use Rattle.grammar.specs.Told.{from_word}
use Rattle.grammar.proofs.parser.Parser.finished.Goals as goal

pub returns-in-Some : goal.returns-in-Some
returns-in-Some c = (told c.in-Some.word, unread c.args.self.now.cursor, ap (λ w. from_word w c.args.self.now.cursor) c.in-Some.is, refl)
