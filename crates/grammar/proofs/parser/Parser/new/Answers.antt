use Rattle.std.proofs.Common.{◌≤◌, length, ap, arith}
use Rattle.words.proofs.Surveying.{cut_few}
use Rattle.words.specs.Words.{unread}
use Rattle.grammar.proofs.Passing.{fewer}
use Rattle.grammar.proofs.parser.Parser.new.Goals as goal

pub invariant_of-result : goal.invariant_of-result
invariant_of-result c =
    let text = c.args.text.now in
    let before : length (unread c.new-cursor.result) ≤ 18446744073709551615 = omega (arith, ap length c.new-cursor.ensures, cut_few 0 0 text) in
    record { few = fewer c.new-cursor.result c.next-word.new.self c.next-word.result 18446744073709551615 c.next-word.ensures.steps before }
