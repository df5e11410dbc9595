use Rattle.std.proofs.Common.{◌≡◌, ℕ, List, codes, sym, ap, rules}
use Rattle.std.proofs.lemmas.Slice.Eq.{text_from_reads}
use Rattle.words.specs.Spelling.{among, keywords}
use Rattle.words.proofs.spelling.keyword_or_name.Goals as goal

spelled : (s p : List ℕ) → s ≡ p → among keywords p ≡ among keywords s
spelled s p e = ap (among keywords) (sym e)

pub returns-in-return : goal.returns-in-return
returns-in-return c = spelled c.args.bytes.now (codes "return") (search (rules, text_from_reads))

pub returns-in-extends : goal.returns-in-extends
returns-in-extends c = spelled c.args.bytes.now (codes "extends") (search (rules, text_from_reads))

pub returns-in-boolean : goal.returns-in-boolean
returns-in-boolean c = spelled c.args.bytes.now (codes "boolean") (search (rules, text_from_reads))

pub returns-in-relationship : goal.returns-in-relationship
returns-in-relationship c = spelled c.args.bytes.now (codes "relationship") (search (rules, text_from_reads))
