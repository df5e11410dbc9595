use Rattle.words.specs.declared.kind.Kind.TheVariants as kind
use Rattle.grammar.proofs.Failing.{failed, item_exit, reach_fails, reach_colon}
use Rattle.grammar.proofs.Items.{read_item, colon_plain}
use Rattle.grammar.proofs.Passing.{took}
use Rattle.grammar.proofs.Failing.{failed}
use Rattle.grammar.proofs.parser.Parser.colon.Goals as goal

pub returns-in_err-name-clause-gives : goal.returns-in_err-name-clause-gives
returns-in_err-name-clause-gives g c =
    let x = failed c.from_residual.result c.from_residual.ensures.1 in
    let p = c.args.self.now in
    let t = took kind.Colon p c.advance.new.self c.requires c.advance.ensures in
    λ s l h.
    let i = read_item c.args.item.found s p l _ _ _ h c.report_value.ensures in
    item_exit _ _ l _ _ x (reach_fails (reach_colon i t) c.in_err-name.ensures)

pub returns-clause-gives : goal.returns-clause-gives
returns-clause-gives g c =
    let p = c.args.self.now in
    let t = took kind.Colon p c.advance.new.self c.requires c.advance.ensures in
    let n = c.in_ok-name.ensures in
    λ s l h. colon_plain (read_item c.args.item.found s p l _ _ _ h c.report_value.ensures) t n c.put.ensures
