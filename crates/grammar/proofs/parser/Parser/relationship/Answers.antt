use Rattle.std.proofs.Common.{true, List, ◌∷◌, ◌∙◌}
use Rattle.words.specs.declared.kind.Kind.TheVariants as kind
use Rattle.grammar.specs.Machine.{Sym, word, decls, members}
use Rattle.grammar.proofs.Bodies
use Rattle.grammar.proofs.Passing.{took}
use Rattle.grammar.proofs.Failing.{failed}
use Rattle.grammar.proofs.parser.Parser.relationship.Goals as goal

abbrev at_inside : List Sym → List Sym
at_inside α = word kind.OpenBrace ∷ members true ∷ word kind.CloseBrace ∷ decls ∷ α

pub returns-in_err-name-clause-gives : goal.returns-in_err-name-clause-gives
returns-in_err-name-clause-gives g c =
    let w = took kind.Relationship c.args.self.now _ c.requires c.advance.ensures in
    rw (failed c.from_residual.result c.from_residual.ensures.1) (Bodies.fails_one (Bodies.fails_from (λ α. decls ∷ α) (λ α. word kind.Name ∷ word kind.Extends ∷ word kind.Name ∷ α) (λ α. word kind.OpenParen ∷ word kind.Name ∷ word kind.Comma ∷ word kind.Name ∷ word kind.CloseParen ∷ at_inside α) (Bodies.relationship_lead w) w.end_is c.in_err-name.ensures))

pub returns-in_err-first-clause-gives : goal.returns-in_err-first-clause-gives
returns-in_err-first-clause-gives g c =
    let w = took kind.Relationship c.args.self.now _ c.requires c.advance.ensures in
    let h = c.in_ok-name.ensures in
    rw (failed c.from_residual-in_err-first.result c.from_residual-in_err-first.ensures.1) (Bodies.fails_one (Bodies.fails_from (λ α. decls ∷ α) (λ α. word kind.OpenParen ∷ word kind.Name ∷ word kind.Comma ∷ word kind.Name ∷ word kind.CloseParen ∷ α) at_inside (λ α. Bodies.relationship_lead w α ∙ h.leads _) (h.end_is ∙ w.end_is) c.in_err-first.ensures))

pub returns-clause-gives : goal.returns-clause-gives
returns-clause-gives g c =
    let p = c.args.self.now in
    let w = took kind.Relationship p c.advance.new.self c.requires c.advance.ensures in
    let tree_is = Bodies.relationship_gives g.S.Sink.after c.inside.result p _ _ _ _ c.args.sink.now _ _ _ _ _ _ _ w c.in_ok-name.ensures c.in_ok-first.ensures c.put.ensures c.inside.ensures in
    tree_is
