use Rattle.std.proofs.Common.{true, List, ◌∷◌, ◌∙◌}
use Rattle.words.specs.declared.kind.Kind.TheVariants as kind
use Rattle.grammar.specs.Machine.{Sym, word, members}
use Rattle.grammar.proofs.Bodies
use Rattle.grammar.proofs.Steps.{took_leads}
use Rattle.grammar.proofs.Failing.{failed}
use Rattle.grammar.proofs.parser.Parser.inside.Goals as goal

abbrev at_inside : List Sym → List Sym
at_inside α = word kind.OpenBrace ∷ members true ∷ word kind.CloseBrace ∷ α

pub returns-in_err-members : goal.returns-in_err-members
returns-in_err-members g c =
    let o = c.in_ok-take.ensures in
    rw (failed c.from_residual-in_err-members.result c.from_residual-in_err-members.ensures.1) (Bodies.fails_from at_inside (λ α. members true ∷ α) (λ α. word kind.CloseBrace ∷ α) (λ α. took_leads o _) o.end_is (Bodies.fails_all c.in_err-members.ensures))

pub returns-in_err-take-2 : goal.returns-in_err-take-2
returns-in_err-take-2 g c =
    let o = c.in_ok-take.ensures in
    let m = c.in_ok-members.ensures in
    rw (failed c.from_residual-in_err-take-2.result c.from_residual-in_err-take-2.ensures.1) (Bodies.fails_from at_inside (λ α. word kind.CloseBrace ∷ α) (λ α. α) (λ α. took_leads o _ ∙ m.leads _) (m.path.end_is ∙ o.end_is) (Bodies.fails_all c.in_err-take-2.ensures))

pub returns : goal.returns
returns g c = Bodies.inside_read c.in_ok-take.ensures c.in_ok-members.ensures c.in_ok-take-2.ensures
