use Rattle.std.proofs.Common.{false, List, ◌∷◌, ◌∙◌}
use Rattle.words.specs.declared.kind.Kind.TheVariants as kind
use Rattle.grammar.specs.Machine as machine
use Rattle.grammar.specs.Machine.{Sym, word, start, stmts, body, decls, members, whole, acting}
use Rattle.grammar.specs.Told.{rest}
use Rattle.grammar.proofs.Bodies
use Rattle.grammar.proofs.Expected
use Rattle.grammar.proofs.Steps.{took_leads, fails_after}
use Rattle.grammar.proofs.Failing.{failed}
use Rattle.grammar.proofs.parser.Parser.method.Goals as goal

-- what is still expected of a method, from one of its words on
abbrev at_brace : List Sym → List Sym
at_brace α = word kind.CloseBrace ∷ members false ∷ α

abbrev at_semicolon : List Sym → List Sym
at_semicolon α = word kind.Semicolon ∷ at_brace α

abbrev at_result : List Sym → List Sym
at_result α = start whole ∷ at_semicolon α

abbrev at_return : List Sym → List Sym
at_return α = word kind.Return ∷ at_result α

abbrev at_body : List Sym → List Sym
at_body α = body ∷ at_return α

abbrev at_open : List Sym → List Sym
at_open α = word kind.OpenBrace ∷ at_body α

abbrev at_close : List Sym → List Sym
at_close α = word kind.CloseParen ∷ at_open α

abbrev at_name : List Sym → List Sym
at_name α = word kind.Name ∷ at_close α

abbrev at_type : List Sym → List Sym
at_type α = machine.typed ∷ at_name α

pub returns-in_err-take-clause-gives : goal.returns-in_err-take-clause-gives
returns-in_err-take-clause-gives g c =
    let p = c.args.self.now in
    λ s l q h other. rw (failed c.from_residual.result c.from_residual.ensures.1) (fails_after (members q) (word kind.OpenParen) at_type (λ α. h.leads α ∙ Expected.member_method q α (rest p) other) h.path.end_is c.in_err-take.ensures)

pub returns-in_err-typed-clause-gives : goal.returns-in_err-typed-clause-gives
returns-in_err-typed-clause-gives g c =
    let p = c.args.self.now in
    let o = c.in_ok-take.ensures in
    λ s l q h other. rw (failed c.from_residual-in_err-typed.result c.from_residual-in_err-typed.ensures.1) (fails_after (members q) machine.typed at_name (λ α. h.leads α ∙ Expected.member_method q α (rest p) other ∙ took_leads o _) (o.end_is ∙ h.path.end_is) c.in_err-typed.ensures)

pub returns-in_err-parameter-clause-gives : goal.returns-in_err-parameter-clause-gives
returns-in_err-parameter-clause-gives g c =
    let p = c.args.self.now in
    let o = c.in_ok-take.ensures in
    let t = c.in_ok-typed.ensures in
    λ s l q h other. rw (failed c.from_residual-in_err-parameter.result c.from_residual-in_err-parameter.ensures.1) (fails_after (members q) (word kind.Name) at_close (λ α. h.leads α ∙ Expected.member_method q α (rest p) other ∙ took_leads o _ ∙ t.leads _) (t.end_is ∙ o.end_is ∙ h.path.end_is) c.in_err-parameter.ensures)

pub returns-in_err-take-2-clause-gives : goal.returns-in_err-take-2-clause-gives
returns-in_err-take-2-clause-gives g c =
    let p = c.args.self.now in
    let o = c.in_ok-take.ensures in
    let t = c.in_ok-typed.ensures in
    let n = c.in_ok-parameter.ensures in
    λ s l q h other. rw (failed c.from_residual-in_err-take-2.result c.from_residual-in_err-take-2.ensures.1) (fails_after (members q) (word kind.CloseParen) at_open (λ α. h.leads α ∙ Expected.member_method q α (rest p) other ∙ took_leads o _ ∙ t.leads _ ∙ took_leads n _) (n.end_is ∙ t.end_is ∙ o.end_is ∙ h.path.end_is) c.in_err-take-2.ensures)

pub returns-in_err-take-3-clause-gives : goal.returns-in_err-take-3-clause-gives
returns-in_err-take-3-clause-gives g c =
    let p = c.args.self.now in
    let o = c.in_ok-take.ensures in
    let t = c.in_ok-typed.ensures in
    let n = c.in_ok-parameter.ensures in
    let k = c.in_ok-take-2.ensures in
    λ s l q h other. rw (failed c.from_residual-in_err-take-3.result c.from_residual-in_err-take-3.ensures.1) (fails_after (members q) (word kind.OpenBrace) at_body (λ α. h.leads α ∙ Expected.member_method q α (rest p) other ∙ took_leads o _ ∙ t.leads _ ∙ took_leads n _ ∙ took_leads k _) (k.end_is ∙ n.end_is ∙ t.end_is ∙ o.end_is ∙ h.path.end_is) c.in_err-take-3.ensures)

pub returns-in_err-body-clause-gives : goal.returns-in_err-body-clause-gives
returns-in_err-body-clause-gives g c =
    let p = c.args.self.now in
    let o = c.in_ok-take.ensures in
    let t = c.in_ok-typed.ensures in
    let n = c.in_ok-parameter.ensures in
    let k = c.in_ok-take-2.ensures in
    let b = c.in_ok-take-3.ensures in
    λ s l q h other. rw (failed c.from_residual-in_err-body.result c.from_residual-in_err-body.ensures.1) (fails_after (members q) body at_return (λ α. h.leads α ∙ Expected.member_method q α (rest p) other ∙ took_leads o _ ∙ t.leads _ ∙ took_leads n _ ∙ took_leads k _ ∙ took_leads b _) (b.end_is ∙ k.end_is ∙ n.end_is ∙ t.end_is ∙ o.end_is ∙ h.path.end_is) c.in_err-body.ensures)

pub returns-in_err-place-clause-gives : goal.returns-in_err-place-clause-gives
returns-in_err-place-clause-gives g c =
    let p = c.args.self.now in
    let o = c.in_ok-take.ensures in
    let t = c.in_ok-typed.ensures in
    let n = c.in_ok-parameter.ensures in
    let k = c.in_ok-take-2.ensures in
    let b = c.in_ok-take-3.ensures in
    let d = c.in_ok-body.ensures in
    λ s l q h other. rw (failed c.from_residual-in_err-place.result c.from_residual-in_err-place.ensures.1) (fails_after (members q) (word kind.Return) at_result (λ α. h.leads α ∙ Expected.member_method q α (rest p) other ∙ took_leads o _ ∙ t.leads _ ∙ took_leads n _ ∙ took_leads k _ ∙ took_leads b _ ∙ d.leads _) (d.path.end_is ∙ b.end_is ∙ k.end_is ∙ n.end_is ∙ t.end_is ∙ o.end_is ∙ h.path.end_is) c.in_err-place.ensures)

pub returns-in_err-expr-clause-gives : goal.returns-in_err-expr-clause-gives
returns-in_err-expr-clause-gives g c =
    let p = c.args.self.now in
    let o = c.in_ok-take.ensures in
    let t = c.in_ok-typed.ensures in
    let n = c.in_ok-parameter.ensures in
    let k = c.in_ok-take-2.ensures in
    let b = c.in_ok-take-3.ensures in
    let d = c.in_ok-body.ensures in
    let r = c.in_ok-place.ensures in
    λ s l q h other. rw (failed c.from_residual-in_err-expr.result c.from_residual-in_err-expr.ensures.1) (fails_after (members q) (start whole) at_semicolon (λ α. h.leads α ∙ Expected.member_method q α (rest p) other ∙ took_leads o _ ∙ t.leads _ ∙ took_leads n _ ∙ took_leads k _ ∙ took_leads b _ ∙ d.leads _ ∙ took_leads r _) (r.end_is ∙ d.path.end_is ∙ b.end_is ∙ k.end_is ∙ n.end_is ∙ t.end_is ∙ o.end_is ∙ h.path.end_is) c.in_err-expr.ensures)

pub returns-in_err-take-4-clause-gives : goal.returns-in_err-take-4-clause-gives
returns-in_err-take-4-clause-gives g c =
    let p = c.args.self.now in
    let o = c.in_ok-take.ensures in
    let t = c.in_ok-typed.ensures in
    let n = c.in_ok-parameter.ensures in
    let k = c.in_ok-take-2.ensures in
    let b = c.in_ok-take-3.ensures in
    let d = c.in_ok-body.ensures in
    let r = c.in_ok-place.ensures in
    let e = c.in_ok-expr.ensures in
    λ s l q h other. rw (failed c.from_residual-in_err-take-4.result c.from_residual-in_err-take-4.ensures.1) (fails_after (members q) (word kind.Semicolon) at_brace (λ α. h.leads α ∙ Expected.member_method q α (rest p) other ∙ took_leads o _ ∙ t.leads _ ∙ took_leads n _ ∙ took_leads k _ ∙ took_leads b _ ∙ d.leads _ ∙ took_leads r _ ∙ e.leads _) (e.walk.end_is ∙ r.end_is ∙ d.path.end_is ∙ b.end_is ∙ k.end_is ∙ n.end_is ∙ t.end_is ∙ o.end_is ∙ h.path.end_is) c.in_err-take-4.ensures)

pub returns-in_err-take-5-clause-gives : goal.returns-in_err-take-5-clause-gives
returns-in_err-take-5-clause-gives g c =
    let p = c.args.self.now in
    let o = c.in_ok-take.ensures in
    let t = c.in_ok-typed.ensures in
    let n = c.in_ok-parameter.ensures in
    let k = c.in_ok-take-2.ensures in
    let b = c.in_ok-take-3.ensures in
    let d = c.in_ok-body.ensures in
    let r = c.in_ok-place.ensures in
    let e = c.in_ok-expr.ensures in
    let m = c.in_ok-take-4.ensures in
    λ s l q h other. rw (failed c.from_residual-in_err-take-5.result c.from_residual-in_err-take-5.ensures.1) (fails_after (members q) (word kind.CloseBrace) (λ α. members false ∷ α) (λ α. h.leads α ∙ Expected.member_method q α (rest p) other ∙ took_leads o _ ∙ t.leads _ ∙ took_leads n _ ∙ took_leads k _ ∙ took_leads b _ ∙ d.leads _ ∙ took_leads r _ ∙ e.leads _ ∙ took_leads m _) (m.end_is ∙ e.walk.end_is ∙ r.end_is ∙ d.path.end_is ∙ b.end_is ∙ k.end_is ∙ n.end_is ∙ t.end_is ∙ o.end_is ∙ h.path.end_is) c.in_err-take-5.ensures)

pub returns-clause-gives : goal.returns-clause-gives
returns-clause-gives g c =
    let o = c.in_ok-take.ensures in
    let t = c.in_ok-typed.ensures in
    let n = c.in_ok-parameter.ensures in
    let k = c.in_ok-take-2.ensures in
    let b = c.in_ok-take-3.ensures in
    let d = c.in_ok-body.ensures in
    let r = c.in_ok-place.ensures in
    let e = c.in_ok-expr.ensures in
    let m = c.in_ok-take-4.ensures in
    let f = c.in_ok-take-5.ensures in
    λ s l q h other. Bodies.method_read h other o t n k b c.put.ensures d r e c.put-2.ensures m f
