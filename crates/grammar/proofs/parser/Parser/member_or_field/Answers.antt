use Rattle.std.proofs.Common.{true, ◌∷◌, sym, refl, ◌∙◌}
use Rattle.words.specs.declared.kind.Kind.TheVariants as kind
use Rattle.grammar.specs.Machine as machine
use Rattle.grammar.specs.Machine.{Sym, word, start, stmts, body, decls, members, whole, acting}
use Rattle.grammar.specs.Bodies.{fields_in}
use Rattle.grammar.specs.Told.{rest}
use Rattle.grammar.proofs.Bodies
use Rattle.grammar.proofs.Expected
use Rattle.grammar.proofs.Passing.{took, seen_first}
use Rattle.grammar.proofs.Steps.{fails_after}
use Rattle.grammar.proofs.Failing.{failed}
use Rattle.grammar.proofs.parser.Parser.member_or_field.Goals as goal
use Rattle.std.proofs.lemmas.Bool.{and_parts}

pub returns-in_err-typed-clause-gives : goal.returns-in_err-typed-clause-gives
returns-in_err-typed-clause-gives g c =
    let p = c.args.self.now in
    let x = c.args.section in
    let b = fields_in x in
    λ s l h. rw (failed c.from_residual.result c.from_residual.ensures.1) (Bodies.gather_fails _ x s p l _ h (fails_after (members b) machine.typed (λ α. word kind.Name ∷ machine.member b ∷ α) (λ α. Expected.members_type b α (rest p) c.requires) refl c.in_err-typed.ensures))

pub returns-in_err-name-clause-gives : goal.returns-in_err-name-clause-gives
returns-in_err-name-clause-gives g c =
    let p = c.args.self.now in
    let x = c.args.section in
    let b = fields_in x in
    let t = c.in_ok-typed.ensures in
    λ s l h. rw (failed c.from_residual-in_err-name.result c.from_residual-in_err-name.ensures.1) (Bodies.gather_fails _ x s p l _ h (fails_after (members b) (word kind.Name) (λ α. machine.member b ∷ α) (λ α. Expected.members_type b α (rest p) c.requires ∙ t.leads _) t.end_is c.in_err-name.ensures))

pub returns-then-field_ends-clause-gives : goal.returns-then-field_ends-clause-gives
returns-then-field_ends-clause-gives g c =
    let t = c.in_ok-typed.ensures in
    let n = c.in_ok-name.ensures in
    let p = c.args.self.now in
    let both = and_parts _ _ (sym c.if-field_ends.ensures) in
    let m = took kind.Semicolon c.take.new.self _ (seen_first kind.Semicolon _ both.0) c.advance.ensures in
    λ s l h. Bodies.gather_field c.args.section s p _ l _ _ both.1 h (Bodies.field_read (Bodies.headed _ true c.requires t n) m c.put.ensures)

pub returns-in_err-method-clause-gives : goal.returns-in_err-method-clause-gives
returns-in_err-method-clause-gives g c =
    let p = c.args.self.now in
    let x = c.args.section in
    let b = fields_in x in
    let t = c.in_ok-typed.ensures in
    let n = c.in_ok-name.ensures in
    λ s l h. rw (failed c.from_residual-in_err-method.result c.from_residual-in_err-method.ensures.1) (Bodies.gather_fails _ x s p l _ h (c.in_err-method.ensures.gives p _ b (Bodies.headed _ b c.requires t n) (sym c.if-field_ends.ensures)))

pub returns-clause-gives : goal.returns-clause-gives
returns-clause-gives g c =
    let p = c.args.self.now in
    let x = c.args.section in
    let b = fields_in x in
    let t = c.in_ok-typed.ensures in
    let n = c.in_ok-name.ensures in
    let m = c.in_ok-method.ensures in
    λ s l h. Bodies.gather_method x s p _ l _ _ h (m.gives p _ b (Bodies.headed _ b c.requires t n) (sym c.if-field_ends.ensures))
