use Rattle.std.proofs.Common.{◌≡◌, false, Some, rules, refl}
use Rattle.words.specs.declared.kind.Kind.TheVariants as kind
use Rattle.grammar.specs.Machine.{typed, word}
use Rattle.grammar.specs.Told.{rest, kind_at, seen}
use Rattle.grammar.proofs.Bodies.{boolean_read, row_read}
use Rattle.grammar.proofs.Expected.{typed_name}
use Rattle.grammar.proofs.Failing.{failed}
use Rattle.grammar.proofs.Passing.{took, unseen_first}
use Rattle.grammar.proofs.Steps.{fails_after}
use Rattle.grammar.proofs.parser.Parser.typed.Goals as goal

pub returns-in-Some-Boolean : goal.returns-in-Some-Boolean
returns-in-Some-Boolean c =
    let k : kind_at (rest c.args.self.now) ≡ Some kind.Boolean = search rules in
    boolean_read (took kind.Boolean c.args.self.now _ k c.advance.ensures)

pub returns-in_err-name-in_default : goal.returns-in_err-name-in_default
returns-in_err-name-in_default c =
    let ws = rest c.args.self.now in
    let b : seen kind.Boolean ws ≡ false = search rules in
    let s : seen kind.Set ws ≡ false = search rules in
    rw (failed c.from_residual.result c.from_residual.ensures.1) (fails_after typed (word kind.Name) (λ α. α) (λ α. typed_name α ws (unseen_first kind.Boolean _ b) (unseen_first kind.Set _ s)) refl c.in_err-name-in_default.ensures)

pub returns-in_ok-name-in_default : goal.returns-in_ok-name-in_default
returns-in_ok-name-in_default c =
    let ws = rest c.args.self.now in
    let b : seen kind.Boolean ws ≡ false = search rules in
    let s : seen kind.Set ws ≡ false = search rules in
    row_read (unseen_first kind.Boolean _ b) (unseen_first kind.Set _ s) c.in_ok-name-in_default.ensures
