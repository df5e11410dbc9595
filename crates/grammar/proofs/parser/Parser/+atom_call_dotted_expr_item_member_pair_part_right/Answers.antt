use Rattle.std.proofs.Common.{◌≡◌, false, replicate, Some, None, sym, ap, ◌∙◌, arith, rules}
use Rattle.words.specs.declared.kind.Kind.TheVariants as kind
use Rattle.grammar.specs.declared.event.Event.TheVariants as event
use Rattle.grammar.specs.Events.{fed}
use Rattle.grammar.specs.Machine.{settable}
use Rattle.grammar.specs.Told.{rest, kind_at, place_at, literal_at, end_at, pairing_at, form_of}
use Rattle.grammar.specs.Trees.{literal_kind, end_kind}
use Rattle.grammar.proofs.Failing.{item_exit, expr_exit, part_exit, finds_as, target_part, last_part, failed, reach_word, reach_expr, reach_fails, reach_new, reach_paren, reach_call, reach_pair, equal_fails, literal_some, begin_fails, end_fails, dot_fails, pairing_of, pairing_took, pairing_doing, pairing_bare, no_pairing, end_some, no_end}
use Rattle.grammar.proofs.Items.{bare_held, new_done, paren_plain, literal_plain, read_item, after_dot_read, dotted_bare, end_plain, named_read, inner_held, call_done, pair_done, alone_read, equal_read, target_read, no_target, chain_none, chain_more, chain_read}
use Rattle.grammar.proofs.Passing.{took, seen_first, unseen_first}
use Rattle.grammar.proofs.parser.Parser.+atom_call_dotted_expr_item_member_pair_part_right.Goals.{part-then-sees+in_default, part-else-sees}
use Rattle.grammar.proofs.parser.Parser.+atom_call_dotted_expr_item_member_pair_part_right.Goals as goal

pub atom-returns-in_err-class-in-New : goal.atom-returns-in_err-class-in-New
atom-returns-in_err-class-in-New g t c =
    let x = failed c.from_residual-in_err-class-in-New.result c.from_residual-in_err-class-in-New.ensures.1 in
    let p = c.args.self.now in
    let k : kind_at (rest p) ≡ Some kind.New = search rules in
    let w = took kind.New p c.advance-in-New.new.self k c.advance-in-New.ensures in
    item_exit _ _ _ _ _ x (reach_fails (reach_new w) c.in_err-class-in-New.ensures)

pub atom-returns-in_err-take-in-New : goal.atom-returns-in_err-take-in-New
atom-returns-in_err-take-in-New g t c =
    let x = failed c.from_residual-in_err-take-in-New.result c.from_residual-in_err-take-in-New.ensures.1 in
    let p = c.args.self.now in
    let k : kind_at (rest p) ≡ Some kind.New = search rules in
    let w = took kind.New p c.advance-in-New.new.self k c.advance-in-New.ensures in
    let n = c.in_ok-class-in-New.ensures in
    item_exit _ _ _ _ _ x (reach_fails (reach_word (reach_new w) n) c.in_err-take-in-New.ensures)

pub atom-returns-in_err-take-in-New-2 : goal.atom-returns-in_err-take-in-New-2
atom-returns-in_err-take-in-New-2 g t c =
    let x = failed c.from_residual-in_err-take-in-New-2.result c.from_residual-in_err-take-in-New-2.ensures.1 in
    let p = c.args.self.now in
    let k : kind_at (rest p) ≡ Some kind.New = search rules in
    let w = took kind.New p c.advance-in-New.new.self k c.advance-in-New.ensures in
    let n = c.in_ok-class-in-New.ensures in
    let o = c.in_ok-take-in-New.ensures in
    item_exit _ _ _ _ _ x (reach_fails (reach_word (reach_word (reach_new w) n) o) c.in_err-take-in-New-2.ensures)

pub atom-returns-in_err-expr-in-OpenParen : goal.atom-returns-in_err-expr-in-OpenParen
atom-returns-in_err-expr-in-OpenParen g t c =
    let x = failed c.from_residual-in_err-expr-in-OpenParen.result c.from_residual-in_err-expr-in-OpenParen.ensures.1 in
    let p = c.args.self.now in
    let k : kind_at (rest p) ≡ Some kind.OpenParen = search rules in
    let o = took kind.OpenParen p c.advance-in-OpenParen.new.self k c.advance-in-OpenParen.ensures in
    item_exit _ _ _ _ _ x (reach_fails (reach_paren o) c.in_err-expr-in-OpenParen.ensures)

pub atom-returns-in_err-take-in-OpenParen : goal.atom-returns-in_err-take-in-OpenParen
atom-returns-in_err-take-in-OpenParen g t c =
    let x = failed c.from_residual-in_err-take-in-OpenParen.result c.from_residual-in_err-take-in-OpenParen.ensures.1 in
    let p = c.args.self.now in
    let k : kind_at (rest p) ≡ Some kind.OpenParen = search rules in
    let o = took kind.OpenParen p c.advance-in-OpenParen.new.self k c.advance-in-OpenParen.ensures in
    let e = c.in_ok-expr-in-OpenParen.ensures in
    item_exit _ _ _ _ _ x (reach_fails (reach_expr (reach_paren o) e) c.in_err-take-in-OpenParen.ensures)

pub atom-returns-in-Name : goal.atom-returns-in-Name
atom-returns-in-Name g t c =
    let p = c.args.self.now in
    let k : kind_at (rest p) ≡ Some kind.Name = search rules in
    bare_held _ (took kind.Name p c.advance.new.self k c.advance.ensures)

pub atom-returns-in_ok-take-in-New-2 : goal.atom-returns-in_ok-take-in-New-2
atom-returns-in_ok-take-in-New-2 g t c =
    let p = c.args.self.now in
    let k : kind_at (rest p) ≡ Some kind.New = search rules in
    let w = took kind.New p c.advance-in-New.new.self k c.advance-in-New.ensures in
    let put = c.put.ensures ∙ ap (λ a. g.S.Sink.after c.args.sink.now (event.New c.in_ok-class-in-New.class a)) c.place-place.ensures in
    new_done w c.in_ok-class-in-New.ensures c.in_ok-take-in-New.ensures c.in_ok-take-in-New-2.ensures put

pub atom-returns-in_ok-take-in-OpenParen : goal.atom-returns-in_ok-take-in-OpenParen
atom-returns-in_ok-take-in-OpenParen g t c =
    let p = c.args.self.now in
    let k : kind_at (rest p) ≡ Some kind.OpenParen = search rules in
    let o = took kind.OpenParen p c.advance-in-OpenParen.new.self k c.advance-in-OpenParen.ensures in
    paren_plain o c.in_ok-expr-in-OpenParen.ensures c.in_ok-take-in-OpenParen.ensures c.put-in-OpenParen.ensures

pub atom-returns-in_err-kind : goal.atom-returns-in_err-kind
atom-returns-in_err-kind g t c =
    let x = failed c.from_residual.result c.from_residual.ensures.1 in
    let p = c.args.self.now in
    let n : kind_at (rest p) ≡ None = grind arith in
    let e : c.in_err-kind.field-0.0.place ≡ place_at p.end (rest p) = grind arith in
    item_exit _ _ _ _ _ x (end_fails n e)

pub atom-returns-in_err-value-in_default : goal.atom-returns-in_err-value-in_default
atom-returns-in_err-value-in_default g t c =
    let x = failed c.from_residual-in_err-value-in_default.result c.from_residual-in_err-value-in_default.ensures.1 in
    let p = c.args.self.now in
    let other = c.in_default in
    let k : kind_at (rest p) ≡ Some c.in_ok-kind.kind = grind arith in
    let n : literal_at c.in_ok-kind.kind ≡ None = grind arith in
    let e : c.in_err-value-in_default.field-0.0.place ≡ place_at p.end (rest p) = grind arith in
    item_exit _ _ _ _ _ x (begin_fails c.in_ok-kind.kind k other.not-Name other.not-New other.not-OpenParen n e)

pub atom-returns-in_ok-value-in_default : goal.atom-returns-in_ok-value-in_default
atom-returns-in_ok-value-in_default g t c =
    let p = c.args.self.now in
    let k : kind_at (rest p) ≡ Some c.in_ok-kind.kind = grind arith in
    let l : literal_at c.in_ok-kind.kind ≡ Some c.in_ok-value-in_default.value = grind arith in
    let v = literal_some c.in_ok-kind.kind c.in_ok-value-in_default.value l in
    let w = took (literal_kind v.0) p c.advance-in_default.new.self (k ∙ ap Some v.1) c.advance-in_default.ensures in
    literal_plain v.0 w (c.put-in_default.ensures ∙ (λ i. g.S.Sink.after c.args.sink.now (event.Literal (v.2 i) (c.place-place.ensures i))))

pub call-returns-in_err-expr-clause-gives : goal.call-returns-in_err-expr-clause-gives
call-returns-in_err-expr-clause-gives g t c =
    let x = failed c.from_residual.result c.from_residual.ensures.1 in
    let p = c.args.self.now in
    let o = took kind.OpenParen p c.advance.new.self c.requires c.advance.ensures in
    λ s l h. item_exit _ _ l _ _ x (reach_fails (reach_call h o) c.in_err-expr.ensures)

pub call-returns-in_err-take-clause-gives : goal.call-returns-in_err-take-clause-gives
call-returns-in_err-take-clause-gives g t c =
    let x = failed c.from_residual-in_err-take.result c.from_residual-in_err-take.ensures.1 in
    let p = c.args.self.now in
    let o = took kind.OpenParen p c.advance.new.self c.requires c.advance.ensures in
    let e = c.in_ok-expr.ensures in
    λ s l h. item_exit _ _ l _ _ x (reach_fails (reach_expr (reach_call h o) e) c.in_err-take.ensures)

pub call-returns-clause-gives : goal.call-returns-clause-gives
call-returns-clause-gives g t c =
    let p = c.args.self.now in
    let o = took kind.OpenParen p c.advance.new.self c.requires c.advance.ensures in
    let e = c.in_ok-expr.ensures in
    let k = c.in_ok-take.ensures in
    λ s l h. call_done h o e k c.put.ensures

pub dotted-returns-in-Some-clause-gives : goal.dotted-returns-in-Some-clause-gives
dotted-returns-in-Some-clause-gives g t c =
    let p = c.args.self.now in
    let d = took kind.Dot p c.advance.new.self c.requires c.advance.ensures in
    let f = pairing_bare c.args.item.found _ _ (sym c.in-Some.ensures) in
    λ s l h. c.pair.ensures.gives s l (dotted_bare (finds_as _ s p l _ _ f h) d)

pub dotted-returns-clause-gives : goal.dotted-returns-clause-gives
dotted-returns-clause-gives g t c =
    let p = c.args.self.now in
    let d = took kind.Dot p c.advance.new.self c.requires c.advance.ensures in
    let n : pairing_at c.args.item.found (rest c.advance.new.self) ≡ None = search rules in
    λ s l h.
    c.member.ensures.gives s l
    (after_dot_read (read_item c.args.item.found s p l _ _ _ h c.report_value.ensures) d (no_pairing c.args.item.found _ n))

pub expr-loop-targets-init : goal.expr-loop-targets-init
expr-loop-targets-init g t c = chain_none _ _

pub expr-loop-targets-preserved : goal.expr-loop-targets-preserved
expr-loop-targets-preserved g t c = chain_more c.loop-targets.invariant (target_part c.in_ok-part.field-0 (search rules) c.in_ok-part.ensures)

pub expr-returns : goal.expr-returns
expr-returns g t c =
    let l = c.part.new.sink in
    let e : c.loop.counter ≡ c.loop-targets.targets = omega (arith, c.loop-test.false, c.loop.auto.counter-end) in
    chain_read c.loop-targets.invariant (last_part c.in_ok-part.field-0 (search rules) c.in_ok-part.ensures) (c.loop.invariant ∙ ap (λ n. fed g.S.Sink.after l (replicate n event.Assigned)) e)

pub member-returns-in-Some-clause-gives : goal.member-returns-in-Some-clause-gives
member-returns-in-Some-clause-gives g t c =
    let p = c.args.self.now in
    let x = end_some (rest p) c.in-Some.end (sym c.in-Some.ensures) in
    let w = took (end_kind x.0) p c.advance.new.self x.1 c.advance.ensures in
    λ s l h. end_plain x.0 h w (c.put.ensures ∙ ap (λ y. g.S.Sink.after c.args.sink.now (event.End y c.args.place)) x.2)

pub member-returns-in_err-name-clause-gives : goal.member-returns-in_err-name-clause-gives
member-returns-in_err-name-clause-gives g t c =
    let x = failed c.from_residual.result c.from_residual.ensures.1 in
    let n : end_at (rest c.args.self.now) ≡ None = search rules in
    let other = no_end _ n in
    λ s l h. item_exit _ _ l _ _ x (dot_fails h other.0 other.1 c.in_err-name.ensures)

pub member-returns-then-sees-clause-gives : goal.member-returns-then-sees-clause-gives
member-returns-then-sees-clause-gives g t c = λ s l h. c.call.ensures.gives s l (named_read h c.in_ok-name.ensures)

pub member-returns-else-sees-clause-gives : goal.member-returns-else-sees-clause-gives
member-returns-else-sees-clause-gives g t c = λ s l h. inner_held (named_read h c.in_ok-name.ensures) (unseen_first kind.OpenParen _ (sym c.if-sees.ensures))

pub pair-returns-in_err-take-clause-gives : goal.pair-returns-in_err-take-clause-gives
pair-returns-in_err-take-clause-gives g t c =
    let x = failed c.from_residual.result c.from_residual.ensures.1 in
    let p = c.args.self.now in
    let y = pairing_of c.args.pairing in
    let a = pairing_took c.args.pairing p c.advance.new.self c.requires c.advance.ensures in
    λ s l h. item_exit _ _ l _ _ x (reach_fails (reach_pair y h a) c.in_err-take.ensures)

pub pair-returns-in_err-expr-clause-gives : goal.pair-returns-in_err-expr-clause-gives
pair-returns-in_err-expr-clause-gives g t c =
    let x = failed c.from_residual-in_err-expr.result c.from_residual-in_err-expr.ensures.1 in
    let p = c.args.self.now in
    let y = pairing_of c.args.pairing in
    let a = pairing_took c.args.pairing p c.advance.new.self c.requires c.advance.ensures in
    let b = c.in_ok-take.ensures in
    λ s l h. item_exit _ _ l _ _ x (reach_fails (reach_word (reach_pair y h a) b) c.in_err-expr.ensures)

pub pair-returns-in_err-take-2-clause-gives : goal.pair-returns-in_err-take-2-clause-gives
pair-returns-in_err-take-2-clause-gives g t c =
    let x = failed c.from_residual-in_err-take-2.result c.from_residual-in_err-take-2.ensures.1 in
    let p = c.args.self.now in
    let y = pairing_of c.args.pairing in
    let a = pairing_took c.args.pairing p c.advance.new.self c.requires c.advance.ensures in
    let b = c.in_ok-take.ensures in
    let e = c.in_ok-expr.ensures in
    λ s l h. item_exit _ _ l _ _ x (reach_fails (reach_expr (reach_word (reach_pair y h a) b) e) c.in_err-take-2.ensures)

pub pair-returns-in_err-expr-2-clause-gives : goal.pair-returns-in_err-expr-2-clause-gives
pair-returns-in_err-expr-2-clause-gives g t c =
    let x = failed c.from_residual-in_err-expr-2.result c.from_residual-in_err-expr-2.ensures.1 in
    let p = c.args.self.now in
    let y = pairing_of c.args.pairing in
    let a = pairing_took c.args.pairing p c.advance.new.self c.requires c.advance.ensures in
    let b = c.in_ok-take.ensures in
    let e = c.in_ok-expr.ensures in
    let m = c.in_ok-take-2.ensures in
    λ s l h. item_exit _ _ l _ _ x (reach_fails (reach_word (reach_expr (reach_word (reach_pair y h a) b) e) m) c.in_err-expr-2.ensures)

pub pair-returns-in_err-take-3-clause-gives : goal.pair-returns-in_err-take-3-clause-gives
pair-returns-in_err-take-3-clause-gives g t c =
    let x = failed c.from_residual-in_err-take-3.result c.from_residual-in_err-take-3.ensures.1 in
    let p = c.args.self.now in
    let y = pairing_of c.args.pairing in
    let a = pairing_took c.args.pairing p c.advance.new.self c.requires c.advance.ensures in
    let b = c.in_ok-take.ensures in
    let e = c.in_ok-expr.ensures in
    let m = c.in_ok-take-2.ensures in
    let f = c.in_ok-expr-2.ensures in
    λ s l h. item_exit _ _ l _ _ x (reach_fails (reach_expr (reach_word (reach_expr (reach_word (reach_pair y h a) b) e) m) f) c.in_err-take-3.ensures)

pub pair-returns-clause-gives : goal.pair-returns-clause-gives
pair-returns-clause-gives g t c =
    let p = c.args.self.now in
    let y = pairing_of c.args.pairing in
    let a = pairing_took c.args.pairing p c.advance.new.self c.requires c.advance.ensures in
    let b = c.in_ok-take.ensures in
    let e = c.in_ok-expr.ensures in
    let m = c.in_ok-take-2.ensures in
    let f = c.in_ok-expr-2.ensures in
    let k = c.in_ok-take-3.ensures in
    let put = c.put.ensures ∙ ap (λ x. g.S.Sink.after c.expr-2.new.sink (event.Pair x c.args.place)) (pairing_doing c.args.pairing) in
    λ s l h. pair_done y h a b e m f k put

pub part-returns-in-Some : goal.part-returns-in-Some
part-returns-in-Some g t c =
    let p = c.args.self.now in
    let q = c.item.new.self in
    let f = c.in_ok-item.item.found in
    let w = took kind.Assign q c.advance.new.self (seen_first kind.Assign _ (sym c.if-sees.ensures)) c.advance.ensures in
    target_read _ f p q _ _ _ _ (sym c.in-Some.ensures) c.in_ok-item.ensures.gives w c.put.ensures

pub part-returns-in_err-right : goal.part-returns-in_err-right
part-returns-in_err-right g t c =
    let x = failed c.from_residual-in_err-right.result c.from_residual-in_err-right.ensures.1 in
    let p = c.args.self.now in
    let f = c.in_ok-item.item.found in
    part_exit _ _ _ _ x (c.in_err-right.ensures p c.args.sink.now (form_of f) (read_item f p _ _ _ _ _ c.in_ok-item.ensures.gives c.report_value.ensures))

pub part-returns-in_ok-right : goal.part-returns-in_ok-right
part-returns-in_ok-right g t c =
    let p = c.args.self.now in
    let f = c.in_ok-item.item.found in
    c.in_ok-right.ensures p c.args.sink.now (form_of f) (read_item f p _ _ _ _ _ c.in_ok-item.ensures.gives c.report_value.ensures)

pub part-returns-else-sees-2 : goal.part-returns-else-sees-2
part-returns-else-sees-2 g t c =
    let p = c.args.self.now in
    let i = c.in_ok-item.ensures in
    let f = c.in_ok-item.item.found in
    let kept : kind_at (rest c.item.new.self) ≡ Some kind.Assign → settable (form_of f) ≡ false = elim c.if-sees.branch [
      | part-then-sees+in_default w ↦ λ _. no_target f c.in_ok-item.item.place (sym w.in_default.ensures)
      | part-else-sees w ↦ λ e. absurd (unseen_first kind.Assign _ (sym w.if-sees.ensures) e)
    ] in
    alone_read (read_item f p _ _ _ _ _ c.in_ok-item.ensures.gives c.report_value.ensures) i.ended.0 i.ended.1 (unseen_first kind.Equal _ (sym c.if-sees-2.ensures)) kept

pub right-returns-in_err-item : goal.right-returns-in_err-item
right-returns-in_err-item g t c =
    let x = failed c.from_residual.result c.from_residual.ensures.1 in
    let p = c.args.self.now in
    let q = took kind.Equal p c.advance.new.self c.requires c.advance.ensures in
    λ s l f h. expr_exit _ _ l _ x (equal_fails h q c.in_err-item.ensures.gives)

pub right-returns : goal.right-returns
right-returns g t c =
    let p = c.args.self.now in
    let q = took kind.Equal p c.advance.new.self c.requires c.advance.ensures in
    let i = c.in_ok-item.ensures in
    let j = read_item c.in_ok-item.item.found c.advance.new.self c.item.new.self _ _ _ _ i.gives c.report_value.ensures in
    λ s l f h. equal_read h q j i.ended.0 i.ended.1 c.put.ensures
