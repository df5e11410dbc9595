use Rattle.std.proofs.Common.{◌≡◌, Some, None, arith, rules}
use Rattle.grammar.specs.declared.parser.items.Found.TheVariants as found
use Rattle.grammar.specs.Told.{rest, place_at, target_of}
use Rattle.grammar.proofs.Bodies.{done_action, target_place, no_target_fails}
use Rattle.grammar.proofs.Failing.{failed, finds_as}
use Rattle.grammar.proofs.parser.Parser.acted.Goals as goal

pub returns-then-eq : goal.returns-then-eq
returns-then-eq g c =
    let d : c.args.item.found ≡ found.Done = search rules in
    λ s l h. done_action (finds_as _ s _ l _ _ d h) c.requires.no_dot c.requires.no_colon

pub returns-in_err-target : goal.returns-in_err-target
returns-in_err-target g c =
    let p = c.args.self.now in
    let n : target_of c.args.item.found c.args.item.place ≡ None = grind arith in
    let d : c.args.item.found ≡ found.Done → ⊥ = search rules in
    let e : c.in_err-target.field-0.0.place ≡ place_at p.end (rest p) = grind arith in
    λ s l h. rw (failed c.from_residual.result c.from_residual.ensures.1) (no_target_fails g.S.Sink.after c.args.item.found s p l _ _ n d h c.requires.no_dot c.requires.no_colon e)

pub returns : goal.returns
returns g c =
    let t : target_of c.args.item.found c.args.item.place ≡ Some c.in_ok-target.target = grind arith in
    λ s l h. c.assigned.ensures s l _ (target_place g.S.Sink.after c.args.item.found s _ l _ _ _ t h c.requires.no_dot c.requires.no_colon)
