use Rattle.std.proofs.Common.{◌≡◌, ◌+◌, ◌*◌, ◌≤◌, length, replicate}
use Rattle.grammar.specs.declared.event.Event.TheVariants.{Assigned}
use Rattle.grammar.specs.declared.parser.Parser.{Parser}
use Rattle.grammar.specs.Events.{fed}
use Rattle.grammar.specs.Told.{rest, Finds}
use Rattle.grammar.proofs.Items.{Chained}
use Rattle.grammar.proofs.parser.Parser.+atom_call_dotted_expr_item_member_pair_part_right.Given as goal

abbrev pub decreases-atom : goal.decreases-atom
decreases-atom g l = 4 * length (rest l.self.now)

abbrev pub decreases-call : goal.decreases-call
decreases-call g l = 4 * length (rest l.self.now)

abbrev pub decreases-dotted : goal.decreases-dotted
decreases-dotted g l = 4 * length (rest l.self.now)

abbrev pub decreases-member : goal.decreases-member
decreases-member g l = 4 * length (rest l.self.now)

abbrev pub decreases-pair : goal.decreases-pair
decreases-pair g l = 4 * length (rest l.self.now)

abbrev pub decreases-right : goal.decreases-right
decreases-right g l = 4 * length (rest l.self.now)

abbrev pub decreases-item : goal.decreases-item
decreases-item g l = 4 * length (rest l.self.now) + 1

abbrev pub decreases-part : goal.decreases-part
decreases-part g l = 4 * length (rest l.self.now) + 2

abbrev pub decreases-expr : goal.decreases-expr
decreases-expr g l = 4 * length (rest l.self.now) + 3

abbrev pub invariant-item-loop-self : goal.invariant-item-loop-self
invariant-item-loop-self g l =
    (l.self.end ≡ l.initial.self.end)
    × (length (rest l.self) ≤ length (rest l.initial.self))
    × (l.item.place ≡ l.initial.item.place)
    × ((s : Parser) (k : g.row.S.Denot) → Finds g.S.Sink.after s k l.item.place l.initial.item.found l.initial.self l.initial.sink → Finds g.S.Sink.after s k l.item.place l.item.found l.self l.sink)

abbrev pub decreases-item-loop-self : goal.decreases-item-loop-self
decreases-item-loop-self g l = length (rest l.self)

abbrev pub invariant-expr-loop-targets : goal.invariant-expr-loop-targets
invariant-expr-loop-targets g l = Chained g.S.Sink.after l.initial.self l.initial.sink l.self l.sink l.targets

abbrev pub decreases-expr-loop-targets : goal.decreases-expr-loop-targets
decreases-expr-loop-targets g l = length (rest l.self)

abbrev pub invariant-expr-loop : goal.invariant-expr-loop
invariant-expr-loop g l = l.sink ≡ fed g.S.Sink.after l.initial.sink (replicate l.counter Assigned)
