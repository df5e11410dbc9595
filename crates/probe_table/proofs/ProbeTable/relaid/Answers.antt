use Rattle.std.proofs.Common.{◌≡◌, ◌+◌, ◌<◌, length, take, sym, ap, ◌∙◌, subst, arith}
use Rattle.probe_table.specs.declared.ProbeTable.{ProbeTable}
use Rattle.probe_table.specs.Probing.{held, Same}
use Rattle.probe_table.proofs.Probing.{next_row, same_nil, same_more, held_next_row, held_next_none, held_all, row_in_held, no_row_in}
use Rattle.probe_table.proofs.ProbeTable.relaid.Goals as goal
use Rattle.probe_table.proofs.ProbeTable.relaid.Goals.{in-Some, in_default}

pub loop-place-init : goal.loop-place-init
loop-place-init c =
    let none = ap length c.new-fresh.ensures.rows in
    (same_nil _ c.new-fresh.ensures.rows, omega (arith, c.new-fresh.result.counted))

pub insert-requires : goal.insert-requires
insert-requires c =
    let self = c.args.self.now in
    let next = next_row self.places c.loop-place.place-index c.in-Some.row (omega arith) (row_in_held _ c.in-Some.row (sym c.row.ensures ∙ c.in-Some.is)) self.differ self.little in
    let same = c.loop-place.invariant.0 in
    let small_count : c.loop-place.fresh.count < 256 = omega (arith, same.count, next.fewer, self.counted, self.few, c.loop-place.fresh.counted) in
    record {
      fit = next.fit;
      absent = same.found _ _ _ ∙ next.absent;
      room = small_count;
      unworn = omega arith;
    }

pub loop-place-preserved : goal.loop-place-preserved
loop-place-preserved c =
    let self = c.args.self.now in
    let p = c.loop-place.place-index in
    let same = c.loop-place.invariant.0 in
    let Laid : ProbeTable → Type 0 = λ t. Same (held (take (p + 1) self.places)) (held t.places) × (t.spent ≡ t.count) in
    elim c.match-row.branch [
      | in-Some w ↦
          let row = w.in-Some.row in
          let next = next_row self.places p row (omega arith) (row_in_held _ w.in-Some.row (sym c.row.ensures ∙ w.in-Some.is)) self.differ self.little in
          let after = w.insert.new.self in
          let more : Same (held (take (p + 1) self.places)) (held after.places) =
          subst (λ x. Same x (held after.places)) (sym (held_next_row self.places p row (omega arith) (row_in_held _ w.in-Some.row (sym c.row.ensures ∙ w.in-Some.is))))
          (same_more (held (take p self.places)) (held c.loop-place.fresh.places) (held after.places) row same next.absent w.insert.ensures.added) in
          subst Laid (sym w.fresh-is)
          (more, omega (arith, w.insert.ensures.spends, w.insert.ensures.added.count, after.counted, c.loop-place.fresh.counted, c.loop-place.invariant.1))
      | in_default w ↦
          subst Laid (sym w.fresh-is)
          (subst (λ x. Same x (held c.loop-place.fresh.places)) (sym (held_next_none self.places p (omega arith) (no_row_in _ c.row.result c.row.ensures w.in_default.not-Some))) same, c.loop-place.invariant.1)
    ]

pub returns : goal.returns
returns c =
    let self = c.args.self.now in
    record {
      same = subst (λ x. Same x (held c.loop-place.fresh.places)) (held_all self.places c.loop-place.place-index (omega arith)) c.loop-place.invariant.0;
      unspent = c.loop-place.invariant.1;
    }
