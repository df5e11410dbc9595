use Rattle.std.proofs.Common.{◌<◌, List, get_or, ap, arith, subst}
use Rattle.std.proofs.lemmas.List.{get_or_default}
use Rattle.even_store.specs.declared.even.Place.{Place}
use Rattle.values.specs.declared.value.Value.{Value}
use Rattle.store.specs.Model.{StoredCell, done}
use Rattle.store.proofs.Calls.{no_cell, no_field, its_field}
use Rattle.store.proofs.Places.{set_front}
use Rattle.even_store.specs.Even.{even, even_model}
use Rattle.even_store.specs.EvenPlaces.{used_cells, cell_at, count_of, field_at_lem, cells_changed}
use Rattle.even_store.proofs.even.calls.EvenStoreStore.put.Goals as goal

pub returns-then-cell-self-clause-answer : goal.returns-then-cell-self-clause-answer
returns-then-cell-self-clause-answer c =
    let s = c.args.self.now in
    let n = used_cells s in
    ap done (no_cell (even_model s) c.args.cell c.args.field (omega arith))

pub returns-then-field-self-clause-answer : goal.returns-then-field-self-clause-answer
returns-then-field-self-clause-answer c =
    let s = c.args.self.now in
    let d = c.index-self-cell.result in
    let n = count_of (get_or s.places c.args.cell d) in
    ap done (no_field (even_model s) c.args.cell _ (cell_at s c.args.cell d c.if-cell-self.false) c.args.field (omega arith))

pub returns-clause-answer : goal.returns-clause-answer
returns-clause-answer c =
    let s = c.args.self.now in
    let d = c.index-self-cell.result in
    let p = get_or s.places c.args.cell d in
    ap done (its_field (even_model s) c.args.cell _ (cell_at s c.args.cell d c.if-cell-self.false) c.args.field _
    (field_at_lem p c.args.field c.args.value c.if-field-self.false))

pub returns-clause-after : goal.returns-clause-after
returns-clause-after c =
    let s = c.args.self.now in
    let d = c.index-self-cell-2.result in
    let p = get_or s.places c.args.cell d in
    let cell : List Value → StoredCell = λ vs. record { head = p.head; fields = vs } in
    let l : c.args.field < p.count =
    subst (λ (q : Place). c.args.field < q.count) (get_or_default s.places c.args.cell c.index-self-cell.result d (omega (arith, s.whole, s.few, c.if-cell-self.false))) c.if-field-self.false in
    ap even (cells_changed s c.args.cell c.args.field c.args.value d _ c.if-cell-self.false (ap cell (set_front p.values p.count c.args.field c.args.value l)))
