-- What the calls answer, from the cell at a place.
use Rattle.std.proofs.Common.{◌≡◌, ℕ, zero, suc, ◌+◌, ◌<◌, ◌≤◌, List, [], ◌∷◌, length, set, Some, None, Ok, Err, ap, arith}
use Rattle.std.specs.List.{slice_get}
use Rattle.std.proofs.lemmas.Option.{slice_get_past}
use Rattle.std.proofs.lemmas.Bool.{lt-ltb, le-ltb}
use Rattle.values.specs.declared.value.Value.{Value}
use Rattle.store.specs.declared.cell.MakeRefusal.TheVariants.{Fields, Cells, Slots}
use Rattle.store.specs.declared.cell.Absent.TheVariants.{Cell, Field}
use Rattle.store.specs.Model.{Model, StoredCell, make_answer, slots_of, head_at, fields_at, field_at, changed, written}

module _ (m : Model) (n : ℕ) where
  pub refused_fields : 8 < n → Err Fields ≡ make_answer m n
  unfolding make_answer
  refused_fields h = let a = lt-ltb 8 n h in simp a

  pub refused_cells : n ≤ 8 → m.cell_limit ≤ length m.cells → Err Cells ≡ make_answer m n
  unfolding make_answer
  refused_cells h k =
      let a = le-ltb 8 n h in
      let b = lt-ltb m.cell_limit (length m.cells + 1) (omega arith) in
      simp (a, b)

  pub refused_slots : n ≤ 8 → length m.cells < m.cell_limit → m.slot_limit < slots_of m + m.charge n → Err Slots ≡ make_answer m n
  unfolding make_answer
  refused_slots h k l =
      let a = le-ltb 8 n h in
      let b = le-ltb m.cell_limit (length m.cells + 1) (omega arith) in
      let c = lt-ltb m.slot_limit (slots_of m + m.charge n) l in
      simp (a, b, c)

  pub makes : n ≤ 8 → length m.cells < m.cell_limit → slots_of m + m.charge n ≤ m.slot_limit → Ok (length m.cells) ≡ make_answer m n
  unfolding make_answer
  makes h k l =
      let a = le-ltb 8 n h in
      let b = le-ltb m.cell_limit (length m.cells + 1) (omega arith) in
      let c = le-ltb m.slot_limit (slots_of m + m.charge n) l in
      simp (a, b, c)

module _ (m : Model) (c : ℕ) where
  pub no_head : length m.cells ≤ c → None ≡ head_at m c
  unfolding head_at
  no_head h = let e = slice_get_past m.cells c h in simp e

  pub no_count : length m.cells ≤ c → None ≡ fields_at m c
  unfolding fields_at
  no_count h = let e = slice_get_past m.cells c h in simp e

  pub no_cell : (f : ℕ) → length m.cells ≤ c → Err Cell ≡ field_at m c f
  unfolding field_at
  no_cell f h = let e = slice_get_past m.cells c h in simp e

  module _ (x : StoredCell) (there : slice_get m.cells c ≡ Some x) where
    pub its_head : Some x.head ≡ head_at m c
    unfolding head_at
    its_head = simp there

    pub its_count : Some (length x.fields) ≡ fields_at m c
    unfolding fields_at
    its_count = simp there

    pub no_field : (f : ℕ) → length x.fields ≤ f → Err Field ≡ field_at m c f
    unfolding field_at
    no_field f h = let e = slice_get_past x.fields f h in simp (there, e)

    pub its_field : (f : ℕ) (v : Value) → slice_get x.fields f ≡ Some v → Ok v ≡ field_at m c f
    unfolding field_at
    its_field f v e = simp (there, e)

clash : {C : Type 0} {x : StoredCell} → None ≡ Some x → C
clash e = let z : ◌≡◌ {A = ℕ} 0 1 = cc in absurd (omega arith)

-- one changed cell is one cell set
pub changed_set : (cs : List StoredCell) (c f : ℕ) (v : Value) (x : StoredCell) → slice_get cs c ≡ Some x → changed cs c f v ≡ set cs c (written x f v)
unfolding changed
changed_set [] c f v x e = clash e
changed_set (y ∷ ys) zero f v x e = let p : y ≡ x = cc in rw p
changed_set (y ∷ ys) (suc c) f v x e = ap (λ l. y ∷ l) (changed_set ys c f v x e)
