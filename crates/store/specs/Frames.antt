-- What the calls mean for what is read afterwards.
use Rattle.std.specs.Prelude.{◌≡◌, ℕ, ◌+◌, ◌<◌, ◌≤◌, Bool, true, ◌&&◌, length, Some, Ok, ◌≢◌, nat_le}
use Rattle.values.specs.declared.value.Value.{Value}
use Rattle.values.specs.declared.value.Value.TheVariants.{Null}
use Rattle.store.specs.declared.cell.Head.{Head}
use Rattle.store.specs.Rows.{KeepsRows}
use Rattle.store.specs.Model.{Model, after_make, field_at, fields_at, head_at, holding, make_answer, slots_of}

-- one field is changed: it holds v afterwards, and every other field, head and number is as it was, limits and charge too
pub record OneField (before after : Model) (c f : ℕ) (v : Value) : Type 0 where
  pub reads : field_at after c f ≡ Ok v
  pub others : (d g : ℕ) → (d ≡ c → g ≢ f) → field_at after d g ≡ field_at before d g
  pub heads : (d : ℕ) → head_at after d ≡ head_at before d
  pub counts : (d : ℕ) → fields_at after d ≡ fields_at before d
  pub cells : length after.cells ≡ length before.cells
  pub rows : KeepsRows before after
  pub fixed : after ≡ holding before after.cells

-- one cell is new and no more: it comes after the others, with its head and n null fields, and the others are as they
-- were, limits and charge too
pub record OneCell (before after : Model) (h : Head) (n c : ℕ) : Type 0 where
  pub next : c ≡ length before.cells
  pub head : head_at after c ≡ Some h
  pub count : fields_at after c ≡ Some n
  pub nulls : (f : ℕ) → f < n → field_at after c f ≡ Ok Null
  pub heads : (d : ℕ) → d < c → head_at after d ≡ head_at before d
  pub fields : (d f : ℕ) → d < c → field_at after d f ≡ field_at before d f
  pub cells : length after.cells ≡ length before.cells + 1
  pub rows : KeepsRows before after
  pub fixed : after ≡ holding before after.cells

-- room for k cells more that are charged s slots together
unfoldable pub has_room : Model → ℕ → ℕ → Bool
has_room m k s = nat_le (length m.cells + k) m.cell_limit && nat_le (slots_of m + s) m.slot_limit

-- Where there is room for a cell of n fields and for others, the cell is made, and the room for the others is left. So a
-- series of cells is made whole if there is room for all of it.
pub record RoomLasts (m : Model) : Type 0 where
  pub makes : (n k s : ℕ) → n ≤ 8 → has_room m (k + 1) (m.charge n + s) ≡ true → make_answer m n ≡ Ok (length m.cells)
  pub leaves : (h : Head) (n k s c : ℕ) → has_room m (k + 1) (m.charge n + s) ≡ true → has_room (after_make m h n (Ok c)) k s ≡ true
