-- What every store keeps to.
use Rattle.std.specs.Prelude.{◌≡◌, ℕ, ◌<◌, ◌≤◌, length, All}
use Rattle.store.specs.Model.{Model, slots_of}

-- at most 128 cells and 1,024 slots; a cell of n fields, at most 8, is charged n to 8 slots, and above 8 as for 8;
-- what is stored stays within the limits
pub record Lawful (m : Model) : Type 0 where
  pub cells_least : 1 ≤ m.cell_limit
  pub cells_most : m.cell_limit ≤ 128
  pub slots_least : 8 ≤ m.slot_limit
  pub slots_most : m.slot_limit ≤ 1024
  pub charge_least : (n : ℕ) → n ≤ 8 → n ≤ m.charge n
  pub charge_most : (n : ℕ) → m.charge n ≤ 8
  pub charge_above : (n : ℕ) → 8 < n → m.charge n ≡ m.charge 8
  pub cells_within : length m.cells ≤ m.cell_limit
  pub slots_within : slots_of m ≤ m.slot_limit
  pub fields_within : All (λ c. length c.fields ≤ 8) m.cells
