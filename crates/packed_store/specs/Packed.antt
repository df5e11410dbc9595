-- What the packed store means.
use Rattle.std.specs.Prelude.{◌≡◌, ℕ, ◌+◌, ◌<◌, min, List, [], ◌∷◌, take, drop, slice_index_or}
use Rattle.values.specs.declared.value.Value.{Value}
use Rattle.packed_store.specs.declared.packed.Span.{Span}
use Rattle.packed_store.specs.declared.packed.PackedStore.{PackedStore}
use Rattle.store.specs.Model.{Model, StoredCell}

-- these cells in a store of 128 cells that charges n slots for n fields, of 512
abbrev pub packed : List StoredCell → Model
packed cs = record { cells = cs; cell_limit = 128; slot_limit = 512; charge = λ n. min n 8 }

-- the cells' slots stand one after another
abbrev pub laid : List Span → List Value → List StoredCell
laid [] vs = []
laid (s ∷ ss) vs = record { head = s.head; fields = take s.count vs } ∷ laid ss (drop s.count vs)

abbrev pub packed_model : PackedStore → Model
packed_model s = packed (laid (take s.used s.spans) s.slots)

-- n is the slot of field f of cell c
pub record Slot (s : PackedStore) (c f n : ℕ) : Type 0 where
  pub used : c < s.used
  pub counted : (d : Span) → f < (slice_index_or s.spans c d).count
  pub is : (d : Span) → n ≡ (slice_index_or s.spans c d).start + f
