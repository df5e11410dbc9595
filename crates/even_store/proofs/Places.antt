-- What the calls answer, from the place of a cell.
use Rattle.std.specs.Prelude.{◌≡◌, ℕ, length, map, set, take, None, Some, Option, refl}
use Rattle.std.proofs.Common.{ap, sym, ◌∙◌}
use Rattle.std.specs.List.{slice_get}
use Rattle.std.specs.Option.{option_map}
use Rattle.std.proofs.lemmas.Option.{gets, slice_get-map, get_or_from_slice_get}
use Rattle.std.proofs.lemmas.List.{map-set}
use Rattle.std.proofs.Math.Seq.{map-set_same}
use Rattle.values.specs.declared.value.Value.{Value}
use Rattle.store.specs.Model.{head_at, head_in, fields_at, fields_in, field_at, field_in, changed, written}
use Rattle.store.proofs.Calls.{changed_set}
use Rattle.even_store.specs.declared.even.Place.{Place}
use Rattle.even_store.specs.declared.even.EvenStore.{EvenStore}
use Rattle.even_store.specs.Even.{placed, even_model}
use Rattle.even_store.specs.EvenPlaces.{count_of, used_slots}

module _ (s : EvenStore) (i : ℕ) where
  pub cell_at : slice_get (even_model s).cells i ≡ option_map placed (slice_get (take s.used s.places) i)
  cell_at = slice_get-map placed (take s.used s.places) i

  -- the calls that answer for a cell
  pub head_of : head_at (even_model s) i ≡ option_map (λ (p : Place). p.head) (slice_get (take s.used s.places) i)
  unfolding head_at
  head_of = ap head_in cell_at ∙ go (slice_get (take s.used s.places) i)
    where
      go : (o : Option Place) → head_in (option_map placed o) ≡ option_map (λ (p : Place). p.head) o
      go None = refl
      go (Some p) = refl

  pub count_at : fields_at (even_model s) i ≡ option_map (λ (p : Place). p.count) (slice_get (take s.used s.places) i)
  unfolding fields_at
  count_at = ap fields_in cell_at ∙ go (slice_get (take s.used s.places) i)
    where
      go : (o : Option Place) → fields_in (option_map placed o) ≡ option_map (λ (p : Place). p.count) o
      go None = refl
      go (Some p) = ap Some (count_of p)

  pub field_at_lem : (f : ℕ) → field_at (even_model s) i f ≡ field_in (option_map placed (slice_get (take s.used s.places) i)) f
  unfolding field_at
  field_at_lem f = ap (λ o. field_in o f) cell_at

pub ruleset answers = (gets, head_of, count_at, field_at_lem, used_slots)

-- one place is set, to the same cell or to one with one field changed
pub cells_kept : (s : EvenStore) (i : ℕ) (p q : Place) → slice_get (take s.used s.places) i ≡ Some p → placed q ≡ placed p
    → map placed (set (take s.used s.places) i q) ≡ (even_model s).cells
cells_kept s i p q there same =
    map-set_same placed (take s.used s.places) i q p (same ∙ ap placed (sym (get_or_from_slice_get (take s.used s.places) i p p there)))

pub cells_changed : (s : EvenStore) (i f : ℕ) (v : Value) (p q : Place) → slice_get (take s.used s.places) i ≡ Some p → placed q ≡ written (placed p) f v
    → map placed (set (take s.used s.places) i q) ≡ changed (even_model s).cells i f v
cells_changed s i f v p q there same =
    map-set placed (take s.used s.places) i q ∙ ap (set (even_model s).cells i) same
    ∙ sym (changed_set (even_model s).cells i f v (placed p) (cell_at s i ∙ ap (option_map placed) there))
