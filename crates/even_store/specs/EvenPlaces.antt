-- The even store's places as cells.
use Rattle.std.specs.Prelude.{◌≡◌, ℕ, ◌+◌, ◌*◌, ◌<◌, ◌≤◌, List, [], ◌∷◌, ◌++◌, map, length, get_or, take, set, Some, sum_by, slice_index_or, slice_set, refl, All}
use Rattle.std.proofs.Common.{sym, ap, ◌∙◌, arith, length-take}
use Rattle.std.specs.List.{slice_get}
use Rattle.std.proofs.lemmas.List.Elements.{All-map}
use Rattle.std.proofs.lemmas.List.{take_more_set, map_push, map-set}
use Rattle.std.proofs.lemmas.List.Sums.{sum_by-cons}
use Rattle.even_store.specs.declared.even.Place.{Place}
use Rattle.even_store.specs.declared.even.EvenStore.{EvenStore}
use Rattle.even_store.specs.Even.{placed, even_model}
use Rattle.store.specs.Laws.{Lawful}
use Rattle.values.specs.declared.value.Value.{Value}
use Rattle.store.specs.Model.{StoredCell, changed, fields_at, slots_of, written}
use Rattle.store.proofs.Calls.{changed_set, its_count}
use Rattle.store.proofs.Places.{length_front, slice_get_front, slice_get-take, set_front}

pub used_cells : (s : EvenStore) → length (even_model s).cells ≡ s.used
used_cells s = length_front placed s.places s.used (omega arith)

pub cell_at : (s : EvenStore) (i : ℕ) (d : Place) → i < s.used → slice_get (even_model s).cells i ≡ Some (placed (slice_index_or s.places i d))
cell_at s i d h = slice_get_front placed s.places s.used i d h (omega arith)

pub count_of : (p : Place) → length (placed p).fields ≡ p.count
count_of p = simp length-take (omega arith)

eights : (cs : List StoredCell) → sum_by (λ c. 8) cs ≡ length cs * 8
eights [] = refl
eights (c ∷ cs) = let e = eights cs in sum_by-cons (λ c. 8) c cs ∙ omega arith

pub used_slots : (s : EvenStore) → slots_of (even_model s) ≡ s.used * 8
unfolding slots_of
used_slots s = let n = used_cells s in eights (even_model s).cells ∙ ap (λ k. k * 8) n

all_few : (ps : List Place) → All (λ p. length (placed p).fields ≤ 8) ps
all_few ps k d h = let p = slice_index_or ps k d in let e = count_of p in let f = p.few in omega arith

pub even_lawful : (s : EvenStore) → Lawful (even_model s)
even_lawful s =
    let n = used_cells s in
    let k = used_slots s in
    record {
      cells_least = omega arith;
      cells_most = omega arith;
      slots_least = omega arith;
      slots_most = omega arith;
      charge_least = λ n h. omega arith;
      charge_most = λ n. omega arith;
      charge_above = λ n h. refl;
      cells_within = omega arith;
      slots_within = omega arith;
      fields_within = All-map (λ c. length c.fields ≤ 8) placed (take s.used s.places) (all_few (take s.used s.places));
    }

-- a place more, and one field changed
pub cells_more : (s : EvenStore) (p : Place) → s.used < 128 → map placed (take (s.used + 1) (slice_set s.places s.used p)) ≡ (even_model s).cells ++ (placed p ∷ [])
cells_more s p h =
    let l : s.used < length s.places = omega arith in
    ap (map placed) (take_more_set s.places s.used p l) ∙ map_push placed (take s.used s.places) p

pub cells_changed : (s : EvenStore) (i f : ℕ) (v : Value) (d p : Place) → i < s.used → placed p ≡ written (placed (slice_index_or s.places i d)) f v
    → map placed (take s.used (slice_set s.places i p)) ≡ changed (even_model s).cells i f v
cells_changed s i f v d p h e =
    ap (map placed) (set_front s.places s.used i p h)
    ∙ map-set placed (take s.used s.places) i p
    ∙ ap (set (even_model s).cells i) e
    ∙ sym (changed_set (even_model s).cells i f v (placed (slice_index_or s.places i d)) (cell_at s i d h))

pub field_at_lem : (p : Place) (f : ℕ) (d : Value) → f < p.count → slice_get (placed p).fields f ≡ Some (slice_index_or p.values f d)
field_at_lem p f d h = slice_get-take p.values p.count f d h (omega arith)

pub count_at : (s : EvenStore) (i : ℕ) (d : Place) → i < s.used → Some (get_or s.places i d).count ≡ fields_at (even_model s) i
count_at s i d h =
    ap Some (sym (count_of (slice_index_or s.places i d))) ∙ its_count (even_model s) i (placed (slice_index_or s.places i d)) (cell_at s i d h)
