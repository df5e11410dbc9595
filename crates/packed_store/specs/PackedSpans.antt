-- The packed store's spans as cells.
use Rattle.std.specs.Prelude.{◌≡◌, ℕ, zero, suc, ◌+◌, ◌≤◌, min, List, [], ◌∷◌, length, take, drop, sum_by, refl, All}
use Rattle.std.proofs.Math.Path.{sym, ap}
use Rattle.std.proofs.Common.{◌∙◌, ◌<◌, arith, length-drop}
use Rattle.std.proofs.Math.ListN.{length-take}
use Rattle.std.proofs.lemmas.List.{get_or-take}
use Rattle.std.proofs.lemmas.List.Elements.{All-from_get_or}
use Rattle.std.proofs.lemmas.List.Sums.{sum_by-cons}
use Rattle.values.specs.declared.value.Value.{Value}
use Rattle.store.specs.declared.cell.Head.TheVariants.{Object}
use Rattle.packed_store.specs.declared.packed.Span.{Span}
use Rattle.packed_store.specs.declared.packed.PackedStore.{PackedStore}
use Rattle.store.specs.Laws.{Lawful}
use Rattle.store.specs.Model.{StoredCell, slots_of}
use Rattle.packed_store.specs.Packed.{laid, packed_model}

-- the slots of a list of spans
abbrev pub total : List Span → ℕ
total ss = sum_by (λ (s : Span). s.count) ss

pub total-cons : (s : Span) (ss : List Span) → total (s ∷ ss) ≡ s.count + total ss
total-cons s ss = sum_by-cons (λ (s : Span). s.count) s ss

pub laid_length : (ss : List Span) (vs : List Value) → length (laid ss vs) ≡ length ss
laid_length [] vs = refl
laid_length (s ∷ ss) vs = ap suc (laid_length ss (drop s.count vs))

pub laid_sum : (ss : List Span) (vs : List Value) → All (λ s. s.count ≤ 8) ss → total ss ≤ length vs
    → sum_by (λ (c : StoredCell). min (length c.fields) 8) (laid ss vs) ≡ total ss
laid_sum [] vs a h = refl
laid_sum (s ∷ ss) vs a h =
    let t = total-cons s ss in
    let n : length (take s.count vs) ≡ s.count = simp length-take (omega arith) in
    let r = laid_sum ss (drop s.count vs) (λ k d l. a (suc k) d (omega arith)) (simp length-drop (omega arith)) in
    let m : min (length (take s.count vs)) 8 ≡ s.count = rw n (let f = a 0 s (omega arith) in omega arith) in
    let x : StoredCell = record { head = s.head; fields = take s.count vs } in
    sum_by-cons (λ (c : StoredCell). min (length c.fields) 8) x (laid ss (drop s.count vs)) ∙ omega arith

few_fields : (ss : List Span) (vs : List Value) → All (λ (x : Span). x.count ≤ 8) ss → All (λ (c : StoredCell). length c.fields ≤ 8) (laid ss vs)
few_fields [] vs a k d h = absurd (omega arith)
few_fields (x ∷ ss) vs a zero d h = let k = a 0 x (omega arith) in simp length-take (omega arith)
few_fields (x ∷ ss) vs a (suc k) d h = few_fields ss (drop x.count vs) (λ j e l. a (suc j) e (omega arith)) k d (omega arith)

-- the span that a read gives where there is none
abbrev pub nowhere : Span
nowhere = record { head = Object 0; start = 0; count = 0 }

module _ (s : PackedStore) where
  pub front_length : length (take s.used s.spans) ≡ s.used
  front_length = simp length-take (omega (arith, s.whole, s.few))

  pub used_cells : length (packed_model s).cells ≡ s.used
  used_cells = laid_length (take s.used s.spans) s.slots ∙ front_length

  all_small : All (λ (x : Span). x.count ≤ 8) (take s.used s.spans)
  all_small =
      let n = front_length in
      All-from_get_or (λ (x : Span). x.count ≤ 8) (take s.used s.spans) nowhere
      (λ i h.
      let k : i < s.used = omega arith in
      let e = get_or-take s.used s.spans i nowhere k in
      rw e (s.small i nowhere k))

  pub used_slots : slots_of (packed_model s) ≡ s.filled
  unfolding slots_of
  used_slots = let f = s.sum in laid_sum (take s.used s.spans) s.slots all_small (omega (arith, f, s.room, s.within)) ∙ sym f

  pub packed_lawful : Lawful (packed_model s)
  packed_lawful =
      let n = used_cells in
      let k = used_slots in
      record {
        cells_least = omega arith;
        cells_most = omega arith;
        slots_least = omega arith;
        slots_most = omega arith;
        charge_least = λ n h. omega arith;
        charge_most = λ n. omega arith;
        charge_above = λ n h. omega arith;
        cells_within = omega arith;
        slots_within = omega arith;
        fields_within = few_fields (take s.used s.spans) s.slots all_small;
      }
