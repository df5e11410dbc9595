-- What the calls answer and leave, from the spans.
use Rattle.std.specs.Prelude.{◌≡◌, ℕ, zero, suc, ◌+◌, ◌-◌, ◌<◌, ◌≤◌, List, [], ◌∷◌, ◌++◌, length, get_or, take, drop, replicate, Option, Some, None, Ok, Err, slice_index_or, slice_set, refl}
use Rattle.std.proofs.Common.{sym, ap, ◌∙◌, inl, inr, zero-add, arith, length-take, length-drop}
use Rattle.std.specs.List.{slice_get}
use Rattle.std.specs.Option.{option_map}
use Rattle.std.proofs.lemmas.Bool.{cases_eq, cases_lt}
use Rattle.std.proofs.lemmas.Option.{gets, slice_get-get_or, slice_get_past, slice_get_within, get_or_from_slice_get}
use Rattle.std.proofs.lemmas.List.{drop-drop, take-set-le, drop-set-lt, drop-set-add, take-take, get_or-take, get_or-drop, get_or-set_same, get_or-set_other, take_more_set, take-set, take-replicate, drop-replicate, replicate-append-replicate, replicate_more, take-append-drop}
use Rattle.std.proofs.lemmas.List.Sums.{sum_by_more, sum_by_push, sum_by-take-le}
use Rattle.values.specs.declared.value.Value.{Value}
use Rattle.values.specs.declared.value.Value.TheVariants.{Null}
use Rattle.store.specs.declared.cell.Absent.TheVariants.{Field}
use Rattle.packed_store.specs.declared.packed.Span.{Span}
use Rattle.packed_store.specs.declared.packed.PackedStore.{PackedStore}
use Rattle.store.specs.Model.{StoredCell, changed, head_at, head_in, fields_at, fields_in, field_at, field_in, new_cell}
use Rattle.store.proofs.Calls.{no_field, its_field}
use Rattle.store.proofs.Places.{slice_get-take, set_front}
use Rattle.packed_store.specs.Packed.{Slot, laid, packed_model}
use Rattle.packed_store.specs.PackedSpans.{front_length, nowhere, total, total-cons, used_cells, used_slots}

-- the cell of a span whose slots begin at n
abbrev pub cut : Span → ℕ → List Value → StoredCell
cut s n vs = record { head = s.head; fields = take s.count (drop n vs) }

pub laid_at : (ss : List Span) (vs : List Value) (i : ℕ) (d : Span) → i < length ss → slice_get (laid ss vs) i ≡ Some (cut (slice_index_or ss i d) (total (take i ss)) vs)
laid_at [] vs i d h = absurd (omega arith)
laid_at (s ∷ ss) vs zero d h = refl
laid_at (s ∷ ss) vs (suc i) d h =
    let n = total (take i ss) in
    let x = get_or ss i d in
    laid_at ss (drop s.count vs) i d (omega arith)
    ∙ ap (λ (l : List Value). Some (record { head = x.head; fields = take x.count l }))
    (drop-drop n s.count vs ∙ ap (λ k. drop k vs) (sym (total-cons s (take i ss))))

pub laid_more : (ss : List Span) (s : Span) (vs : List Value) → laid (ss ++ (s ∷ [])) vs ≡ laid ss vs ++ (cut s (total ss) vs ∷ [])
laid_more [] s vs = refl
laid_more (x ∷ ss) s vs =
    ap (λ l. record { head = x.head; fields = take x.count vs } ∷ l)
    (laid_more ss s (drop x.count vs)
    ∙ ap (λ (l : List Value). laid ss (drop x.count vs) ++ (record { head = s.head; fields = take s.count l } ∷ []))
    (drop-drop (total ss) x.count vs ∙ ap (λ k. drop k vs) (sym (total-cons x ss))))

pub laid_set : (ss : List Span) (vs : List Value) (i f : ℕ) (v : Value) (d : Span) → i < length ss → f < (get_or ss i d).count
    → laid ss (slice_set vs (total (take i ss) + f) v) ≡ changed (laid ss vs) i f v
unfolding changed
laid_set [] vs i f v d h k = absurd (omega arith)
laid_set (s ∷ ss) vs zero f v d h k =
    let a = set_front vs s.count f v k in
    let b = drop-set-lt s.count vs f v k in
    rw zero-add (simp (a, b))
laid_set (s ∷ ss) vs (suc i) f v d h k =
    let n = total (take i ss) in
    let e : total (s ∷ take i ss) + f ≡ s.count + (n + f) = let t = total-cons s (take i ss) in omega arith in
    let a = take-set-le s.count vs (s.count + (n + f)) v (omega arith) in
    let b = drop-set-add s.count vs (n + f) v in
    rw e (simp (a, b) (ap (λ l. record { head = s.head; fields = take s.count vs } ∷ l) (laid_set ss (drop s.count vs) i f v d (omega arith) k)))

total_front : (ss : List Span) (j n : ℕ) → j ≤ n → total (take j ss) ≤ total (take n ss)
total_front ss j n h =
    let e = take-take j n ss h in
    let k = sum_by-take-le (λ (s : Span). s.count) (take n ss) j in
    rw e at k

module _ (s : PackedStore) where
  -- the slots of a cell lie among those that are filled
  pub slots_end : (i : ℕ) (d : Span) → i < s.used → (get_or s.spans i d).start + (get_or s.spans i d).count ≤ s.filled
  slots_end i d h =
      let b = s.begins i d h in
      let t = sum_by_more (λ (x : Span). x.count) s.spans i d (omega arith) in
      let m = total_front s.spans (i + 1) s.used (omega arith) in
      let f = s.sum in
      omega arith

  starts_front : (i : ℕ) (d : Span) → i < s.used → total (take i (take s.used s.spans)) ≡ (get_or s.spans i d).start
  starts_front i d h = let e = take-take i s.used s.spans (omega arith) in ap total e ∙ sym (s.begins i d h)

  abbrev cell : Span → StoredCell
  cell x = cut x x.start s.slots

  pub span_at : (i : ℕ) (d : Span) → i < s.used → slice_get (take s.used s.spans) i ≡ Some (get_or s.spans i d)
  span_at i d h = slice_get-take s.spans s.used i d h (omega arith)

  pub cell_at : (i : ℕ) → slice_get (packed_model s).cells i ≡ option_map cell (slice_get (take s.used s.spans) i)
  cell_at i =
      let n = front_length s in
      elim (cases_lt i s.used) [
        | inl h ↦
            let e = get_or-take s.used s.spans i nowhere h in
            let b = starts_front i nowhere h in
            let g = span_at i nowhere h in
            laid_at (take s.used s.spans) s.slots i nowhere (omega arith) ∙ simp (e, b, g)
        | inr h ↦
            let g = slice_get_past (take s.used s.spans) i (omega arith) in
            let k = used_cells s in
            slice_get_past (packed_model s).cells i (omega arith) ∙ simp g
      ]

  pub count_of : (i : ℕ) (d : Span) → i < s.used → length (take (get_or s.spans i d).count (drop (get_or s.spans i d).start s.slots)) ≡ (get_or s.spans i d).count
  count_of i d h = let e = slots_end i d h in simp (length-take, length-drop) (omega arith)

  pub field_cut : (i f : ℕ) (d : Span) (v : Value) → i < s.used → f < (get_or s.spans i d).count
      → slice_get (take (get_or s.spans i d).count (drop (get_or s.spans i d).start s.slots)) f ≡ Some (slice_index_or s.slots ((get_or s.spans i d).start + f) v)
  field_cut i f d v h k =
      let n = (get_or s.spans i d).start in
      let e = slots_end i d h in
      slice_get-take (drop n s.slots) (get_or s.spans i d).count f v k (simp length-drop (omega arith)) ∙ ap Some (get_or-drop n s.slots f v)

  -- the calls that answer for a cell
  pub head_of : (i : ℕ) → head_at (packed_model s) i ≡ option_map (λ (x : Span). x.head) (slice_get (take s.used s.spans) i)
  unfolding head_at
  head_of i = ap head_in (cell_at i) ∙ go (slice_get (take s.used s.spans) i)
    where
      go : (o : Option Span) → head_in (option_map cell o) ≡ option_map (λ (x : Span). x.head) o
      go None = refl
      go (Some x) = refl

  pub count_at : (i : ℕ) → fields_at (packed_model s) i ≡ option_map (λ (x : Span). x.count) (slice_get (take s.used s.spans) i)
  unfolding fields_at
  count_at i =
      elim (cases_lt i s.used) [
        | inl h ↦ let g = span_at i nowhere h in ap fields_in (cell_at i) ∙ simp g (ap Some (count_of i nowhere h))
        | inr h ↦
            let n = front_length s in
            let g = slice_get_past (take s.used s.spans) i (omega arith) in
            ap fields_in (cell_at i) ∙ simp g
      ]

  pub field_at_lem : (i f : ℕ) → field_at (packed_model s) i f ≡ field_in (option_map cell (slice_get (take s.used s.spans) i)) f
  unfolding field_at
  field_at_lem i f = ap (λ o. field_in o f) (cell_at i)

  pub field_past : (i f : ℕ) (x : Span) → slice_get (take s.used s.spans) i ≡ Some x → x.count ≤ f → field_at (packed_model s) i f ≡ Err Field
  field_past i f x there h =
      sym (no_field (packed_model s) i (cell x) (cell_at i ∙ ap (option_map cell) there) f (simp length-take (omega arith)))

  -- a field of a span has a slot
  pub slot_there : (i f : ℕ) (x : Span) → slice_get (take s.used s.spans) i ≡ Some x → f < x.count → Slot s i f (x.start + f)
  slot_there i f x there h =
      let n = front_length s in
      let l = slice_get_within (take s.used s.spans) i x there in
      let u : i < s.used = omega arith in
      let is : (d : Span) → get_or s.spans i d ≡ x =
      λ d. sym (get_or-take s.used s.spans i d u) ∙ get_or_from_slice_get (take s.used s.spans) i x d there in
      record {
        used = u;
        counted = λ d. let e = is d in rw e h;
        is = λ d. ap (λ (y : Span). y.start + f) (sym (is d));
      }

  -- a write to a filled slot leaves the others as they are
  pub filled_blank : (n : ℕ) (v : Value) → n < s.filled → drop s.filled (slice_set s.slots n v) ≡ replicate (512 - s.filled) Null
  filled_blank n v h = drop-set-lt s.filled s.slots n v h ∙ s.blank

  -- the slot of a field: it is filled, it is read as the field, and writing it changes the field
  module _ (c f n : ℕ) (w : Slot s c f n) where
    pub slot_end : n < s.filled
    slot_end =
        let e = w.is nowhere in
        let k = w.counted nowhere in
        let l = slots_end c nowhere w.used in
        omega arith

    pub slot_reads : (v : Value) → Ok (slice_index_or s.slots n v) ≡ field_at (packed_model s) c f
    slot_reads v =
        let e = w.is nowhere in
        rw e
        (its_field (packed_model s) c (cell (get_or s.spans c nowhere)) (cell_at c ∙ ap (option_map cell) (span_at c nowhere w.used)) f _
        (field_cut c f nowhere v w.used (w.counted nowhere)))

    pub slot_blank : (v : Value) → drop s.filled (slice_set s.slots n v) ≡ replicate (512 - s.filled) Null
    slot_blank v = filled_blank n v slot_end

    pub slot_cells : (v : Value) → laid (take s.used s.spans) (slice_set s.slots n v) ≡ changed (packed_model s).cells c f v
    slot_cells v =
        let l = front_length s in
        let e = get_or-take s.used s.spans c nowhere w.used in
        let b = starts_front c nowhere w.used in
        let k = w.counted nowhere in
        ap (λ m. laid (take s.used s.spans) (slice_set s.slots m v)) (w.is nowhere ∙ ap (λ m. m + f) (sym b))
        ∙ laid_set (take s.used s.spans) s.slots c f v nowhere (let u = w.used in omega arith) (rw e k)

pub ruleset answers = (gets, used_cells, used_slots, head_of, count_at, field_at_lem, field_past, slot_there, slot_end, slot_reads)

module _ (s : PackedStore) where
  -- a span more
  module _ (q : Span) (begins : q.start ≡ s.filled) (small : q.count ≤ 8) (h : s.used < 128) where
    here : s.used < length s.spans
    here = omega arith

    pub more_sum : s.filled + q.count ≡ total (take (s.used + 1) (slice_set s.spans s.used q))
    more_sum =
        let f = s.sum in
        ap (λ n. n + q.count) f
        ∙ sym (ap total (take_more_set s.spans s.used q here) ∙ sum_by_push (λ (x : Span). x.count) (take s.used s.spans) q)

    pub more_small : (k : ℕ) (d : Span) → k < s.used + 1 → (get_or (slice_set s.spans s.used q) k d).count ≤ 8
    more_small k d l =
        elim (cases_eq k s.used) [
          | inl e ↦ let v = get_or-set_same s.spans s.used q d here in rw (e, v) small
          | inr ne ↦ let v = get_or-set_other s.spans s.used k q d ne in rw v (s.small k d (omega arith))
        ]

    pub more_begins : (k : ℕ) (d : Span) → k < s.used + 1 → (get_or (slice_set s.spans s.used q) k d).start ≡ total (take k (slice_set s.spans s.used q))
    more_begins k d l =
        elim (cases_eq k s.used) [
          | inl e ↦
              let v = get_or-set_same s.spans s.used q d here in
              let t = take-set s.spans s.used q in
              let f = s.sum in
              rw (e, v, t) (begins ∙ f)
          | inr ne ↦
              let v = get_or-set_other s.spans s.used k q d ne in
              let t = take-set-le k s.spans s.used q (omega arith) in
              rw (v, t) (s.begins k d (omega arith))
        ]

    pub more_cells : s.filled + q.count ≤ 512 → laid (take (s.used + 1) (slice_set s.spans s.used q)) s.slots ≡ (packed_model s).cells ++ (new_cell q.head q.count ∷ [])
    more_cells w =
        let front = take s.used s.spans in
        let f = s.sum in
        let e : take q.count (drop (total front) s.slots) ≡ replicate q.count Null =
        ap (λ n. take q.count (drop n s.slots)) (sym f)
        ∙ ap (take q.count) s.blank
        ∙ take-replicate q.count (512 - s.filled) Null (omega arith) in
        ap (λ l. laid l s.slots) (take_more_set s.spans s.used q here)
        ∙ laid_more front q s.slots
        ∙ ap (λ (l : List Value). laid front s.slots ++ (record { head = q.head; fields = l } ∷ [])) e

  pub more_blank : (n : ℕ) → drop (s.filled + n) s.slots ≡ replicate (512 - (s.filled + n)) Null
  more_blank n =
      sym (drop-drop n s.filled s.slots) ∙ ap (drop n) s.blank ∙ drop-replicate n (512 - s.filled) Null
      ∙ ap (λ k. replicate k Null) (omega arith)

  -- null written over the filled slots, one after another: nothing else is written, and at the end every slot is null
  pub nulled_more : (n : ℕ) → n < s.filled → take n s.slots ≡ replicate n Null → take (n + 1) (slice_set s.slots n Null) ≡ replicate (n + 1) Null
  nulled_more n h t = take_more_set s.slots n Null (omega arith) ∙ ap (λ (l : List Value). l ++ (Null ∷ [])) t ∙ replicate_more n Null

  pub nulled_all : (n : ℕ) → n ≡ s.filled → take n s.slots ≡ replicate n Null → s.slots ≡ replicate 512 Null
  nulled_all n e t =
      let b : drop n s.slots ≡ replicate (512 - n) Null = rw e s.blank in
      let m : n + (512 - n) ≡ 512 = omega arith in
      sym (take-append-drop n s.slots) ∙ ap (λ (l : List Value). l ++ drop n s.slots) t
      ∙ ap (λ (l : List Value). replicate n Null ++ l) b ∙ replicate-append-replicate n (512 - n) Null
      ∙ ap (λ (k : ℕ). replicate k Null) m
