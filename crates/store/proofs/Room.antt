-- Room for a series of cells, in any store.
use Rattle.std.proofs.Common.{◌≡◌, ℕ, ◌+◌, ◌<◌, ◌≤◌, true, leb, length, Ok, sym, ap, ◌∙◌, arith}
use lib.ListN.{length-replicate}
use Rattle.std.proofs.lemmas.List.{length_push}
use Rattle.std.proofs.lemmas.List.Sums.{sum_by_push}
use Rattle.std.proofs.lemmas.Bool.{and_parts, and_from, leb-true, le-leb, lt-leb}
use Rattle.values.specs.declared.value.Value.TheVariants.{Null}
use Rattle.store.specs.declared.cell.Head.{Head}
use Rattle.store.specs.Frames.{RoomLasts, has_room}
use Rattle.store.specs.Model.{Model, after_make, new_cell, slots_of}
use Rattle.store.proofs.Calls.{makes}

-- a cell more is charged for its fields
pub slots_more : (m : Model) (h : Head) (n c : ℕ) → slots_of (after_make m h n (Ok c)) ≡ slots_of m + m.charge n
unfolding slots_of
slots_more m h n c =
    sum_by_push (λ x. m.charge (length x.fields)) m.cells (new_cell h n) ∙ ap (λ k. slots_of m + m.charge k) (length-replicate n Null)

pub room_parts : (m : Model) (k s : ℕ) → has_room m k s ≡ true → (length m.cells + k ≤ m.cell_limit) × (slots_of m + s ≤ m.slot_limit)
unfolding has_room
room_parts m k s e = let h = and_parts (leb (length m.cells + k) m.cell_limit) _ e in (leb-true _ _ h.0, leb-true _ _ h.1)

pub room_from : (m : Model) (k s : ℕ) → length m.cells + k ≤ m.cell_limit → slots_of m + s ≤ m.slot_limit → has_room m k s ≡ true
unfolding has_room
room_from m k s h l = and_from _ _ (le-leb _ _ h) (le-leb _ _ l)

pub room_lasts : (m : Model) → RoomLasts m
room_lasts m =
    record {
      makes = λ n k s few e. let r = room_parts m (k + 1) (m.charge n + s) e in sym (makes m n few (omega arith) (omega arith));
      leaves = λ h n k s c e.
          let r = room_parts m (k + 1) (m.charge n + s) e in
          let a = slots_more m h n c in
          let b = length_push m.cells (new_cell h n) in
          room_from (after_make m h n (Ok c)) k s (omega arith) (omega arith);
    }

-- the test, one limit after the other
pub room_then : (m : Model) (k s a b x y : ℕ) → a ≡ length m.cells → b ≡ m.cell_limit → x ≡ slots_of m → y ≡ m.slot_limit → a + k ≤ b → leb (x + s) y ≡ has_room m k s
unfolding has_room
room_then m k s a b x y e f g h l = let t = le-leb (length m.cells + k) m.cell_limit (omega arith) in simp (t, g, h)

pub room_else : (m : Model) (k s a b : ℕ) → a ≡ length m.cells → b ≡ m.cell_limit → b < a + k → leb (a + k) b ≡ has_room m k s
unfolding has_room
room_else m k s a b e f l =
    let t = lt-leb (length m.cells + k) m.cell_limit (omega arith) in
    let u = lt-leb (a + k) b l in
    simp (t, u)
