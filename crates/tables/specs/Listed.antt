-- A table as a list.
use Rattle.std.specs.Prelude.{◌≡◌, ℕ, ◌+◌, ◌-◌, Bool, true, false, List, length, take, Option, nat_lt, slice_set, refl}
use Rattle.std.proofs.Common.{◌∙◌, arith, ltb-true, length-set}
use Rattle.std.specs.List.{slice_get}
use Rattle.tables.specs.declared.table.Table.{Table}

-- the last of some items
abbrev pub newest : {X : Type 0} → List X → Option X
newest xs = slice_get xs (length xs - 1)

module _ {T : Type 0} {N : ℕ} where
  unfoldable pub listed : Table T N → List T
  listed t = take t.len t.items

  -- the table with one item more, where there is room
  abbrev pub pushed_where : (t : Table T N) → T → (room : Bool) → nat_lt t.len N ≡ room → Table T N
  pushed_where t x true e =
      record {
        items = slice_set t.items t.len x;
        len = t.len + 1;
        whole = length-set t.items t.len x ∙ t.whole;
        few = omega (arith, ltb-true t.len N e);
      }
  pushed_where t x false e = t

  -- adds at the end; a full table stays as it is
  unfoldable pub pushed : Table T N → T → Table T N
  pushed t x = pushed_where t x (nat_lt t.len N) refl

  -- drops the last item; an empty table stays as it is
  unfoldable pub shortened : Table T N → Table T N
  shortened t = record { items = t.items; len = t.len - 1; whole = t.whole; few = omega (arith, t.few) }
