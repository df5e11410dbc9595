-- What a store is, and what each of its calls answers and leaves.
use Rattle.std.specs.Prelude.{ℕ, zero, suc, ◌+◌, cond, List, [], ◌∷◌, ◌++◌, length, replicate, Some, None, Ok, Err, sum_by, Option, Result, nat_lt, slice_set}
use Rattle.std.specs.List.{slice_get}
use Rattle.values.specs.declared.value.Value.{Value}
use Rattle.values.specs.declared.value.Value.TheVariants.{Null}
use Rattle.store.specs.declared.cell.Head.{Head}
use Rattle.store.specs.declared.cell.MakeRefusal.{MakeRefusal}
use Rattle.store.specs.declared.cell.MakeRefusal.TheVariants.{Fields, Cells, Slots}
use Rattle.store.specs.declared.cell.Absent.{Absent}
use Rattle.store.specs.declared.cell.Absent.TheVariants.{Cell, Field}

pub record StoredCell : Type 0 where
  pub head : Head
  pub fields : List Value

-- a store: its cells in the order of their numbers, its limits, and the slots it charges for a cell of n fields
pub record Model : Type 0 where
  pub cells : List StoredCell
  pub cell_limit : ℕ
  pub slot_limit : ℕ
  pub charge : ℕ → ℕ

-- the same store with other cells
abbrev pub holding : Model → List StoredCell → Model
holding m cs = record { cells = cs; cell_limit = m.cell_limit; slot_limit = m.slot_limit; charge = m.charge }

-- the slots charged for all cells
unfoldable pub slots_of : Model → ℕ
slots_of m = sum_by (λ c. m.charge (length c.fields)) m.cells

-- clear leaves no cell
abbrev pub cleared : Model → Model
cleared m = holding m []

-- make answers the number after those in use. It refuses over 8 fields, or else where the cells or the charges would pass a limit.
unfoldable pub make_answer : Model → ℕ → Result ℕ MakeRefusal
make_answer m n =
    cond (nat_lt 8 n) (Err Fields)
    (cond (nat_lt m.cell_limit (length m.cells + 1)) (Err Cells)
    (cond (nat_lt m.slot_limit (slots_of m + m.charge n)) (Err Slots) (Ok (length m.cells))))

-- a new cell has n null fields
abbrev pub new_cell : Head → ℕ → StoredCell
new_cell h n = record { head = h; fields = replicate n Null }

abbrev pub after_make : Model → Head → ℕ → Result ℕ MakeRefusal → Model
after_make m h n (Ok c) = holding m (m.cells ++ (new_cell h n ∷ []))
after_make m h n (Err e) = m

-- what a cell tells, if it is there
abbrev pub head_in : Option StoredCell → Option Head
head_in None = None
head_in (Some c) = Some c.head

unfoldable pub head_at : Model → ℕ → Option Head
head_at m c = head_in (slice_get m.cells c)

abbrev pub fields_in : Option StoredCell → Option ℕ
fields_in None = None
fields_in (Some c) = Some (length c.fields)

unfoldable pub fields_at : Model → ℕ → Option ℕ
fields_at m c = fields_in (slice_get m.cells c)

-- the value of a field; it refuses only an absent cell or an absent field
abbrev pub value_in : Option Value → Result Value Absent
value_in None = Err Field
value_in (Some v) = Ok v

abbrev pub field_in : Option StoredCell → ℕ → Result Value Absent
field_in None f = Err Cell
field_in (Some c) f = value_in (slice_get c.fields f)

unfoldable pub field_at : Model → ℕ → ℕ → Result Value Absent
field_at m c f = field_in (slice_get m.cells c) f

-- put refuses as the question for the field does, and else changes that field alone
abbrev pub done : Result Value Absent → Result (Unit {0}) Absent
done (Ok v) = Ok tt
done (Err e) = Err e

abbrev pub put_answer : Model → ℕ → ℕ → Result (Unit {0}) Absent
put_answer m c f = done (field_at m c f)

abbrev pub written : StoredCell → ℕ → Value → StoredCell
written c f v = record { head = c.head; fields = slice_set c.fields f v }

unfoldable pub changed : List StoredCell → ℕ → ℕ → Value → List StoredCell
changed [] c f v = []
changed (x ∷ xs) zero f v = written x f v ∷ xs
changed (x ∷ xs) (suc c) f v = x ∷ changed xs c f v

abbrev pub after_put : Model → ℕ → ℕ → Value → Result (Unit {0}) Absent → Model
after_put m c f v (Ok u) = holding m (changed m.cells c f v)
after_put m c f v (Err e) = m
