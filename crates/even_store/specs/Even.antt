-- What the even store means.
use Rattle.std.specs.Prelude.{List, map, take}
use Rattle.even_store.specs.declared.even.Place.{Place}
use Rattle.even_store.specs.declared.even.EvenStore.{EvenStore}
use Rattle.store.specs.Model.{Model, StoredCell}

-- these cells in a store of 128 cells that charges 8 slots for each, of 1,024
abbrev pub even : List StoredCell → Model
even cs = record { cells = cs; cell_limit = 128; slot_limit = 1024; charge = λ n. 8 }

abbrev pub placed : Place → StoredCell
placed p = record { head = p.head; fields = take p.count p.values }

abbrev pub even_model : EvenStore → Model
even_model s = even (map placed (take s.used s.places))
