-- A set renumbered member by member, as far as the members below n.
use Rattle.std.proofs.Common.{◌≡◌, ℕ, ◌<◌, true, List, get_or, inl, inr}
use Rattle.std.proofs.lemmas.Bool.{cases_lt, both_ways}
use Rattle.cells.specs.declared.CellSet.{CellSet}
use Rattle.cells.specs.Members.{has, Renumbered}
use Rattle.cells.proofs.Words.{has_past}

pub record MovedBelow (s : CellSet) (table : List ℕ) (n : ℕ) (r : CellSet) : Type 0 where
  pub goes : (c : ℕ) → c < n → has s c ≡ true → get_or table c 0 < 128 → has r (get_or table c 0) ≡ true
  pub comes : (d : ℕ) → has r d ≡ true → (c : ℕ) × (has s c ≡ true) × (get_or table c 0 ≡ d)

pub moved_all : (s : CellSet) (table : List ℕ) (r : CellSet) → MovedBelow s table 128 r → Renumbered s table r
moved_all s table r m =
    record {
      goes = λ c h. elim (cases_lt c 128) [ inl k ↦ m.goes c k h | inr k ↦ absurd (both_ways (has s c) (has_past s c k) h) ];
      comes = m.comes;
    }
