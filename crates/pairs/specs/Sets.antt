-- The answers to the questions of sets, from the look-up of the instance in force for each to cell.
use Rattle.std.specs.Prelude.{ℕ, zero, suc, Bool, false, ◌||◌, is_some, Some, None, Option, ◌==◌}
use Rattle.cells.specs.Members.{gathered}
use Rattle.cells.specs.declared.CellSet.{CellSet}

-- the cells that have an instance
unfoldable pub to_set : (ℕ → Option ℕ) → CellSet
to_set look = gathered (λ t. is_some (look t))

abbrev pub answers : Option ℕ → ℕ → Bool
answers None i = false
answers (Some j) i = j == i

-- whether i is the instance of some cell below n
unfoldable pub answered : (ℕ → Option ℕ) → ℕ → ℕ → Bool
answered look i zero = false
answered look i (suc n) = answers (look n) i || answered look i n

-- the instances of the cells
unfoldable pub instance_set : (ℕ → Option ℕ) → CellSet
unfolding answered
instance_set look = gathered (λ i. answered look i 128)
