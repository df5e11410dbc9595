-- Which row numbers a kind of type may have.
use Rattle.std.specs.Prelude.{ℕ, Bool, true, ◌==◌}
use Rattle.values.specs.declared.types.Kind.{Kind}
use Rattle.values.specs.declared.types.Kind.TheVariants.{Boolean, Null, Row, Set}

-- a kind without a row keeps the number 0
abbrev pub plain_row : Kind → ℕ → Bool
plain_row Boolean n = n == 0
plain_row Null n = n == 0
plain_row (Row l) n = true
plain_row (Set l) n = true
