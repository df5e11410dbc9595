-- Brackets as they stand, word after word.
use Rattle.std.specs.Prelude.{ℕ, ◌+◌, ◌-◌, max, cond, Some, None, Option, nat_le}
use Rattle.words.specs.declared.kind.Kind.{Kind}
use Rattle.words.specs.declared.nesting.Nesting.{Nesting}
use Rattle.words.specs.Nesting.{opens, closes}

abbrev pub nesting : ℕ → ℕ → Option ℕ → Nesting
nesting n m o = record { depth = n; most = m; over = o }

-- the first place stays
abbrev pub first_some : Option ℕ → Option ℕ → Option ℕ
first_some None o = o
first_some (Some p) o = Some p

abbrev pub passed : Nesting → Kind → ℕ → Nesting
passed n k p =
    cond (opens k) (nesting (n.depth + 1) (max n.most (n.depth + 1)) (first_some n.over (cond (nat_le 16 n.depth) (Some p) None)))
    (cond (closes k) (nesting (n.depth - 1) n.most n.over) n)
