-- Types as numbers: 0 for none.
use Rattle.std.specs.Prelude.{ℕ, ◌+◌, ◌-◌, cond, Some, None, Option, ◌==◌, nat_lt}
use Rattle.values.specs.declared.types.Lineage.{Lineage}
use Rattle.values.specs.declared.types.Lineage.TheVariants.{Class, Relationship}
use Rattle.values.specs.declared.types.Ty.{Ty}
use Rattle.values.specs.Types.{boolean, null_type, row_type, set_type}

abbrev pub plainly : ℕ → Option Ty
plainly n = cond (n == 1) (Some boolean) (cond (n == 2) (Some null_type) None)

-- from 256 on the rows, then the sets
unfoldable pub decoded : ℕ → Option Ty
decoded n =
    cond (nat_lt n 256) (plainly n)
    (cond (nat_lt n 512) (Some (row_type Class (n - 256)))
    (cond (nat_lt n 768) (Some (row_type Relationship (n - 512)))
    (cond (nat_lt n 1024) (Some (set_type Class (n - 768)))
    (cond (nat_lt n 1280) (Some (set_type Relationship (n - 1024))) None))))

-- the number of a row's type
abbrev pub row_code : Lineage → ℕ → ℕ
row_code Class n = 256 + n
row_code Relationship n = 512 + n
