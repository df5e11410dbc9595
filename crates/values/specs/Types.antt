-- The types, each by its kind and its row.
use Rattle.std.specs.Prelude.{ℕ, refl}
use Rattle.values.specs.declared.types.Lineage.{Lineage}
use Rattle.values.specs.declared.types.Kind.TheVariants.{Boolean, Null, Row, Set}
use Rattle.values.specs.declared.types.Ty.{Ty}

abbrev pub boolean : Ty
boolean = record { kind = Boolean; row = 0; plain = refl }

-- the type of the literal null
abbrev pub null_type : Ty
null_type = record { kind = Null; row = 0; plain = refl }

-- row n of a line
abbrev pub row_type : Lineage → ℕ → Ty
row_type l n = record { kind = Row l; row = n; plain = refl }

-- the sets of row n of a line
abbrev pub set_type : Lineage → ℕ → Ty
set_type l n = record { kind = Set l; row = n; plain = refl }
