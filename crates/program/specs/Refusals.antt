-- The number and the place of each refusal of a text.
use Rattle.std.specs.Prelude.{ℕ}
use Rattle.outline.specs.Outlined as outlined
use Rattle.declarations.specs.Faults as misdeclared
use Rattle.program.specs.declared.refusal.Refusal.{Refusal}
use Rattle.program.specs.declared.refusal.Refusal.TheVariants.{Unlisted, ScratchTooSmall, Misdeclared, Untyped}

abbrev pub number_of : Refusal → ℕ
number_of (Unlisted u) = outlined.number_of u
number_of ScratchTooSmall = 15
number_of (Misdeclared m) = misdeclared.number_of m
number_of (Untyped p) = 28

abbrev pub place_of : Refusal → ℕ
place_of (Unlisted u) = outlined.place_of u
place_of ScratchTooSmall = 0
place_of (Misdeclared m) = misdeclared.place_of m
place_of (Untyped p) = p
