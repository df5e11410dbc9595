-- The number and the place of each refusal of a text that cannot be read as words.
use Rattle.std.specs.Prelude.{ℕ}
use Rattle.words.specs.declared.refusal.Unreadable.{Unreadable}
use Rattle.words.specs.declared.refusal.Unreadable.TheVariants.{TooLong, NotAllowed, TooDeep}

abbrev pub number_of : Unreadable → ℕ
number_of TooLong = 10
number_of (NotAllowed p) = 11
number_of (TooDeep p) = 12

abbrev pub place_of : Unreadable → ℕ
place_of TooLong = 0
place_of (NotAllowed p) = p
place_of (TooDeep p) = p
