-- What is there, or is not.
use Rattle.std.specs.Prelude.{Bool, false, Some, None, Option}

-- what f makes of the item; y where there is none
abbrev pub given : {X Y : Type 0} → Option X → Y → (X → Y) → Y
given None y f = y
given (Some x) y f = f x

-- there is such an item, and it passes
abbrev pub holds : {X : Type 0} → Option X → (X → Bool) → Bool
holds o f = given o false f
