-- How bytes are spelled in plain ASCII.
use Rattle.std.specs.Prelude.{◌≡◌, ℕ, ◌+◌, ◌-◌, ◌*◌, Bool, cond, if◌then◌else◌, ◌&&◌, List, [], ◌∷◌, ◌++◌, length, drop, replicate, Some, None, Option, Ok, ◌==◌, nat_le, nat_lt}
use Rattle.std.specs.Bool.{MatchBool}
use Rattle.std.specs.List.{FoldsTo, position_or_len, before_first, after_first, slice_split}
use Rattle.std.specs.Str.Parse.{ParsesUnsigned}
use Rattle.spelled_texts.specs.declared.spelled.Spelled.{Spelled}

abbrev pub within : ℕ → ℕ → ℕ → Bool
within low high b = nat_le low b && nat_le b high

-- what a hexadecimal digit counts: 0 to 9 and a to f
abbrev pub hex_value : ℕ → Option ℕ
hex_value b = cond (within 48 57 b) (Some (b - 48)) (cond (within 97 102 b) (Some (b - 97 + 10)) None)

abbrev pub spells : ℕ → ℕ → Spelled
spells b n = record { byte = b; length = n }

-- a backslash and two digits spell one byte
abbrev pub escape : Option ℕ → Option ℕ → Option Spelled
escape None low = None
escape (Some h) None = None
escape (Some h) (Some l) = Some (spells (16 * h + l) 3)

-- what follows a backslash
abbrev pub escaped : List ℕ → Option Spelled
escaped [] = None
escaped (h ∷ []) = None
escaped (h ∷ l ∷ s) = escape (hex_value h) (hex_value l)

-- the first byte that is spelled: by an escape, or by itself
abbrev pub first_spelled : List ℕ → Option Spelled
first_spelled [] = None
first_spelled (b ∷ s) = cond (b == 92) (escaped s) (Some (spells b 1))

-- a text, a piece, and the text once the bytes that the piece spells are added to it, the first one first
pub data Adds : List ℕ → List ℕ → List ℕ → Type 0 where
  none : {text : List ℕ} → Adds text [] text
  one : {text piece after : List ℕ} {s : Spelled} → first_spelled piece ≡ Some s → Adds (text ++ s.byte ∷ []) (drop s.length piece) after → Adds text piece after

abbrev pub is_bar : ℕ → Bool
is_bar b = b == 124

abbrev pub is_star : ℕ → Bool
is_star b = b == 42

abbrev pub has_star : List ℕ → Bool
has_star piece = nat_lt (position_or_len is_star piece) (length piece)

-- bytes are n in decimal digits, with a plus before them or none, and n is below 2 ^ 32
abbrev pub IsNumber : List ℕ → ℕ → Type 0
IsNumber bytes n = ParsesUnsigned {E = ℕ} 32 10 bytes (Ok n)

-- how often a piece is spelled: as the number before its first star says, and once where it has no star
abbrev pub IsTimes : List ℕ → ℕ → Type 0
IsTimes piece n = MatchBool (has_star piece) (IsNumber (before_first is_star piece) n) (n ≡ 1)

-- what is spelled each time: what follows the first star, and the whole piece where it has no star
abbrev pub spelling : List ℕ → List ℕ
spelling piece = if has_star piece then after_first is_star piece else piece

-- a text, a piece, and the text once the piece is added to it as often as it says
abbrev pub AddsPiece : List ℕ → List ℕ → List ℕ → Type 0
AddsPiece text piece after = (n : ℕ) × IsTimes piece n × FoldsTo Adds text (replicate n (spelling piece)) after

-- a line, and the text that it spells: pieces with bars between them, one after another
abbrev pub Spells : List ℕ → List ℕ → Type 0
Spells line text = FoldsTo AddsPiece [] (slice_split is_bar line) text
