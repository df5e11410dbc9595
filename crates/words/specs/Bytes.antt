-- What single bytes mean.
use Rattle.std.specs.Prelude.{ℕ, Bool, cond, ◌&&◌, ◌||◌, Some, None, Option, ◌==◌, nat_le}
use Rattle.words.specs.declared.kind.Kind.{Kind}
use Rattle.words.specs.declared.kind.Kind.TheVariants as kind
use Rattle.words.specs.declared.bytes.Begins.{Begins}
use Rattle.words.specs.declared.bytes.Begins.TheVariants.{Name, Sign, Nothing}

abbrev pub within : ℕ → ℕ → ℕ → Bool
within low high b = nat_le low b && nat_le b high

-- tab, line feed, carriage return and space stand between words
abbrev pub separator : ℕ → Bool
separator b = b == 9 || b == 10 || b == 13 || b == 32

-- a to z, A to Z, and the underscore
abbrev pub letter : ℕ → Bool
letter b = within 97 122 b || within 65 90 b || b == 95

-- letters, underscore and 0 to 9
abbrev pub name_byte : ℕ → Bool
name_byte b = letter b || within 48 57 b

-- the signs of one byte: { } ( ) , ; < > . : =
abbrev pub sign_of : ℕ → Option Kind
sign_of b =
    cond (b == 123) (Some kind.OpenBrace)
    (cond (b == 125) (Some kind.CloseBrace)
    (cond (b == 40) (Some kind.OpenParen)
    (cond (b == 41) (Some kind.CloseParen)
    (cond (b == 44) (Some kind.Comma)
    (cond (b == 59) (Some kind.Semicolon)
    (cond (b == 60) (Some kind.Less)
    (cond (b == 62) (Some kind.Greater)
    (cond (b == 46) (Some kind.Dot)
    (cond (b == 58) (Some kind.Colon)
    (cond (b == 61) (Some kind.Assign) None))))))))))

abbrev pub signed : Option Kind → Begins
signed None = Nothing
signed (Some k) = Sign k

-- what a byte that is no separator begins: a name, a sign or nothing
abbrev pub begins : ℕ → Begins
begins b = cond (letter b) Name (signed (sign_of b))
