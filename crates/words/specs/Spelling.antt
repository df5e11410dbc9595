-- How words are spelled.
use Rattle.std.specs.Prelude.{ℕ, Bool, false, cond, ◌&&◌, List, [], ◌∷◌, length, take, Some, None, codes, Option, ◌==◌, nat_lt}
use Rattle.std.specs.List.{prefix_len}
use Rattle.std.specs.Str.{bytes_eq}
use Rattle.words.specs.declared.kind.Kind.{Kind}
use Rattle.words.specs.declared.kind.Kind.TheVariants as kind
use Rattle.words.specs.declared.bytes.Begins.{Begins}
use Rattle.words.specs.declared.bytes.Begins.TheVariants.{Name, Sign, Nothing}
use Rattle.words.specs.declared.spelling.Front.{Front}
use Rattle.words.specs.Bytes.{begins, name_byte}
use Rattle.words.specs.Kinds.{is}

abbrev pub front : Kind → ℕ → Front
front k n = record { kind = k; size = n }

-- a keyword and its kind
pub record Keyword : Type 0 where
  pub bytes : List ℕ
  pub kind : Kind

abbrev pub keyword : List ℕ → Kind → Keyword
keyword bs k = record { bytes = bs; kind = k }

-- the words that are never names
abbrev pub keywords : List Keyword
keywords =
    keyword (codes "if") kind.If
    ∷ keyword (codes "to") kind.To
    ∷ keyword (codes "set") kind.Set
    ∷ keyword (codes "new") kind.New
    ∷ keyword (codes "add") kind.Add
    ∷ keyword (codes "rem") kind.Rem
    ∷ keyword (codes "else") kind.Else
    ∷ keyword (codes "true") kind.True
    ∷ keyword (codes "null") kind.Null
    ∷ keyword (codes "this") kind.This
    ∷ keyword (codes "from") kind.From
    ∷ keyword (codes "class") kind.Class
    ∷ keyword (codes "false") kind.False
    ∷ keyword (codes "return") kind.Return
    ∷ keyword (codes "extends") kind.Extends
    ∷ keyword (codes "boolean") kind.Boolean
    ∷ keyword (codes "relationship") kind.Relationship
    ∷ []

-- the kind that a list of keywords gives to these bytes, else a name
abbrev pub among : List Keyword → List ℕ → Kind
among [] bs = kind.Name
among (w ∷ ws) bs = cond (bytes_eq bs w.bytes) w.kind (among ws bs)

-- the keywords whose size passes a test
abbrev pub of_size : (ℕ → Bool) → List Keyword → List Keyword
of_size p [] = []
of_size p (w ∷ ws) = cond (p (length w.bytes)) (w ∷ of_size p ws) (of_size p ws)

-- what a run of letters, digits and underscores is: over 31 bytes no word at all, else a keyword or a name
abbrev pub named : List ℕ → Kind
named bs = cond (nat_lt 31 (length bs)) kind.Fault (among keywords bs)

-- whether the second byte is an equals sign
abbrev pub equals_second : List ℕ → Bool
equals_second [] = false
equals_second (a ∷ []) = false
equals_second (a ∷ b ∷ bs) = b == 61

-- the word at the front of the bytes s, by what their first byte begins: a name goes as far as it can, the longest
-- sign is taken, and a byte that begins nothing is a fault by itself
abbrev pub begun : Begins → List ℕ → Front
begun Name s = front (named (take (prefix_len name_byte s) s)) (prefix_len name_byte s)
begun (Sign k) s = cond (is k kind.Assign && equals_second s) (front kind.Equal 2) (front k 1)
begun Nothing s = front kind.Fault 1

-- the word at the front of bytes that begin with no separator
abbrev pub front_of : List ℕ → Option Front
front_of [] = None
front_of (b ∷ bs) = Some (begun (begins b) (b ∷ bs))
