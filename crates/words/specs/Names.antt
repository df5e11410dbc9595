-- Names, by their places in a text.
use Rattle.std.specs.Prelude.{ℕ, Bool, List, take, drop}
use Rattle.std.specs.List.{prefix_len}
use Rattle.std.specs.Str.{bytes_eq}
use Rattle.words.specs.Bytes.{name_byte}

-- the name at place p: all letters, digits and underscores from there on
unfoldable pub name_at : List ℕ → ℕ → List ℕ
name_at text p = take (prefix_len name_byte (drop p text)) (drop p text)

-- the name at place p is spelled by these bytes
abbrev pub is_name : List ℕ → ℕ → List ℕ → Bool
is_name text p bytes = bytes_eq (name_at text p) bytes

-- the names at places p and q are the same
abbrev pub same_name : List ℕ → ℕ → ℕ → Bool
same_name text p q = is_name text p (name_at text q)
