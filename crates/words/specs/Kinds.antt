-- Kinds of words, told apart by a number each.
use Rattle.std.specs.Prelude.{ℕ, Bool, ◌==◌}
use Rattle.words.specs.declared.kind.Kind.{Kind}
use Rattle.words.specs.declared.kind.Kind.TheVariants as kind

abbrev pub code : Kind → ℕ
code kind.Name = 0
code kind.Class = 1
code kind.Extends = 2
code kind.Relationship = 3
code kind.Boolean = 4
code kind.Set = 5
code kind.Return = 6
code kind.If = 7
code kind.Else = 8
code kind.True = 9
code kind.False = 10
code kind.Null = 11
code kind.This = 12
code kind.New = 13
code kind.Add = 14
code kind.Rem = 15
code kind.From = 16
code kind.To = 17
code kind.OpenBrace = 18
code kind.CloseBrace = 19
code kind.OpenParen = 20
code kind.CloseParen = 21
code kind.Comma = 22
code kind.Semicolon = 23
code kind.Less = 24
code kind.Greater = 25
code kind.Dot = 26
code kind.Colon = 27
code kind.Assign = 28
code kind.Equal = 29
code kind.Fault = 30

-- whether two kinds are the same
abbrev pub is : Kind → Kind → Bool
is j k = code j == code k
