-- The line that is printed of a text.
use Rattle.std.specs.Prelude.{ℕ, List, ◌++◌, Ok, Err, codes, decimal, Result}
use Rattle.words.specs.declared.refusal.Unreadable.{Unreadable}
use Rattle.words.specs.declared.survey.Extent.{Extent}
use Rattle.words.specs.Refusals.{number_of, place_of}

-- two numbers with a space between them
abbrev pub two : ℕ → ℕ → List ℕ
two a b = decimal a ++ (codes " " ++ decimal b)

-- how many words there are and how deep the brackets go, or the refusal's number and place
abbrev pub line_of : Result Extent Unreadable → List ℕ
line_of (Ok e) = codes "ok " ++ two e.words e.depth
line_of (Err u) = two (number_of u) (place_of u)
