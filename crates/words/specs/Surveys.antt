-- What is said of a text before its grammar is looked at.
use Rattle.std.specs.Prelude.{ℕ, cond, List, [], ◌∷◌, length, Some, None, Ok, Err, Option, Result, nat_lt}
use Rattle.words.specs.declared.kind.Kind.TheVariants.{Fault}
use Rattle.words.specs.declared.refusal.Unreadable.{Unreadable}
use Rattle.words.specs.declared.refusal.Unreadable.TheVariants.{TooLong, NotAllowed, TooDeep}
use Rattle.words.specs.declared.survey.Extent.{Extent}
use Rattle.words.specs.Kinds.{is}
use Rattle.words.specs.Nesting.{too_deep, deepest}
use Rattle.words.specs.Words.{Token, words}

-- the place of the first word that is not allowed
unfoldable pub first_fault : List Token → Option ℕ
first_fault [] = None
first_fault (w ∷ ws) = cond (is w.kind Fault) (Some w.place) (first_fault ws)

-- refused at the place, if there is one
abbrev pub refused_at : Option ℕ → (ℕ → Unreadable) → Result Extent Unreadable → Result Extent Unreadable
refused_at None e r = r
refused_at (Some p) e r = Err (e p)

abbrev pub extent : ℕ → ℕ → Extent
extent n d = record { words = n; depth = d }

-- the first of these that applies: a text over 32,768 bytes; a word that is not allowed; brackets that are too deep;
-- else how many words there are, and how deep the brackets go
unfoldable pub surveyed : List ℕ → Result Extent Unreadable
surveyed text =
    cond (nat_lt 32768 (length text)) (Err TooLong)
    (refused_at (first_fault (words text)) NotAllowed
    (refused_at (too_deep 0 (words text)) TooDeep
    (Ok (extent (length (words text)) (deepest 0 (words text))))))
