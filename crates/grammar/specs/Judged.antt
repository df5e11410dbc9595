-- What is said of a text by its words: the refusals up to the grammar's, in their order.
use Rattle.std.specs.Prelude.{◌≡◌, ℕ, List, length, Ok, Err, Result}
use Rattle.words.specs.declared.survey.Extent.{Extent}
use Rattle.words.specs.Refusals as words-refusals
use Rattle.words.specs.Surveys.{surveyed}
use Rattle.words.specs.Words.{words}
use Rattle.grammar.specs.declared.event.Event.{Event}
use Rattle.grammar.specs.declared.judge.TextRefusal.{TextRefusal}
use Rattle.grammar.specs.declared.judge.TextRefusal.TheVariants.{Unreadable, Unexpected}
use Rattle.grammar.specs.Exact.{Accepted, RefusedAt}

abbrev pub number_of : TextRefusal → ℕ
number_of (Unreadable u) = words-refusals.number_of u
number_of (Unexpected e) = 13

abbrev pub place_of : TextRefusal → ℕ
place_of (Unreadable u) = words-refusals.place_of u
place_of (Unexpected e) = e.place

-- a text that can be read, and is no program: p is the place of the first word that cannot come
pub record NoProgram (text : List ℕ) (p : ℕ) : Type 0 where
  pub extent : Extent
  pub readable : surveyed text ≡ Ok extent
  pub refused : RefusedAt (words text) (length text) p

-- x is the sink's state before, y after
abbrev pub Judged : {X : Type 0} → (X → Event → X) → List ℕ → X → Result Extent TextRefusal → X → Type 0
Judged after text x (Ok extent) y = (surveyed text ≡ Ok extent) × Accepted after (words text) x y
Judged after text x (Err (Unreadable u)) y = (surveyed text ≡ Err u) × (y ≡ x)
Judged after text x (Err (Unexpected e)) y = NoProgram text e.place
