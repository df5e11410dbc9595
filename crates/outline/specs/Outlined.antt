-- What is said of a text by its words, its grammar and its size.
use Rattle.std.specs.Prelude.{◌≡◌, ℕ, List, Some, None, Ok, Err, Result}
use Rattle.words.specs.declared.survey.Extent.{Extent}
use Rattle.words.specs.Surveys.{surveyed}
use Rattle.words.specs.Words.{words}
use Rattle.grammar.specs.declared.judge.TextRefusal.TheVariants.{Unreadable, Unexpected}
use Rattle.grammar.specs.Exact.{Parsed}
use Rattle.grammar.specs.Judged.{NoProgram}
use Rattle.grammar.specs.Judged as judged
use Rattle.grammar.specs.Trees.{Program}
use Rattle.outline.specs.declared.contents.Outline.{Outline}
use Rattle.outline.specs.declared.limit.Limit.{Limit}
use Rattle.outline.specs.declared.outlining.Unlisted.{Unlisted}
use Rattle.outline.specs.declared.outlining.Unlisted.TheVariants as unlisted
use Rattle.outline.specs.Contents.{contents}
use Rattle.outline.specs.Layout.{contents_of}
use Rattle.outline.specs.Limits.{limit_number, limit_passed}

abbrev pub number_of : Unlisted → ℕ
number_of (unlisted.Text t) = judged.number_of t
number_of (unlisted.Limit l) = 14

abbrev pub place_of : Unlisted → ℕ
place_of (unlisted.Text t) = judged.place_of t
place_of (unlisted.Limit l) = limit_number l

-- a text can be read as words, and these are the words of this tree and of no other
pub record IsProgram (text : List ℕ) (t : Program) : Type 0 where
  pub extent : Extent
  pub readable : surveyed text ≡ Ok extent
  pub parsed : Parsed (words text) t

-- a program that passes a limit, the first of them being l
pub record TooLarge (text : List ℕ) (l : Limit) : Type 0 where
  pub tree : Program
  pub program : IsProgram text tree
  pub limit : limit_passed tree ≡ Some l

-- a program within all limits, with its tables
pub record Listed (text : List ℕ) (o : Outline) : Type 0 where
  pub tree : Program
  pub program : IsProgram text tree
  pub limit : limit_passed tree ≡ None
  pub tables : contents o ≡ contents_of tree

abbrev pub Outlined : List ℕ → Result Outline Unlisted → Type 0
Outlined text (Ok o) = Listed text o
Outlined text (Err (unlisted.Text (Unreadable u))) = surveyed text ≡ Err u
Outlined text (Err (unlisted.Text (Unexpected e))) = NoProgram text e.place
Outlined text (Err (unlisted.Limit l)) = TooLarge text l
