use Rattle.std.proofs.Common.{replicate, vec_items}
use Rattle.std.specs.List.{FoldsTo}
use Rattle.spelled_texts.specs.Spelling.{Adds}
use Rattle.spelled_texts.proofs.spelled.add_repeated.Given as goal

-- the text so far is the text as it was with the spelling added so often
abbrev pub invariant-loop : goal.invariant-loop
invariant-loop l = FoldsTo Adds (vec_items l.initial.text) (replicate l.counter l.spelling) (vec_items l.text)
