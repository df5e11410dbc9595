use Rattle.std.proofs.Common.{[], length, take, vec_items}
use Rattle.std.specs.List.{FoldsTo, slice_split}
use Rattle.spelled_texts.specs.Spelling.{AddsPiece, is_bar}
use Rattle.spelled_texts.proofs.spelled.decode.Given as goal

-- the text so far is spelled by the pieces so far
abbrev pub invariant-loop-piece : goal.invariant-loop-piece
invariant-loop-piece l = FoldsTo AddsPiece [] (take (length l.yielded) (slice_split is_bar l.line)) (vec_items l.text)
