use Rattle.std.proofs.Common.{ℕ, List, length, vec_items}
use Rattle.spelled_texts.specs.Spelling.{Adds}
use Rattle.spelled_texts.proofs.spelled.add_piece.Given as goal

-- what the rest of the piece adds to the text so far, the whole piece adds to the text as it was
abbrev pub invariant-loop-spelled : goal.invariant-loop-spelled
invariant-loop-spelled l =
    (after : List ℕ) → Adds (vec_items l.text) l.rest after → Adds (vec_items l.initial.text) l.piece after

abbrev pub decreases-loop-spelled : goal.decreases-loop-spelled
decreases-loop-spelled l = length l.rest
