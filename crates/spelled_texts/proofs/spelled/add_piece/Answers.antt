use Rattle.std.proofs.Common.{[], ◌∷◌, length, vec_items, sym, refl, arith}
use Rattle.std.proofs.lemmas.List.{nil_from_length}
use Rattle.std.proofs.lemmas.Bool.Decides.{nat_tests}
use Rattle.std.proofs.lemmas.Slice.{between_to_end, pushed}
use Rattle.spelled_texts.specs.Spelling.Adds.{none, one}
use Rattle.spelled_texts.proofs.spelled.add_piece.Goals as goal

pub loop-spelled-preserved : goal.loop-spelled-preserved
loop-spelled-preserved c =
    let here = c.in-Some.ensures in
    let s = c.in-Some.spelled in
    let grown = pushed {was = vec_items c.loop-spelled.text} (s.byte ∷ []) refl c.in_ok-push.was c.push.ensures.items in
    λ after adds. c.loop-spelled.invariant after (one (sym here.is) (rw (← between_to_end c.loop-spelled.rest.now s.length (length c.loop-spelled.rest.now) (omega arith), ← grown) adds))

pub returns-2 : goal.returns-2
returns-2 c = c.loop-spelled.invariant _ (rw (nil_from_length c.loop-spelled.rest.now (grind (arith, nat_tests))) none)
