use Rattle.std.proofs.Common.{◌≡◌, arith, refl}
use Rattle.std.proofs.lemmas.Fn.{FoldsTo-push}
use Rattle.std.proofs.lemmas.List.{replicate_more}
use Rattle.spelled_texts.specs.Spelling.{Adds}
use Rattle.spelled_texts.proofs.spelled.add_repeated.Goals as goal

pub loop-init : goal.loop-init
loop-init c = refl

pub loop-preserved : goal.loop-preserved
loop-preserved c =
    rw (← replicate_more) (FoldsTo-push Adds _ _ _ _ _ c.loop.invariant (rw (← c.as_bytes.ensures.value) c.in_ok-add_piece.ensures))

pub returns : goal.returns
returns c =
    let all : c.loop.counter ≡ c.in_ok-times.times = omega arith in
    (c.in_ok-times.times, c.in_ok-times.ensures.0, rw (← all, ← c.in_ok-times.ensures.1) c.loop.invariant)
