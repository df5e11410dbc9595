use Rattle.std.proofs.Common.{ℕ, List, length, arith, lit<, rules}
use Rattle.std.specs.List.{slice_split}
use Rattle.std.proofs.lemmas.Fn.{FoldsTo-push}
use Rattle.std.proofs.lemmas.List.{take_more, take_all, length_push}
use Rattle.std.proofs.lemmas.Iterator.Splits.{YieldsList-from_str_split}
use Rattle.std.proofs.lemmas.Iterator.Consumers.{YieldsList-turn, YieldsList-end}
use Rattle.spelled_texts.specs.Spelling.{AddsPiece, is_bar}
use Rattle.spelled_texts.proofs.spelled.decode.Goals as goal

pub loop-piece-preserved : goal.loop-piece-preserved
loop-piece-preserved c =
    let all : List (List ℕ) = slice_split is_bar c.args.line.now in
    let pieces = YieldsList-from_str_split {s = c.into_iter-piece-iterator.result} 124 c.args.line.now (lit< tt) (search rules) (search rules) (search rules) in
    let turn = YieldsList-turn pieces c.loop-piece.yielded _ c.loop-piece.yielded_by _ _ c.in-Some.piece c.in-Some.is c.next.ensures.steps in
    rw (length_push c.loop-piece.yielded c.in-Some.piece, take_more all (length c.loop-piece.yielded) c.in-Some.piece.now turn.0, ← turn.1)
    (FoldsTo-push AddsPiece _ _ _ _ _ c.loop-piece.invariant c.in_ok-add_repeated.ensures)

pub returns : goal.returns
returns c =
    let all : List (List ℕ) = slice_split is_bar c.args.line.now in
    let pieces = YieldsList-from_str_split {s = c.into_iter-piece-iterator.result} 124 c.args.line.now (lit< tt) (search rules) (search rules) (search rules) in
    let end = YieldsList-end pieces c.loop-piece.yielded _ c.loop-piece.yielded_by _ _ c.in-None.is c.next.ensures.steps in
    rw (take_all (length c.loop-piece.yielded) all (omega (arith, end.1))) at c.loop-piece.invariant
