use Rattle.std.proofs.Common.{◌≡◌, ℕ, List, Some, None, Option, arith}
use Rattle.descent.specs.Descent.{IsLine}
use Rattle.descent.specs.Nearest.{Computes, Found, nearest_up}
use Rattle.descent.proofs.Order.{root_from, parent_smaller, ends}
use Rattle.descent.proofs.Search.{passed_none, passed_more, passed_all, passed_found, nearest_same_as, lacking_absent}
use Rattle.descent.proofs.members.nearest.Goals as goal

-- what is found is what the function gives
told : {M : Type 0} {line : List ℕ} {post : ℕ → Option M → Type 0} (a : ℕ) (x : Option (ℕ × M)) → IsLine line
    → ((m : ℕ → Option M) → Computes post m → Found line m a x)
    → record { found : (m : ℕ → Option M) → Computes post m → Found line m a x; same : (m : ℕ → Option M) → Computes post m → x ≡ nearest_up line m a }
told a x l found = record { found = found; same = λ m k. nearest_same_as _ m l a x (found m k) }

pub returns-then-row-rows : goal.returns-then-row-rows
returns-then-row-rows g c = let l = c.rows.ensures.line in told _ _ l (λ m k. lacking_absent l c.args.row (omega arith))

pub loop-m-init : goal.loop-m-init
loop-m-init g c = λ m k. passed_none c.rows.ensures.line c.args.row (omega arith)

pub loop-m-preserved : goal.loop-m-preserved
loop-m-preserved g c =
    λ m k.
    let l = c.rows.ensures.line in
    let s = c.loop-m.invariant m k in
    let here = ends s.upward in
    let p = c.in_ok-at.ensures in
    let up = parent_smaller l p in
    passed_more l s (k c.loop-m.at None (omega arith) c.in_default.ensures) p (omega arith)

pub returns-in_err-at : goal.returns-in_err-at
returns-in_err-at g c =
    let l = c.rows.ensures.line in
    let none = c.from_residual.ensures in
    rw none (told _ _ l (λ m k.
    let s = c.loop-m.invariant m k in
    let here = ends s.upward in
    passed_all l s (k c.loop-m.at None (omega arith) c.in_default.ensures) (root_from l c.loop-m.at here c.in_err-at.ensures)))

pub returns-in-Some : goal.returns-in-Some
returns-in-Some g c =
    let l = c.rows.ensures.line in
    told _ _ l (λ m k.
    let s = c.loop-m.invariant m k in
    let here = ends s.upward in
    passed_found l s (k c.loop-m.at (Some c.in-Some.m) (omega arith) c.in-Some.ensures))
