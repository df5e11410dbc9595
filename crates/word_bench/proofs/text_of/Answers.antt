use Rattle.std.proofs.Common.{◌≡◌, ◌<◌, ◌≤◌, ℕ, true, List, length, arith, sym, ap, ◌∙◌}
use Rattle.std.specs.Iterator.Adapters.{copied_source}
use Rattle.std.specs.Iterator.Runs.{Run}
use Rattle.std.specs.Slice.Iter.{iter_rest}
use Rattle.std.proofs.iter.runs.Made.{took}
use Rattle.std.proofs.lemmas.Iterator.{YieldsList-from_slice, items_from_drains}
use Rattle.std.proofs.lemmas.Iterator.Consumers.{YieldsList-from_copied}
use Rattle.std.proofs.iter.Yields.{fronts, copies}
use Rattle.std.proofs.lemmas.List.{length-map}
use Rattle.std.proofs.lemmas.Result.{IfOk-weaker}
use Rattle.word_bench.proofs.text_of.Goals as goal

no_less : (a n : ℕ) → a ≤ n → (a < n → ⊥) → a ≡ n
no_less a n le more = omega (arith, more)

-- a whole run over the elements of a slice gives as many
whole_run : (xs : List ℕ) (r : Run (copies (fronts {A = ℕ}))) → iter_rest (copied_source r.from) ≡ xs → r.whole ≡ true → r.len ≡ length xs
whole_run xs r from whole =
    let all = items_from_drains r.items ((took r).0, (took r).1, λ _. (took r).2 whole) (YieldsList-from_copied (YieldsList-from_slice xs from)) in
    omega (arith, ap length all, length-map r.items (λ (x : ℕ). x), r.long)

pub returns : goal.returns
returns c = IfOk-weaker c.collect.result _ _ (λ v h.
    let run = h tt in
    let cut = c.take.ensures.runs run.0 run.0.seen run.1 in
    let full = no_less run.0.len c.args.size cut.0 (λ short.
    let empty = (c.cycle.ensures.runs cut.1.0 cut.1.0.seen cut.1.1).0 (cut.1.2.1 run.2 short) in
    let none = whole_run c.iter.result.rest.now empty.2.0 (ap (λ s. iter_rest (copied_source s)) empty.2.1 ∙ empty.1 ∙ ap iter_rest c.copied.ensures.source) empty.2.2 in
    omega (arith, none, empty.2.3, c.iter.ensures.len)) in
    run.3.1 ∙ sym run.0.long ∙ full) c.collect.ensures.runs
