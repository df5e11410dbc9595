use Rattle.std.proofs.Common.{◌≡◌, ◌+◌, ◌≤◌, true, false, length, Ok, sym, ap, ◌∙◌, arith, rules, tests}
use Rattle.words.specs.declared.kind.Kind.TheVariants.{Fault}
use Rattle.words.specs.declared.refusal.Unreadable.TheVariants.{TooDeep}
use Rattle.words.specs.Kinds.{is}
use Rattle.words.specs.Surveys.{refused_at, extent}
use Rattle.words.specs.Words.{told, unread}
use Rattle.words.proofs.Surveying.{conclude, conclude_word, conclude_fault, conclude_none, cut_few, depth_below, depth_most, surveyed_at, surveyed_long}
use Rattle.words.proofs.survey.survey.Goals as goal

pub returns-then-text-gt-LONGEST_TEXT : goal.returns-then-text-gt-LONGEST_TEXT
returns-then-text-gt-LONGEST_TEXT c = sym (surveyed_long c.args.text.now c.if-text-gt-LONGEST_TEXT.true)

pub returns-then-eq : goal.returns-then-eq
returns-then-eq c =
    let short : length c.args.text.now ≤ 32768 = omega arith in
    let rest = unread c.next.new.self in
    let fault : is c.in-Some.word.kind Fault ≡ true = search (rules, tests) in
    sym (surveyed_at c.args.text.now _ _ _ _ short c.loop-word.invariant.0 c.in-Some.ensures.steps ∙ conclude_fault _ _ (told c.in-Some.word) rest fault)

pub pass-requires : goal.pass-requires
pass-requires c = omega (arith, c.loop-word.invariant.1, c.loop-word.invariant.2, cut_few 0 0 c.args.text.now)

pub overflow_add-words : goal.overflow_add-words
overflow_add-words c = let h = cut_few 0 0 c.args.text.now in search rules

pub loop-word-preserved : goal.loop-word-preserved
loop-word-preserved c =
    let w = told c.in-Some.word in
    let n = c.loop-word.nesting in
    let k = c.loop-word.words in
    let rest = unread c.next.new.self in
    let read = c.in-Some.ensures.steps in
    let passes = c.pass.ensures in
    let allowed : is c.in-Some.word.kind Fault ≡ false = search (rules, tests) in
    let step = sym (conclude_word n k w rest allowed c.loop-word.invariant.3) ∙ sym (ap (conclude n k) read) ∙ c.loop-word.invariant.0 in (
      ap (λ m. conclude m (k + 1) rest) passes ∙ step,
      omega (arith, ap length read, c.loop-word.invariant.1),
      rw passes (depth_below n w.kind w.place k c.loop-word.invariant.2),
      rw passes (depth_most n w.kind w.place c.loop-word.invariant.3),
    )

pub returns-in-Some-over : goal.returns-in-Some-over
returns-in-Some-over c =
    let short : length c.args.text.now ≤ 32768 = omega arith in
    let n = c.loop-word.nesting in
    let k = c.loop-word.words in
    sym (surveyed_at c.args.text.now n k _ _ short c.loop-word.invariant.0 c.in-None.ensures.steps.0 ∙ conclude_none n k c.loop-word.invariant.3
    ∙ ap (λ o. refused_at o TooDeep (Ok (extent k n.most))) c.in-Some-over.is)

pub returns : goal.returns
returns c =
    let short : length c.args.text.now ≤ 32768 = omega arith in
    let n = c.loop-word.nesting in
    let k = c.loop-word.words in
    sym (surveyed_at c.args.text.now n k _ _ short c.loop-word.invariant.0 c.in-None.ensures.steps.0 ∙ conclude_none n k c.loop-word.invariant.3
    ∙ ap (λ o. refused_at o TooDeep (Ok (extent k n.most))) c.in_default.is)
