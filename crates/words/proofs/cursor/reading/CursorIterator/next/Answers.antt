use Rattle.std.proofs.Common.{◌≡◌, ℕ, ◌+◌, ◌-◌, ◌≤◌, List, ◌∷◌, length, take, drop, Some, None, Option, subst, sym, ap, ◌∙◌, le_refl, arith, length-drop, drop-drop, rules}
use Rattle.std.proofs.lemmas.Slice.{between_to_end}
use Rattle.std.specs.List.{prefix_len}
use Rattle.words.specs.declared.spelling.Front.{Front}
use Rattle.words.specs.Bytes.{separator}
use Rattle.words.specs.Spelling.{front_of}
use Rattle.words.specs.Words.{Reads, cut}
use Rattle.words.proofs.Cutting.{front_sized, next_front, rest_of}
use Rattle.words.proofs.cursor.reading.CursorIterator.next.Goals as goal

-- what stands at the front from p on, as the part of the text from p on has it
front_from : (text : List ℕ) (p : ℕ) (r o : Option Front) → r ≡ front_of (take (length text - p) (drop p text)) → r ≡ o → front_of (drop p text) ≡ o
front_from text p r o e f = ap front_of (sym (between_to_end text p (length text) (le_refl _))) ∙ sym e ∙ f

-- the unread words, by what stands at the front after the separators
words_are : (text : List ℕ) (at k : ℕ) (o : Option Front) → k ≡ prefix_len separator (take (length text - at) (drop at text)) → front_of (drop (at + k) text) ≡ o
    → cut at 0 (drop at text) ≡ rest_of (at + k) (drop (at + k) text) o
words_are text at k o e f =
    next_front text at k (e ∙ ap (prefix_len separator) (between_to_end text at (length text) (le_refl _))) ∙ ap (rest_of (at + k) (drop (at + k) text)) f

pub returns-in_err-kind-clause-steps : goal.returns-in_err-kind-clause-steps
returns-in_err-kind-clause-steps c =
    let text = c.args.self.now.text.now in
    let at = c.args.self.now.at in
    let none = front_from text (at + c.separators.result) _ None c.front_of.ensures c.in_err-kind.was in
    let end = words_are text at c.separators.result None c.separators.ensures.is none in
    subst (λ r. Reads c.args.self.now r c.args.self.now) (sym c.from_residual.ensures) (end, end)

within : (c : goal.In_ok-kind) → c.args.self.now.at + c.separators.result + c.in_ok-kind.field-0.size ≤ length c.args.self.now.text.now
within c =
    let text = c.args.self.now.text.now in
    let p = c.args.self.now.at + c.separators.result in
    let sized = front_sized (drop p text) c.in_ok-kind.field-0 (front_from text p _ _ c.front_of.ensures c.in_ok-kind.was) in
    omega (arith, sized.some, sized.within, length-drop p text)

pub overflow_add-self : goal.overflow_add-self
overflow_add-self c = let h = within c in search rules

pub invariant_of-self : goal.invariant_of-self
invariant_of-self c = record { within = within c }

pub returns-clause-steps : goal.returns-clause-steps
returns-clause-steps c =
    let text = c.args.self.now.text.now in
    let at = c.args.self.now.at in
    let p = at + c.separators.result in
    let f = c.in_ok-kind.field-0 in
    let some = front_from text p _ (Some f) c.front_of.ensures c.in_ok-kind.was in
    let rest = sym (between_to_end text p (length text) (le_refl _)) in
    words_are text at c.separators.result (Some f) c.separators.ensures.is some
    ∙ (λ i. record { kind = f.kind; place = p; bytes = take f.size (rest i) } ∷ cut (p + f.size) 0 (drop-drop f.size p text i))

pub returns-clause-goes : goal.returns-clause-goes
returns-clause-goes c = let fewer = ap length (returns-clause-steps c) in search rules
