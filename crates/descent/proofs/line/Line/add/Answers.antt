use Rattle.std.proofs.Common.{◌<◌, length, sym, refl, ◌∙◌, inl, inr, arith, length-set, get_or-set_other, get_or-set_same}
use Rattle.std.proofs.lemmas.List.{take_more_set}
use Rattle.std.proofs.lemmas.Bool.{cases_eq}
use Rattle.descent.specs.Rows.{line_of, no_parent, full}
use Rattle.descent.proofs.Rows.{rows_are}
use Rattle.descent.proofs.line.Line.add.Goals as goal

pub returns-then-parent-self : goal.returns-then-parent-self
returns-then-parent-self c = let n = rows_are c.args.self.now in no_parent (omega arith) refl

pub returns-then-self-ge32 : goal.returns-then-self-ge32
returns-then-self-ge32 c = let n = rows_are c.args.self.now in full (omega arith) (omega arith) refl

pub invariant_of-self : goal.invariant_of-self
invariant_of-self c =
    let l = c.args.self.now in
    let r = l.rows in
    let p = c.args.parent in
    let here : r < length l.parents = omega arith in
    record {
      whole = simp length-set l.whole;
      rooted = omega arith;
      few = omega arith;
      plain = get_or-set_other l.parents r 0 p 0 (omega arith) ∙ l.plain;
      smaller =
          λ a h k.
          elim (cases_eq a r) [
            | inl e ↦ let v = get_or-set_same l.parents r p 0 here in rw e (omega arith)
            | inr ne ↦ let v = get_or-set_other l.parents r a p 0 ne in let s = l.smaller a h (omega arith) in omega arith
          ];
    }

pub returns : goal.returns
unfolding line_of
returns c =
    let l = c.args.self.now in
    let n = rows_are l in
    let here : l.rows < length l.parents = omega arith in
    record {
      known = omega arith;
      room = omega arith;
      next = sym n;
      grown = take_more_set l.parents l.rows c.args.parent here;
    }
