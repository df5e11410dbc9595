-- Where no node is at fault, every node has a type or is in order.
use Rattle.std.proofs.Common.{◌≡◌, ℕ, zero, suc, ◌<◌, ◌≤◌, true, List, length, get_or, Some, None, Option, sym, refl, ap, ◌∙◌, inl, inr, arith}
use Rattle.std.specs.List.{slice_get}
use Rattle.std.proofs.lemmas.Option.{slice_get-get_or}
use Rattle.std.proofs.lemmas.Bool.{both_ways}
use Rattle.values.specs.Fits.{AreLines}
use Rattle.outline.specs.declared.entry.Shape.{Shape}
use Rattle.outline.specs.declared.entry.Node.{Node}
use Rattle.outline.specs.Contents.{Contents}
use Rattle.declarations.specs.Resolved.{Declared}
use Rattle.typing.specs.Typing.{Ruled}
use Rattle.typing.specs.declared.step.Ruling.TheVariants as ruling
use Rattle.typing.specs.HasType.{Is, InOrder, action_ordered, branch_ordered, return_ordered}
use Rattle.typing.specs.Faults.{NoFault, is_statement, Placed, WellPlaced, WellTyped, has_type, in_order}
use Rattle.typing.specs.Passing.{plain_node, part_type, types_to, ruling_at}
use Rattle.typing.proofs.Complete.{part_typed, complete}
use Rattle.typing.proofs.Faulting.{waits_for, judged_node, typed_has, done_ordered, at_fault}

same_node : {o : Option Node} {v w : Node} → o ≡ Some v → o ≡ Some w → v ≡ w
same_node p q = cc

module _ (text : List ℕ) (k : Contents) (d : Declared) (lines : AreLines d.ancestry) where
  shape_is : (j : ℕ) (x : Shape) (v w : Node) → Is k j x v → slice_get k.nodes j ≡ Some w → w.shape ≡ x
  shape_is j x v w is e = ap (λ (y : Node). y.shape) (same_node e is.there) ∙ is.shaped

  statement : (j : ℕ) (w : Node) → InOrder text k d j → slice_get k.nodes j ≡ Some w → is_statement w.shape ≡ true
  statement j w (action_ordered is h p) e = ap is_statement (shape_is j _ _ w is e)
  statement j w (branch_ordered is h p b) e = ap is_statement (shape_is j _ _ w is e)
  statement j w (return_ordered is h p g f) e = ap is_statement (shape_is j _ _ w is e)

  stuck : (i : ℕ) (part : Option ℕ) (p : Placed k i part) → WellTyped text k d p.node → part_type (types_to text k d i) part ≡ None → ⊥
  stuck i part p (has_type h) e =
      let a = part_typed text k d p.stands (complete text k d lines h) in
      let z : ◌≡◌ {A = ℕ} 0 1 = cc in
      omega arith
  stuck i part p (in_order o) e = both_ways _ p.expression (statement p.node p.entry o p.there)

  whole_by : (n i : ℕ) (v : Node) → i < n → i < length k.nodes → slice_get k.nodes i ≡ Some v → WellPlaced k n → NoFault text k d n
      → ((j : ℕ) → j < i → WellTyped text k d j) → (r : Ruled) → ruling_at text k d i ≡ r → WellTyped text k d i
  whole_by n i v b h there w none before (Some (ruling.Typed t s)) e = has_type (typed_has text k d lines i t s h e)
  whole_by n i v b h there w none before (Some (ruling.Done s)) e = in_order (done_ordered text k d lines i v s h there e)
  whole_by n i v b h there w none before None e = absurd (none.none i v b (at_fault text k d lines i v h there e))
  whole_by n i v b h there w none before (Some ruling.Waits) e =
      elim (waits_for text k d v.method (part_type (types_to text k d i) v.left) (part_type (types_to text k d i) v.right) v.shape (sym (judged_node text k d lines i v there) ∙ e)) [
        | inl x ↦ let p = w.left i v b there x.0 in absurd (stuck i v.left p (before p.node p.stands.before) x.1)
        | inr x ↦ let p = w.right i v b there x.0 in absurd (stuck i v.right p (before p.node p.stands.before) x.1)
      ]

  whole_to : (m n i : ℕ) → i < m → n ≤ length k.nodes → WellPlaced k n → NoFault text k d n → i < n → WellTyped text k d i
  whole_to zero n i a h w none b = absurd (omega arith)
  whole_to (suc m) n i a h w none b =
      let c : i < length k.nodes = omega arith in
      whole_by n i (get_or k.nodes i plain_node) b c (slice_get-get_or k.nodes i plain_node c) w none
      (λ j x. whole_to m n j (omega arith) h w none (omega arith)) (ruling_at text k d i) refl

  pub whole : (n : ℕ) → n ≤ length k.nodes → WellPlaced k n → NoFault text k d n → (i : ℕ) → i < n → WellTyped text k d i
  whole n h w none i b = whole_to (suc i) n i (omega arith) h w none b
