-- A node that has a type is given it.
use Rattle.std.proofs.Common.{◌≡◌, ℕ, zero, suc, ◌<◌, true, eqb, List, Some, None, Option, sym, refl, ap, ◌∙◌, inl, inr, arith}
use Rattle.std.proofs.lemmas.Bool.{cases_eq, cond-true, cond-false, eq-eqb, ne_eqb}
use Rattle.values.specs.declared.types.Kind.{Kind}
use Rattle.values.specs.declared.types.Ty.{Ty}
use Rattle.values.specs.Fits.{AreLines, Fits, fits_to}
use Rattle.values.proofs.Fitting.{fits_decides}
use Rattle.outline.specs.declared.entry.Shape.{Shape}
use Rattle.outline.specs.declared.entry.Node.{Node}
use Rattle.outline.specs.Contents.{Contents}
use Rattle.declarations.specs.declared.declarations.Ends.{Ends}
use Rattle.declarations.specs.Resolved.{Declared}
use Rattle.tables.specs.Items.{given}
use Rattle.typing.specs.declared.step.Step.TheVariants as step
use Rattle.typing.specs.HasType.{Is, Before, EndsOf, Comparable, as_null, as_row, HasType, true_typed, false_typed, null_typed, this_typed, variable_typed, new_typed, partners_typed, field_typed, instances_typed, from_typed, to_typed, equal_typed, set_variable_typed, set_field_typed, add_typed, rem_typed, call_typed, InOrder, action_ordered, branch_ordered, return_ordered}
use Rattle.typing.specs.Lookup.{row_of_kind, as_relationship, relationship_of}
use Rattle.typing.specs.Typing.{ordered, comparable, is_boolean, of_shape}
use Rattle.typing.specs.Passing.{plain_node, node_at, type_of, part_type, ruling_by, types_to, ruling_at, type_at}
use Rattle.typing.proofs.Upwards.{up_field, up_method}

pub comparable_is : {t : Ty} → Comparable t → comparable t.kind ≡ true
comparable_is (as_null e) = ap comparable e
comparable_is (as_row e) = ap comparable e

pub relationship_is : (d : Declared) (t : Ty) (e : Ends) → EndsOf d t e → relationship_of t ≡ Some t.row
relationship_is d t e h = ap (λ (j : Kind). given (row_of_kind j t.row) None (λ r. as_relationship r.lineage r.number)) h.row

module _ (text : List ℕ) (k : Contents) (d : Declared) where
  -- what is judged of a node, by its shape
  pub judged : {i : ℕ} {s : Shape} {v : Node} → Is k i s v → ruling_at text k d i ≡ of_shape text k d s v.method (part_type (types_to text k d i) v.left) (part_type (types_to text k d i) v.right)
  unfolding ruling_at
  judged {i} {s} {v} is =
      let e : node_at k i ≡ v = ap (λ (o : Option Node). given o plain_node (λ x. x)) is.there in
      ap (ruling_by text k d (types_to text k d i)) e
      ∙ ap (λ (z : Shape). of_shape text k d z v.method (part_type (types_to text k d i) v.left) (part_type (types_to text k d i) v.right)) is.shaped

  -- later nodes do not change a type
  pub settled : (i j : ℕ) → j < i → types_to text k d i j ≡ type_at text k d j
  unfolding types_to type_at ruling_at
  settled zero j h = absurd (omega arith)
  settled (suc n) j h =
      elim (cases_eq j n) [
        | inl z ↦ cond-true (eqb j n) _ _ (eq-eqb j n z) ∙ ap (type_at text k d) (sym z)
        | inr ne ↦ cond-false (eqb j n) _ _ (ne_eqb j n ne) ∙ settled n j (omega arith)
      ]

  pub part_typed : {i j : ℕ} {part : Option ℕ} {s : Ty} → Before i part j → type_at text k d j ≡ Some s → part_type (types_to text k d i) part ≡ Some s
  part_typed {i} {j} h q = ap (part_type (types_to text k d i)) h.is ∙ settled i j h.before ∙ q

  typed : {i : ℕ} {s : Shape} {v : Node} {t : Ty} → Is k i s v
      → type_of (of_shape text k d s v.method (part_type (types_to text k d i) v.left) (part_type (types_to text k d i) v.right)) ≡ Some t → type_at text k d i ≡ Some t
  unfolding type_at
  typed is q = ap type_of (judged is) ∙ q

  module _ (lines : AreLines d.ancestry) where
    fitting : {s t : Ty} → Fits d.ancestry s t → fits_to d.ancestry s t ≡ true
    fitting {s} {t} f = (fits_decides lines s t).1 f

    pub complete : {i : ℕ} {t : Ty} → HasType text k d i t → type_at text k d i ≡ Some t
    complete (true_typed is) = typed is refl
    complete (false_typed is) = typed is refl
    complete (null_typed is) = typed is refl
    complete (this_typed is m) = typed is (simp m)
    complete (variable_typed is x t) = typed is (simp (x, t))
    complete (new_typed is n) = typed is (simp n)
    complete (partners_typed is h s r f) =
        let l = part_typed h (complete s) in
        let a = r.named in
        let b = r.ends in
        let g = fitting f in
        typed is (simp (l, a, b, g))
    complete (field_typed {p = at} {s = s} is h p a u t) =
        let l = part_typed h (complete p) in
        let f = up_field text k d lines at s _ u in
        typed is (simp (l, a, f, t))
    complete (instances_typed is h s r f) =
        let l = part_typed h (complete s) in
        let a = r.named in
        let b = r.ends in
        let g = fitting f in
        typed is (simp (l, a, b, g))
    complete (from_typed {e = e} {s = s} is h p r) =
        let l = part_typed h (complete p) in
        let a = relationship_is d s e r in
        let b = r.ends in
        typed is (simp (l, a, b))
    complete (to_typed {e = e} {s = s} is h p r) =
        let l = part_typed h (complete p) in
        let a = relationship_is d s e r in
        let b = r.ends in
        typed is (simp (l, a, b))
    complete (equal_typed is h p i q a b) =
        let l = part_typed h (complete p) in
        let r = part_typed i (complete q) in
        let x = comparable_is a in
        let y = comparable_is b in
        typed is (simp (l, r, x, y))
    complete (set_variable_typed is h p x u f) =
        let r = part_typed h (complete p) in
        let g = fitting f in
        typed is (simp (r, x, u, g))
    complete (set_field_typed {p = at} {s = s} is h p i q a u b f) =
        let l = part_typed h (complete p) in
        let r = part_typed i (complete q) in
        let e = up_field text k d lines at s _ u in
        let g = fitting f in
        typed is (simp (l, r, a, e, b, g))
    complete (add_typed is h p i q x f g) =
        let l = part_typed h (complete p) in
        let r = part_typed i (complete q) in
        let a = x.named in
        let b = x.ends in
        let y = fitting f in
        let z = fitting g in
        typed is (simp (l, r, a, b, y, z))
    complete (rem_typed is h p i q x f g) =
        let l = part_typed h (complete p) in
        let r = part_typed i (complete q) in
        let a = x.named in
        let b = x.ends in
        let y = fitting f in
        let z = fitting g in
        typed is (simp (l, r, a, b, y, z))
    complete (call_typed {p = at} {s = s} is h p i q u b f) =
        let l = part_typed h (complete p) in
        let r = part_typed i (complete q) in
        let e = up_method text k d lines at s _ u in
        let g = fitting f in
        typed is (simp (l, r, e, b, g))

    -- a statement in order is judged so
    pub complete_ordered : {i : ℕ} → InOrder text k d i → (s : _) × (ruling_at text k d i ≡ ordered s)
    complete_ordered (action_ordered is h p) =
        let l = part_typed h (complete p) in
        (step.Drop, judged is ∙ simp l)
    complete_ordered (branch_ordered is h p b) =
        let l = part_typed h (complete p) in
        let e = ap is_boolean b in
        (step.Branch, judged is ∙ simp (l, e))
    complete_ordered (return_ordered is h p g f) =
        let l = part_typed h (complete p) in
        let e = fitting f in
        (step.Return, judged is ∙ simp (l, g, e))
