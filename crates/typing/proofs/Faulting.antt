-- The nodes that are judged to be at fault are those at fault.
use Rattle.std.proofs.Common.{◌≡◌, ℕ, ◌<◌, ◌≤◌, Bool, true, false, cond, ◌&&◌, ◌⊎◌, List, length, get_or, Some, None, Option, sym, refl, ap, ◌∙◌, inl, inr, arith}
use Rattle.std.specs.List.{slice_get}
use Rattle.std.proofs.lemmas.Option.{slice_get-get_or, slice_get_past}
use Rattle.std.proofs.lemmas.Bool.{cases_lt}
use Rattle.values.specs.declared.types.Kind.{Kind}
use Rattle.values.specs.declared.types.Kind.TheVariants.{Boolean, Null, Row, Set}
use Rattle.values.specs.declared.types.Ty.{Ty}
use Rattle.values.specs.declared.types.Lineage.TheVariants.{Class, Relationship}
use Rattle.values.specs.Types.{boolean, row_type, set_type}
use Rattle.values.specs.Fits.{AreLines, fits_to}
use Rattle.values.proofs.Fitting.{fits_decides}
use Rattle.outline.specs.declared.entry.Shape.{Shape}
use Rattle.outline.specs.declared.entry.Shape.TheVariants as shape
use Rattle.outline.specs.declared.entry.Node.{Node}
use Rattle.outline.specs.Contents.{Contents}
use Rattle.tables.specs.Below.{least_below}
use Rattle.tables.proofs.Found.{least_none, least_among, least_lowest}
use Rattle.declarations.specs.declared.declarations.Signature.{Signature}
use Rattle.declarations.specs.Resolved.{Declared}
use Rattle.tables.specs.Items.{given}
use Rattle.typing.specs.declared.step.Step.{Step}
use Rattle.typing.specs.declared.step.Step.TheVariants as step
use Rattle.typing.specs.declared.step.Ruling.TheVariants as ruling
use Rattle.typing.specs.HasType.{Before, HasType, InOrder, action_ordered, branch_ordered, return_ordered}
use Rattle.typing.specs.Faults.{has_left, has_right, Ready, AtFault, FirstFault}
use Rattle.typing.specs.Lookup.{class_named, relationship_named, relationship_of, variable_named, variable_number, field_from, method_from}
use Rattle.typing.specs.Typing.{Ruled, ruled, ordered, waiting, faulty, type_of_row, set_of_row, comparable, pair_named, this_ruling, variable_ruling, new_ruling, partners_ruling, field_ruling, member_ruling, instances_ruling, from_ruling, to_ruling, compare_ruling, set_variable_ruling, set_field_ruling, set_member_ruling, add_ruling, rem_ruling, call_ruling, is_boolean, branch_ruling, return_ruling, of_shape}
use Rattle.typing.specs.Passing.{plain_node, node_at, type_of, part_type, types_to, ruling_at, type_at, fault_place, untyped}
use Rattle.typing.proofs.Complete.{judged, settled, part_typed, complete, complete_ordered}
use Rattle.typing.proofs.Judging.{none_later}
use Rattle.typing.proofs.Sound.{sound}

absurdly : {C : Type 0} → ◌≡◌ {A = ℕ} 0 1 → C
absurdly z = absurd (omega arith)

-- The rules of expressions give a type or a fault.

settles : Ruled → Bool
settles (Some (ruling.Typed t s)) = true
settles (Some (ruling.Done s)) = false
settles (Some ruling.Waits) = false
settles None = true

given_settles : {X : Type 0} (o : Option X) (f : X → Ruled) → ((x : X) → settles (f x) ≡ true) → settles (given o faulty f) ≡ true
unfolding settles
given_settles None f h = refl
given_settles (Some x) f h = h x

cond_settles : (b : Bool) (t : Ty) (s : Step) → settles (cond b (ruled t s) faulty) ≡ true
unfolding settles
cond_settles true t s = refl
cond_settles false t s = refl

deep_settles : {X Y : Type 0} (o : Option X) (g : X → Option Y) (f : X → Y → Ruled) → ((x : X) (y : Y) → settles (f x y) ≡ true)
    → settles (given o faulty (λ x. given (g x) faulty (f x))) ≡ true
deep_settles o g f h = given_settles o (λ x. given (g x) faulty (f x)) (λ x. given_settles (g x) (f x) (h x))

this_settles : (k : Contents) (m : ℕ) → settles (this_ruling k m) ≡ true
unfolding settles
this_settles k m = given_settles (slice_get k.methods m) (λ x. ruled (type_of_row x.owner) step.This) (λ x. refl)

new_settles : (text : List ℕ) (k : Contents) (p : ℕ) → settles (new_ruling text k p) ≡ true
unfolding settles
new_settles text k p = given_settles (class_named text k p) (λ n. ruled (row_type Class n) (step.New n)) (λ n. refl)

compare_settles : (s t : Ty) → settles (compare_ruling s t) ≡ true
compare_settles s t = cond_settles (comparable s.kind && comparable t.kind) boolean step.Compare

module _ (d : Declared) where
  partners_settles : (s : Ty) (r : ℕ) → settles (partners_ruling d s r) ≡ true
  partners_settles s r =
      given_settles (slice_get d.ends r) (λ e. cond (fits_to d.ancestry s (type_of_row e.first)) (ruled (set_of_row e.second) (step.Partners r)) faulty)
      (λ e. cond_settles (fits_to d.ancestry s (type_of_row e.first)) (set_of_row e.second) (step.Partners r))

  from_settles : (s : Ty) → settles (from_ruling d s) ≡ true
  unfolding settles
  from_settles s = deep_settles (relationship_of s) (slice_get d.ends) (λ r e. ruled (type_of_row e.first) step.From) (λ r e. refl)

  to_settles : (s : Ty) → settles (to_ruling d s) ≡ true
  unfolding settles
  to_settles s = deep_settles (relationship_of s) (slice_get d.ends) (λ r e. ruled (type_of_row e.second) step.To) (λ r e. refl)

module _ (text : List ℕ) (k : Contents) (d : Declared) where
  variable_settles : (m p : ℕ) → settles (variable_ruling text k d m p) ≡ true
  unfolding settles
  variable_settles m p = deep_settles (variable_named text k m p) (slice_get d.variables) (λ i t. ruled t (step.Variable (variable_number k m i))) (λ i t. refl)

  field_settles : (s : Ty) (p : ℕ) → settles (field_ruling text k d s p) ≡ true
  unfolding settles
  field_settles s p = deep_settles (field_from text k d s p) (slice_get d.fields) (λ f t. ruled t (step.Field f)) (λ f t. refl)

  member_or : (s : Ty) (p : ℕ) (o : Option ℕ) → settles (given o (field_ruling text k d s p) (partners_ruling d s)) ≡ true
  member_or s p None = field_settles s p
  member_or s p (Some r) = partners_settles d s r

  member_settles : (s : Ty) (p : ℕ) → settles (member_ruling text k d s p) ≡ true
  member_settles s p = member_or s p (relationship_named text k p)

  instances_settles : (s : Ty) (p : ℕ) → settles (instances_ruling text k d s p) ≡ true
  instances_settles s p =
      deep_settles (relationship_named text k p) (slice_get d.ends)
      (λ r e. cond (fits_to d.ancestry s (type_of_row e.first)) (ruled (set_type Relationship r) (step.Instances r)) faulty)
      (λ r e. cond_settles (fits_to d.ancestry s (type_of_row e.first)) (set_type Relationship r) (step.Instances r))

  set_variable_settles : (m p : ℕ) (t : Ty) → settles (set_variable_ruling text k d m p t) ≡ true
  set_variable_settles m p t =
      deep_settles (variable_named text k m p) (slice_get d.variables) (λ i u. cond (fits_to d.ancestry t u) (ruled t (step.SetVariable (variable_number k m i))) faulty)
      (λ i u. cond_settles (fits_to d.ancestry t u) t (step.SetVariable (variable_number k m i)))

  set_field_settles : (s : Ty) (p : ℕ) (t : Ty) → settles (set_field_ruling text k d s p t) ≡ true
  set_field_settles s p t =
      deep_settles (field_from text k d s p) (slice_get d.fields) (λ f u. cond (fits_to d.ancestry t u) (ruled t (step.SetField f)) faulty)
      (λ f u. cond_settles (fits_to d.ancestry t u) t (step.SetField f))

  set_member_or : (s : Ty) (p : ℕ) (t : Ty) (o : Option ℕ) → settles (given o (set_field_ruling text k d s p t) (λ r. faulty)) ≡ true
  unfolding settles
  set_member_or s p t None = set_field_settles s p t
  set_member_or s p t (Some r) = refl

  set_member_settles : (s : Ty) (p : ℕ) (t : Ty) → settles (set_member_ruling text k d s p t) ≡ true
  set_member_settles s p t = set_member_or s p t (relationship_named text k p)

  add_settles : (p : ℕ) (s t : Ty) → settles (add_ruling text k d p s t) ≡ true
  unfolding settles
  add_settles p s t = given_settles (pair_named text k d p s t) (λ r. ruled (row_type Relationship r) (step.Add r)) (λ r. refl)

  rem_settles : (p : ℕ) (s t : Ty) → settles (rem_ruling text k d p s t) ≡ true
  unfolding settles
  rem_settles p s t = given_settles (pair_named text k d p s t) (λ r. ruled (row_type Relationship r) (step.Rem r)) (λ r. refl)

  call_settles : (s : Ty) (p : ℕ) (t : Ty) → settles (call_ruling text k d s p t) ≡ true
  call_settles s p t =
      deep_settles (method_from text k d s p) (slice_get d.methods) (λ m g. cond (fits_to d.ancestry t g.parameter) (ruled g.result (step.Call m)) faulty)
      (λ m g. cond_settles (fits_to d.ancestry t g.parameter) g.result (step.Call m))

-- What a ruling that settles is not.

not_waits : {C : Type 0} (r : Ruled) → settles r ≡ true → r ≡ waiting → C
unfolding settles
not_waits (Some (ruling.Typed t s)) h e = absurdly (cc)
not_waits (Some (ruling.Done s)) h e = absurdly (cc)
not_waits (Some ruling.Waits) h e = absurdly (cc)
not_waits None h e = absurdly (cc)

not_done : {C : Type 0} {z : Step} (r : Ruled) → settles r ≡ true → r ≡ ordered z → C
unfolding settles
not_done (Some (ruling.Typed t s)) h e = absurdly (cc)
not_done (Some (ruling.Done s)) h e = absurdly (cc)
not_done (Some ruling.Waits) h e = absurdly (cc)
not_done None h e = absurdly (cc)

test_moves : {C : Type 0} (b : Bool) (s : Step) → cond b (ordered s) faulty ≡ waiting → C
test_moves true s e = absurdly (cc)
test_moves false s e = absurdly (cc)

-- A node waits only for a part, and is at fault only with its parts.

one_waits : (o : Option Ty) (f : Ty → Ruled) → ((s : Ty) → settles (f s) ≡ true) → given o waiting f ≡ waiting → o ≡ None
one_waits None f h e = refl
one_waits (Some s) f h e = not_waits (f s) (h s) e

two_waits : (a b : Option Ty) (f : Ty → Ty → Ruled) → ((s t : Ty) → settles (f s t) ≡ true) → given a waiting (λ s. given b waiting (f s)) ≡ waiting → (a ≡ None) ⊎ (b ≡ None)
two_waits None b f h e = inl refl
two_waits (Some s) None f h e = inr refl
two_waits (Some s) (Some t) f h e = not_waits (f s t) (h s t) e

one_done : {C : Type 0} {z : Step} (o : Option Ty) (f : Ty → Ruled) → ((s : Ty) → settles (f s) ≡ true) → given o waiting f ≡ ordered z → C
one_done None f h e = absurdly (cc)
one_done (Some s) f h e = not_done (f s) (h s) e

two_done : {C : Type 0} {z : Step} (a b : Option Ty) (f : Ty → Ty → Ruled) → ((s t : Ty) → settles (f s t) ≡ true) → given a waiting (λ s. given b waiting (f s)) ≡ ordered z → C
two_done None b f h e = absurdly (cc)
two_done (Some s) None f h e = absurdly (cc)
two_done (Some s) (Some t) f h e = not_done (f s t) (h s t) e

one_fault : (o : Option Ty) (f : Ty → Ruled) → given o waiting f ≡ faulty → (s : Ty) × (o ≡ Some s)
one_fault None f e = absurdly (cc)
one_fault (Some s) f e = (s, refl)

two_fault : (a b : Option Ty) (f : Ty → Ty → Ruled) → given a waiting (λ s. given b waiting (f s)) ≡ faulty → ((s : Ty) × (a ≡ Some s)) × ((t : Ty) × (b ≡ Some t))
two_fault None b f e = absurdly (cc)
two_fault (Some s) None f e = absurdly (cc)
two_fault (Some s) (Some t) f e = ((s, refl), (t, refl))

action_waits : (o : Option Ty) → given o waiting (λ s. ordered step.Drop) ≡ waiting → o ≡ None
action_waits None e = refl
action_waits (Some s) e = absurdly (cc)

branch_waits : (o : Option Ty) → given o waiting branch_ruling ≡ waiting → o ≡ None
branch_waits None e = refl
branch_waits (Some s) e = test_moves (is_boolean s.kind) step.Branch e

result_waits : {C : Type 0} (d : Declared) (s : Ty) (o : Option Signature) → given o faulty (λ g. cond (fits_to d.ancestry s g.result) (ordered step.Return) faulty) ≡ waiting → C
result_waits d s None e = absurdly (cc)
result_waits d s (Some g) e = test_moves (fits_to d.ancestry s g.result) step.Return e

return_waits : (d : Declared) (m : ℕ) (o : Option Ty) → given o waiting (return_ruling d m) ≡ waiting → o ≡ None
return_waits d m None e = refl
return_waits d m (Some s) e = result_waits d s (slice_get d.methods m) e

-- What a statement in order shows.

test_done : {z : Step} (b : Bool) (s : Step) → cond b (ordered s) faulty ≡ ordered z → b ≡ true
test_done true s e = refl
test_done false s e = absurdly (cc)

action_done : {z : Step} (o : Option Ty) → given o waiting (λ s. ordered step.Drop) ≡ ordered z → (s : Ty) × (o ≡ Some s)
action_done None e = absurdly (cc)
action_done (Some s) e = (s, refl)

is_boolean_lem : (j : Kind) → is_boolean j ≡ true → j ≡ Boolean
is_boolean_lem Boolean e = refl
is_boolean_lem Null e = absurdly (cc)
is_boolean_lem (Row l) e = absurdly (cc)
is_boolean_lem (Set l) e = absurdly (cc)

branch_done : {z : Step} (o : Option Ty) → given o waiting branch_ruling ≡ ordered z → (s : Ty) × (o ≡ Some s) × (s.kind ≡ Boolean)
branch_done None e = absurdly (cc)
branch_done (Some s) e = (s, refl, is_boolean_lem s.kind (test_done (is_boolean s.kind) step.Branch e))

result_done : {z : Step} (d : Declared) (s : Ty) (o : Option Signature) → given o faulty (λ g. cond (fits_to d.ancestry s g.result) (ordered step.Return) faulty) ≡ ordered z
    → (g : Signature) × (o ≡ Some g) × (fits_to d.ancestry s g.result ≡ true)
result_done d s None e = absurdly (cc)
result_done d s (Some g) e = (g, refl, test_done (fits_to d.ancestry s g.result) step.Return e)

return_done : {z : Step} (d : Declared) (m : ℕ) (o : Option Ty) → given o waiting (return_ruling d m) ≡ ordered z
    → (s : Ty) × (o ≡ Some s) × ((g : Signature) × (slice_get d.methods m ≡ Some g) × (fits_to d.ancestry s g.result ≡ true))
return_done d m None e = absurdly (cc)
return_done d m (Some s) e = (s, refl, result_done d s (slice_get d.methods m) e)

-- By shape.

module _ (text : List ℕ) (k : Contents) (d : Declared) (m : ℕ) (left right : Option Ty) where
  pub waits_for : (x : Shape) → of_shape text k d x m left right ≡ waiting → ((has_left x ≡ true) × (left ≡ None)) ⊎ ((has_right x ≡ true) × (right ≡ None))
  unfolding settles
  waits_for (shape.Variable p) e = not_waits (variable_ruling text k d m p) (variable_settles text k d m p) e
  waits_for shape.True e = absurdly (cc)
  waits_for shape.False e = absurdly (cc)
  waits_for shape.Null e = absurdly (cc)
  waits_for shape.This e = not_waits (this_ruling k m) (this_settles k m) e
  waits_for (shape.New p) e = not_waits (new_ruling text k p) (new_settles text k p) e
  waits_for (shape.Add p) e = elim (two_waits left right (add_ruling text k d p) (λ s t. add_settles text k d p s t) e) [ inl a ↦ inl (refl, a) | inr a ↦ inr (refl, a) ]
  waits_for (shape.Rem p) e = elim (two_waits left right (rem_ruling text k d p) (λ s t. rem_settles text k d p s t) e) [ inl a ↦ inl (refl, a) | inr a ↦ inr (refl, a) ]
  waits_for (shape.Member p) e = inl (refl, one_waits left (λ s. member_ruling text k d s p) (λ s. member_settles text k d s p) e)
  waits_for (shape.Call p) e = elim (two_waits left right (λ s t. call_ruling text k d s p t) (λ s t. call_settles text k d s p t) e) [ inl a ↦ inl (refl, a) | inr a ↦ inr (refl, a) ]
  waits_for (shape.Instances p) e = inl (refl, one_waits left (λ s. instances_ruling text k d s p) (λ s. instances_settles text k d s p) e)
  waits_for shape.From e = inl (refl, one_waits left (from_ruling d) (from_settles d) e)
  waits_for shape.To e = inl (refl, one_waits left (to_ruling d) (to_settles d) e)
  waits_for shape.Equal e = elim (two_waits left right compare_ruling compare_settles e) [ inl a ↦ inl (refl, a) | inr a ↦ inr (refl, a) ]
  waits_for (shape.SetVariable p) e = inr (refl, one_waits right (set_variable_ruling text k d m p) (set_variable_settles text k d m p) e)
  waits_for (shape.SetMember p) e = elim (two_waits left right (λ s t. set_member_ruling text k d s p t) (λ s t. set_member_settles text k d s p t) e) [ inl a ↦ inl (refl, a) | inr a ↦ inr (refl, a) ]
  waits_for shape.Action e = inl (refl, action_waits left e)
  waits_for shape.Branch e = inl (refl, branch_waits left e)
  waits_for shape.Return e = inl (refl, return_waits d m left e)

  fault_left : (x : Shape) → of_shape text k d x m left right ≡ faulty → has_left x ≡ true → (s : Ty) × (left ≡ Some s)
  fault_left (shape.Variable p) e h = absurdly (cc)
  fault_left shape.True e h = absurdly (cc)
  fault_left shape.False e h = absurdly (cc)
  fault_left shape.Null e h = absurdly (cc)
  fault_left shape.This e h = absurdly (cc)
  fault_left (shape.New p) e h = absurdly (cc)
  fault_left (shape.Add p) e h = (two_fault left right (add_ruling text k d p) e).0
  fault_left (shape.Rem p) e h = (two_fault left right (rem_ruling text k d p) e).0
  fault_left (shape.Member p) e h = one_fault left (λ s. member_ruling text k d s p) e
  fault_left (shape.Call p) e h = (two_fault left right (λ s t. call_ruling text k d s p t) e).0
  fault_left (shape.Instances p) e h = one_fault left (λ s. instances_ruling text k d s p) e
  fault_left shape.From e h = one_fault left (from_ruling d) e
  fault_left shape.To e h = one_fault left (to_ruling d) e
  fault_left shape.Equal e h = (two_fault left right compare_ruling e).0
  fault_left (shape.SetVariable p) e h = absurdly (cc)
  fault_left (shape.SetMember p) e h = (two_fault left right (λ s t. set_member_ruling text k d s p t) e).0
  fault_left shape.Action e h = one_fault left (λ s. ordered step.Drop) e
  fault_left shape.Branch e h = one_fault left branch_ruling e
  fault_left shape.Return e h = one_fault left (return_ruling d m) e

  fault_right : (x : Shape) → of_shape text k d x m left right ≡ faulty → has_right x ≡ true → (s : Ty) × (right ≡ Some s)
  fault_right (shape.Variable p) e h = absurdly (cc)
  fault_right shape.True e h = absurdly (cc)
  fault_right shape.False e h = absurdly (cc)
  fault_right shape.Null e h = absurdly (cc)
  fault_right shape.This e h = absurdly (cc)
  fault_right (shape.New p) e h = absurdly (cc)
  fault_right (shape.Add p) e h = (two_fault left right (add_ruling text k d p) e).1
  fault_right (shape.Rem p) e h = (two_fault left right (rem_ruling text k d p) e).1
  fault_right (shape.Member p) e h = absurdly (cc)
  fault_right (shape.Call p) e h = (two_fault left right (λ s t. call_ruling text k d s p t) e).1
  fault_right (shape.Instances p) e h = absurdly (cc)
  fault_right shape.From e h = absurdly (cc)
  fault_right shape.To e h = absurdly (cc)
  fault_right shape.Equal e h = (two_fault left right compare_ruling e).1
  fault_right (shape.SetVariable p) e h = one_fault right (set_variable_ruling text k d m p) e
  fault_right (shape.SetMember p) e h = (two_fault left right (λ s t. set_member_ruling text k d s p t) e).1
  fault_right shape.Action e h = absurdly (cc)
  fault_right shape.Branch e h = absurdly (cc)
  fault_right shape.Return e h = absurdly (cc)

module _ (text : List ℕ) (k : Contents) (d : Declared) (lines : AreLines d.ancestry) where
  -- a part with a type stands before its node, and has the type
  ready : (i : ℕ) (part : Option ℕ) (s : Ty) → i < length k.nodes → part_type (types_to text k d i) part ≡ Some s → (j : ℕ) × Before i part j × HasType text k d j s
  ready i None s h e = absurdly (cc)
  ready i (Some j) s h e =
      elim (cases_lt j i) [
        | inl c ↦ (j, record { is = refl; before = c }, sound text k d lines j s (omega arith) (sym (settled text k d i j c) ∙ e))
        | inr c ↦ let n = none_later text k d i j c in absurdly (cc)
      ]

  ordered_by : {z : Step} (i : ℕ) (v : Node) → i < length k.nodes → slice_get k.nodes i ≡ Some v → (x : Shape) → v.shape ≡ x
      → of_shape text k d x v.method (part_type (types_to text k d i) v.left) (part_type (types_to text k d i) v.right) ≡ ordered z → InOrder text k d i
  unfolding settles
  ordered_by i v h there (shape.Variable p) e q = not_done (variable_ruling text k d v.method p) (variable_settles text k d v.method p) q
  ordered_by i v h there shape.True e q = absurdly (cc)
  ordered_by i v h there shape.False e q = absurdly (cc)
  ordered_by i v h there shape.Null e q = absurdly (cc)
  ordered_by i v h there shape.This e q = not_done (this_ruling k v.method) (this_settles k v.method) q
  ordered_by i v h there (shape.New p) e q = not_done (new_ruling text k p) (new_settles text k p) q
  ordered_by i v h there (shape.Add p) e q = two_done (part_type (types_to text k d i) v.left) (part_type (types_to text k d i) v.right) (add_ruling text k d p) (λ s t. add_settles text k d p s t) q
  ordered_by i v h there (shape.Rem p) e q = two_done (part_type (types_to text k d i) v.left) (part_type (types_to text k d i) v.right) (rem_ruling text k d p) (λ s t. rem_settles text k d p s t) q
  ordered_by i v h there (shape.Member p) e q = one_done (part_type (types_to text k d i) v.left) (λ s. member_ruling text k d s p) (λ s. member_settles text k d s p) q
  ordered_by i v h there (shape.Call p) e q = two_done (part_type (types_to text k d i) v.left) (part_type (types_to text k d i) v.right) (λ s t. call_ruling text k d s p t) (λ s t. call_settles text k d s p t) q
  ordered_by i v h there (shape.Instances p) e q = one_done (part_type (types_to text k d i) v.left) (λ s. instances_ruling text k d s p) (λ s. instances_settles text k d s p) q
  ordered_by i v h there shape.From e q = one_done (part_type (types_to text k d i) v.left) (from_ruling d) (from_settles d) q
  ordered_by i v h there shape.To e q = one_done (part_type (types_to text k d i) v.left) (to_ruling d) (to_settles d) q
  ordered_by i v h there shape.Equal e q = two_done (part_type (types_to text k d i) v.left) (part_type (types_to text k d i) v.right) compare_ruling compare_settles q
  ordered_by i v h there (shape.SetVariable p) e q = one_done (part_type (types_to text k d i) v.right) (set_variable_ruling text k d v.method p) (set_variable_settles text k d v.method p) q
  ordered_by i v h there (shape.SetMember p) e q = two_done (part_type (types_to text k d i) v.left) (part_type (types_to text k d i) v.right) (λ s t. set_member_ruling text k d s p t) (λ s t. set_member_settles text k d s p t) q
  ordered_by i v h there shape.Action e q =
      let a = action_done (part_type (types_to text k d i) v.left) q in
      let b = ready i v.left a.0 h a.1 in
      action_ordered (record { there = there; shaped = e }) b.1 b.2
  ordered_by i v h there shape.Branch e q =
      let a = branch_done (part_type (types_to text k d i) v.left) q in
      let b = ready i v.left a.0 h a.1 in
      branch_ordered (record { there = there; shaped = e }) b.1 b.2 a.2
  ordered_by i v h there shape.Return e q =
      let a = return_done d v.method (part_type (types_to text k d i) v.left) q in
      let b = ready i v.left a.0 h a.1 in
      return_ordered (record { there = there; shaped = e }) b.1 b.2 a.2.1 ((fits_decides lines a.0 a.2.0.result).0 a.2.2)

  -- what is judged of node i, and what it shows

  pub judged_node : (i : ℕ) (v : Node) → slice_get k.nodes i ≡ Some v
      → ruling_at text k d i ≡ of_shape text k d v.shape v.method (part_type (types_to text k d i) v.left) (part_type (types_to text k d i) v.right)
  judged_node i v there = judged text k d (record { there = there; shaped = refl })

  pub typed_has : (i : ℕ) (t : Ty) (s : Step) → i < length k.nodes → ruling_at text k d i ≡ ruled t s → HasType text k d i t
  unfolding type_at
  typed_has i t s h e = sound text k d lines i t h (ap type_of e)

  pub done_ordered : (i : ℕ) (v : Node) (s : Step) → i < length k.nodes → slice_get k.nodes i ≡ Some v → ruling_at text k d i ≡ ordered s → InOrder text k d i
  done_ordered i v s h there e = ordered_by i v h there v.shape refl (sym (judged_node i v there) ∙ e)

  fault_untyped : (i : ℕ) (t : Ty) → ruling_at text k d i ≡ faulty → HasType text k d i t → ⊥
  unfolding type_at
  fault_untyped i t e h =
      let a = complete text k d lines h in
      let b = ap type_of e in
      absurdly (cc)

  fault_unordered : (i : ℕ) → ruling_at text k d i ≡ faulty → InOrder text k d i → ⊥
  fault_unordered i e h =
      let a = complete_ordered text k d lines h in
      let b = a.1 in
      absurdly (cc)

  -- a ruling of fault is a fault
  pub at_fault : (i : ℕ) (v : Node) → i < length k.nodes → slice_get k.nodes i ≡ Some v → ruling_at text k d i ≡ faulty → AtFault text k d i v
  at_fault i v h there e =
      let j = sym (judged_node i v there) ∙ e in
      record {
        there = there;
        left = λ b.
            let a = fault_left text k d v.method (part_type (types_to text k d i) v.left) (part_type (types_to text k d i) v.right) v.shape j b in
            let r = ready i v.left a.0 h a.1 in
            record { node = r.0; stands = r.1; type = a.0; typed = r.2 };
        right = λ b.
            let a = fault_right text k d v.method (part_type (types_to text k d i) v.left) (part_type (types_to text k d i) v.right) v.shape j b in
            let r = ready i v.right a.0 h a.1 in
            record { node = r.0; stands = r.1; type = a.0; typed = r.2 };
        untyped = λ t x. fault_untyped i t e x;
        unordered = λ x. fault_unordered i e x;
      }

  there_below : (i : ℕ) (v : Node) → slice_get k.nodes i ≡ Some v → i < length k.nodes
  there_below i v e =
      elim (cases_lt i (length k.nodes)) [
        | inl h ↦ h
        | inr h ↦ let n = slice_get_past k.nodes i h in absurdly (cc)
      ]

  part_there : (i : ℕ) (part : Option ℕ) → Ready text k d i part → part_type (types_to text k d i) part ≡ None → ⊥
  part_there i part r e = let a = part_typed text k d r.stands (complete text k d lines r.typed) in absurdly (cc)

  -- a fault is ruled one
  fault_by : (i : ℕ) (v : Node) → AtFault text k d i v → (r : Ruled) → ruling_at text k d i ≡ r → r ≡ faulty
  fault_by i v a (Some (ruling.Typed t s)) e = absurd (a.untyped t (typed_has i t s (there_below i v a.there) e))
  fault_by i v a (Some (ruling.Done s)) e = absurd (a.unordered (done_ordered i v s (there_below i v a.there) a.there e))
  fault_by i v a (Some ruling.Waits) e =
      elim (waits_for text k d v.method (part_type (types_to text k d i) v.left) (part_type (types_to text k d i) v.right) v.shape (sym (judged_node i v a.there) ∙ e)) [
        | inl w ↦ absurd (part_there i v.left (a.left w.0) w.1)
        | inr w ↦ absurd (part_there i v.right (a.right w.0) w.1)
      ]
  fault_by i v a None e = refl

  pub fault_ruled : (i : ℕ) (v : Node) → AtFault text k d i v → ruling_at text k d i ≡ faulty
  fault_ruled i v a = fault_by i v a (ruling_at text k d i) refl

  -- the places

  place_of : (r : Ruled) (q p : ℕ) → fault_place r q ≡ Some p → (r ≡ faulty) × (q ≡ p)
  place_of (Some (ruling.Typed t s)) q p e = absurdly (cc)
  place_of (Some (ruling.Done s)) q p e = absurdly (cc)
  place_of (Some ruling.Waits) q p e = absurdly (cc)
  place_of None q p e = let z : q ≡ p = cc in (refl, z)

  node_is : (i : ℕ) (v : Node) → slice_get k.nodes i ≡ Some v → node_at k i ≡ v
  node_is i v e = ap (λ (o : Option Node). given o plain_node (λ x. x)) e

  pub untyped_fault : (i p : ℕ) → i < length k.nodes → untyped text k d i ≡ Some p → (v : Node) × AtFault text k d i v × (v.place ≡ p)
  unfolding untyped
  untyped_fault i p h e =
      let z = place_of (ruling_at text k d i) (node_at k i).place p e in
      let v = get_or k.nodes i plain_node in
      let there = slice_get-get_or k.nodes i plain_node h in
      (v, at_fault i v h there z.0, sym (ap (λ (x : Node). x.place) (node_is i v there)) ∙ z.1)

  pub fault_untyped_at : (i : ℕ) (v : Node) → AtFault text k d i v → untyped text k d i ≡ Some v.place
  unfolding untyped
  fault_untyped_at i v a =
      ap (λ (r : Ruled). fault_place r (node_at k i).place) (fault_ruled i v a) ∙ ap (λ (x : Node). Some x.place) (node_is i v a.there)

  -- the least place of the nodes that are judged to be at fault is the least of those at fault
  pub first_fault : (n : ℕ) (r : Option ℕ) → n ≤ length k.nodes → r ≡ least_below (untyped text k d) n → FirstFault text k d n r
  first_fault n None h e =
      record {
        none = λ i v b a.
            let x = least_none (untyped text k d) n (sym e) i b in
            let y = fault_untyped_at i v a in
            absurdly (cc);
      }
  first_fault n (Some p) h e =
      let a = least_among (untyped text k d) n p (sym e) in
      let b : a.0 < length k.nodes = omega (arith, a.1) in
      let f = untyped_fault a.0 p b a.2 in
      record {
        node = a.0;
        entry = f.0;
        among = a.1;
        fault = f.1;
        place = f.2;
        least = λ i v c x. least_lowest (untyped text k d) n p (sym e) i v.place c (fault_untyped_at i v x);
      }
