-- A node that is given a type has it.
use Rattle.std.proofs.Common.{◌≡◌, ℕ, zero, suc, ◌<◌, Bool, true, false, cond, ◌&&◌, List, length, get_or, Some, None, Option, sym, refl, ap, ◌∙◌, inl, inr, arith}
use Rattle.std.specs.List.{slice_get}
use Rattle.std.proofs.lemmas.Option.{slice_get-get_or}
use Rattle.std.proofs.lemmas.Bool.{cases_lt, and_parts}
use Rattle.values.specs.declared.types.Lineage.TheVariants.{Class, Relationship}
use Rattle.values.specs.declared.types.Kind.{Kind}
use Rattle.values.specs.declared.types.Kind.TheVariants.{Boolean, Null, Row, Set}
use Rattle.values.specs.declared.types.Ty.{Ty}
use Rattle.values.specs.Fits.{AreLines, Fits, fits_to}
use Rattle.values.proofs.Fitting.{fits_decides}
use Rattle.outline.specs.declared.entry.Shape.{Shape}
use Rattle.outline.specs.declared.entry.Shape.TheVariants as shape
use Rattle.outline.specs.declared.entry.Node.{Node}
use Rattle.outline.specs.Contents.{Contents}
use Rattle.declarations.specs.declared.declarations.Ends.{Ends}
use Rattle.declarations.specs.declared.declarations.Signature.{Signature}
use Rattle.declarations.specs.Resolved.{Declared}
use Rattle.tables.specs.Items.{given}
use Rattle.typing.specs.declared.step.Step.{Step}
use Rattle.typing.specs.declared.step.Step.TheVariants as step
use Rattle.typing.specs.HasType.{Is, Before, EndsOf, Relates, Comparable, as_null, as_row, HasType, true_typed, false_typed, null_typed, this_typed, variable_typed, new_typed, partners_typed, field_typed, instances_typed, from_typed, to_typed, equal_typed, set_variable_typed, set_field_typed, add_typed, rem_typed, call_typed}
use Rattle.typing.specs.Lookup.{row_of_kind, as_relationship, relationship_of, relationship_named}
use Rattle.typing.specs.Typing.{Ruled, ordered, waiting, faulty, type_of_row, comparable, is_boolean, branch_ruling, return_ruling, pair_named, field_ruling, partners_ruling, set_field_ruling, of_shape}
use Rattle.typing.specs.Passing.{plain_node, type_of, part_type, types_to, type_at}
use Rattle.typing.proofs.Complete.{judged, settled}
use Rattle.typing.proofs.Judging.{none_later}
use Rattle.typing.proofs.Upwards.{field_up, method_up}

clash : {X C : Type 0} {x : X} → None ≡ Some x → C
clash p = let z : ◌≡◌ {A = ℕ} 0 1 = cc in absurd (omega arith)

same : {X : Type 0} {x y : X} → Some x ≡ Some y → x ≡ y
same p = cc

-- a type that comes out shows what was found on the way

pub got : {X : Type 0} (o : Option X) (y : Ruled) (f : X → Ruled) (t : Ty) → type_of y ≡ None → type_of (given o y f) ≡ Some t → (x : X) × (o ≡ Some x) × (type_of (f x) ≡ Some t)
got None y f t n e = clash (sym n ∙ e)
got (Some x) y f t n e = (x, refl, e)

pub passed : (b : Bool) (y : Ruled) (t : Ty) → type_of (cond b y faulty) ≡ Some t → (b ≡ true) × (type_of y ≡ Some t)
passed true y t e = (refl, e)
passed false y t e = clash e

-- a statement has no type

never_test : {C : Type 0} {t : Ty} (b : Bool) (s : Step) → type_of (cond b (ordered s) faulty) ≡ Some t → C
never_test true s q = clash q
never_test false s q = clash q

never_action : {C : Type 0} {t : Ty} (o : Option Ty) → type_of (given o waiting (λ s. ordered step.Drop)) ≡ Some t → C
never_action None q = clash q
never_action (Some s) q = clash q

never_branch : {C : Type 0} {t : Ty} (o : Option Ty) → type_of (given o waiting branch_ruling) ≡ Some t → C
never_branch None q = clash q
never_branch (Some s) q = never_test (is_boolean s.kind) step.Branch q

never_result : {C : Type 0} {t : Ty} (d : Declared) (s : Ty) (o : Option Signature) → type_of (given o faulty (λ g. cond (fits_to d.ancestry s g.result) (ordered step.Return) faulty)) ≡ Some t → C
never_result d s None q = clash q
never_result d s (Some g) q = never_test (fits_to d.ancestry s g.result) step.Return q

never_return : {C : Type 0} {t : Ty} (d : Declared) (m : ℕ) (o : Option Ty) → type_of (given o waiting (return_ruling d m)) ≡ Some t → C
never_return d m None q = clash q
never_return d m (Some s) q = never_result d s (slice_get d.methods m) q

comparable_from : (t : Ty) → comparable t.kind ≡ true → Comparable t
comparable_from t e = go t.kind refl e
  where
    go : (j : Kind) → t.kind ≡ j → comparable j ≡ true → Comparable t
    go Boolean p q = let z : ◌≡◌ {A = ℕ} 0 1 = cc in absurd (omega arith)
    go Null p q = as_null p
    go (Row l) p q = as_row p
    go (Set l) p q = let z : ◌≡◌ {A = ℕ} 0 1 = cc in absurd (omega arith)

relationship_from : (t : Ty) (r : ℕ) → relationship_of t ≡ Some r → (t.kind ≡ Row Relationship) × (t.row ≡ r)
relationship_from t r e = go t.kind refl e
  where
    go : (j : Kind) → t.kind ≡ j → given (row_of_kind j t.row) None (λ r. as_relationship r.lineage r.number) ≡ Some r → (t.kind ≡ Row Relationship) × (t.row ≡ r)
    go Boolean p q = clash q
    go Null p q = clash q
    go (Row Class) p q = clash q
    go (Row Relationship) p q = (p, same q)
    go (Set l) p q = clash q

ends_from : (d : Declared) (t : Ty) (r : ℕ) (e : Ends) → relationship_of t ≡ Some r → slice_get d.ends r ≡ Some e → EndsOf d t e
ends_from d t r e p q = let z = relationship_from t r p in record { row = z.0; ends = ap (slice_get d.ends) z.1 ∙ q }

-- the relationship that is named, with what fits its ends

record Paired (text : List ℕ) (k : Contents) (d : Declared) (p : ℕ) (s t : Ty) (r : ℕ) : Type 0 where
  ends : Ends
  relates : Relates text k d p r ends
  first : fits_to d.ancestry s (type_of_row ends.first) ≡ true
  second : fits_to d.ancestry t (type_of_row ends.second) ≡ true

paired : (text : List ℕ) (k : Contents) (d : Declared) (p : ℕ) (s t : Ty) (r : ℕ) → pair_named text k d p s t ≡ Some r → Paired text k d p s t r
paired text k d p s t r q = go (relationship_named text k p) refl q
  where
    last : (n : ℕ) (e : Ends) (b : Bool) → relationship_named text k p ≡ Some n → slice_get d.ends n ≡ Some e
        → (fits_to d.ancestry s (type_of_row e.first) && fits_to d.ancestry t (type_of_row e.second)) ≡ b → cond b (Some n) None ≡ Some r → Paired text k d p s t r
    last n e true a b f q =
        let z = and_parts _ _ f in
        let m : n ≡ r = same q in
        record { ends = e; relates = record { named = a ∙ q; ends = ap (slice_get d.ends) (sym m) ∙ b }; first = z.0; second = z.1 }
    last n e false a b f q = clash q

    at : (n : ℕ) (o : Option Ends) → relationship_named text k p ≡ Some n → slice_get d.ends n ≡ o
        → given o None (λ e. cond (fits_to d.ancestry s (type_of_row e.first) && fits_to d.ancestry t (type_of_row e.second)) (Some n) None) ≡ Some r → Paired text k d p s t r
    at n None a b q = clash q
    at n (Some e) a b q = last n e (fits_to d.ancestry s (type_of_row e.first) && fits_to d.ancestry t (type_of_row e.second)) a b refl q

    go : (o : Option ℕ) → relationship_named text k p ≡ o
        → given o None (λ n. given (slice_get d.ends n) None (λ e. cond (fits_to d.ancestry s (type_of_row e.first) && fits_to d.ancestry t (type_of_row e.second)) (Some n) None)) ≡ Some r → Paired text k d p s t r
    go None a q = clash q
    go (Some n) a q = at n (slice_get d.ends n) a refl q

module _ (text : List ℕ) (k : Contents) (d : Declared) (lines : AreLines d.ancestry) where
  fits_from : (s t : Ty) → fits_to d.ancestry s t ≡ true → Fits d.ancestry s t
  fits_from s t e = (fits_decides lines s t).0 e

  retype : {i : ℕ} {s t : Ty} → HasType text k d i s → Some s ≡ Some t → HasType text k d i t
  retype h e = rw (same e) at h

  -- a part stands before its node and has its type
  record Part (i : ℕ) (part : Option ℕ) (s : Ty) : Type 0 where
    node : ℕ
    stands : Before i part node
    typed : HasType text k d node s

  -- what the parts of node i are known to have
  record Parts (i : ℕ) : Type 0 where
    part : (o : Option ℕ) (s : Ty) → part_type (types_to text k d i) o ≡ Some s → Part i o s

  sound_member : {i p : ℕ} {v : Node} {s t : Ty} → Is k i (shape.Member p) v → Part i v.left s → (o : Option ℕ) → relationship_named text k p ≡ o
      → type_of (given o (field_ruling text k d s p) (partners_ruling d s)) ≡ Some t → HasType text k d i t
  sound_member {p = p} {s = s} {t = t} is part None e q =
      let a = got _ faulty _ t refl q in
      let b = got _ faulty _ t refl a.2 in
      field_typed is part.stands part.typed e (field_up text k d lines p s a.0 a.1) (b.1 ∙ b.2)
  sound_member {p = p} {s = s} {t = t} is part (Some r) e q =
      let a = got _ faulty _ t refl q in
      let b = passed _ _ t a.2 in
      retype (partners_typed is part.stands part.typed (record { named = e; ends = a.1 }) (fits_from s _ b.0)) b.1

  sound_set_member : {i p : ℕ} {v : Node} {s u t : Ty} → Is k i (shape.SetMember p) v → Part i v.left s → Part i v.right u → (o : Option ℕ)
      → relationship_named text k p ≡ o → type_of (given o (set_field_ruling text k d s p u) (λ r. faulty)) ≡ Some t → HasType text k d i t
  sound_set_member {p = p} {s = s} {u = u} {t = t} is left right None e q =
      let a = got _ faulty _ t refl q in
      let b = got _ faulty _ t refl a.2 in
      let c = passed _ _ t b.2 in
      retype
      (set_field_typed is left.stands left.typed right.stands right.typed e (field_up text k d lines p s a.0 a.1) b.1 (fits_from u b.0 c.0))
      c.1
  sound_set_member is left right (Some r) e q = clash q

  by_shape : (i : ℕ) (v : Node) (t : Ty) → Parts i → slice_get k.nodes i ≡ Some v → (x : Shape) → v.shape ≡ x
      → type_of (of_shape text k d x v.method (part_type (types_to text k d i) v.left) (part_type (types_to text k d i) v.right)) ≡ Some t → HasType text k d i t
  by_shape i v t parts there (shape.Variable p) e q =
      let a = got _ faulty _ t refl q in
      let b = got _ faulty _ t refl a.2 in
      variable_typed (record { there = there; shaped = e }) a.1 (b.1 ∙ b.2)
  by_shape i v t parts there shape.True e q = retype (true_typed (record { there = there; shaped = e })) q
  by_shape i v t parts there shape.False e q = retype (false_typed (record { there = there; shaped = e })) q
  by_shape i v t parts there shape.Null e q = retype (null_typed (record { there = there; shaped = e })) q
  by_shape i v t parts there shape.This e q =
      let a = got _ faulty _ t refl q in
      retype (this_typed (record { there = there; shaped = e }) a.1) a.2
  by_shape i v t parts there (shape.New p) e q =
      let a = got _ faulty _ t refl q in
      retype (new_typed (record { there = there; shaped = e }) a.1) a.2
  by_shape i v t parts there (shape.Add p) e q =
      let a = got _ waiting _ t refl q in
      let b = got _ waiting _ t refl a.2 in
      let c = got _ faulty _ t refl b.2 in
      let l = parts.part v.left a.0 a.1 in
      let r = parts.part v.right b.0 b.1 in
      let f = paired text k d p a.0 b.0 c.0 c.1 in
      retype
      (add_typed (record { there = there; shaped = e }) l.stands l.typed r.stands r.typed f.relates (fits_from a.0 _ f.first) (fits_from b.0 _ f.second))
      c.2
  by_shape i v t parts there (shape.Rem p) e q =
      let a = got _ waiting _ t refl q in
      let b = got _ waiting _ t refl a.2 in
      let c = got _ faulty _ t refl b.2 in
      let l = parts.part v.left a.0 a.1 in
      let r = parts.part v.right b.0 b.1 in
      let f = paired text k d p a.0 b.0 c.0 c.1 in
      retype
      (rem_typed (record { there = there; shaped = e }) l.stands l.typed r.stands r.typed f.relates (fits_from a.0 _ f.first) (fits_from b.0 _ f.second))
      c.2
  by_shape i v t parts there (shape.Member p) e q =
      let a = got _ waiting _ t refl q in
      sound_member (record { there = there; shaped = e }) (parts.part v.left a.0 a.1) (relationship_named text k p) refl a.2
  by_shape i v t parts there (shape.Call p) e q =
      let a = got _ waiting _ t refl q in
      let b = got _ waiting _ t refl a.2 in
      let c = got _ faulty _ t refl b.2 in
      let g = got _ faulty _ t refl c.2 in
      let f = passed _ _ t g.2 in
      let l = parts.part v.left a.0 a.1 in
      let r = parts.part v.right b.0 b.1 in
      retype
      (call_typed (record { there = there; shaped = e }) l.stands l.typed r.stands r.typed (method_up text k d lines p a.0 c.0 c.1) g.1 (fits_from b.0 _ f.0))
      f.1
  by_shape i v t parts there (shape.Instances p) e q =
      let a = got _ waiting _ t refl q in
      let b = got _ faulty _ t refl a.2 in
      let c = got _ faulty _ t refl b.2 in
      let f = passed _ _ t c.2 in
      let l = parts.part v.left a.0 a.1 in
      retype
      (instances_typed (record { there = there; shaped = e }) l.stands l.typed (record { named = b.1; ends = c.1 }) (fits_from a.0 _ f.0))
      f.1
  by_shape i v t parts there shape.From e q =
      let a = got _ waiting _ t refl q in
      let b = got _ faulty _ t refl a.2 in
      let c = got _ faulty _ t refl b.2 in
      let l = parts.part v.left a.0 a.1 in
      retype (from_typed (record { there = there; shaped = e }) l.stands l.typed (ends_from d a.0 b.0 c.0 b.1 c.1)) c.2
  by_shape i v t parts there shape.To e q =
      let a = got _ waiting _ t refl q in
      let b = got _ faulty _ t refl a.2 in
      let c = got _ faulty _ t refl b.2 in
      let l = parts.part v.left a.0 a.1 in
      retype (to_typed (record { there = there; shaped = e }) l.stands l.typed (ends_from d a.0 b.0 c.0 b.1 c.1)) c.2
  by_shape i v t parts there shape.Equal e q =
      let a = got _ waiting _ t refl q in
      let b = got _ waiting _ t refl a.2 in
      let f = passed _ _ t b.2 in
      let g = and_parts _ _ f.0 in
      let l = parts.part v.left a.0 a.1 in
      let r = parts.part v.right b.0 b.1 in
      retype
      (equal_typed (record { there = there; shaped = e }) l.stands l.typed r.stands r.typed (comparable_from a.0 g.0) (comparable_from b.0 g.1))
      f.1
  by_shape i v t parts there (shape.SetVariable p) e q =
      let a = got _ waiting _ t refl q in
      let b = got _ faulty _ t refl a.2 in
      let c = got _ faulty _ t refl b.2 in
      let f = passed _ _ t c.2 in
      let r = parts.part v.right a.0 a.1 in
      retype (set_variable_typed (record { there = there; shaped = e }) r.stands r.typed b.1 c.1 (fits_from a.0 c.0 f.0)) f.1
  by_shape i v t parts there (shape.SetMember p) e q =
      let a = got _ waiting _ t refl q in
      let b = got _ waiting _ t refl a.2 in
      sound_set_member (record { there = there; shaped = e }) (parts.part v.left a.0 a.1) (parts.part v.right b.0 b.1) (relationship_named text k p) refl b.2
  by_shape i v t parts there shape.Action e q = never_action (part_type (types_to text k d i) v.left) q
  by_shape i v t parts there shape.Branch e q = never_branch (part_type (types_to text k d i) v.left) q
  by_shape i v t parts there shape.Return e q = never_return d v.method (part_type (types_to text k d i) v.left) q

  there_at : (i : ℕ) → i < length k.nodes → slice_get k.nodes i ≡ Some (get_or k.nodes i plain_node)
  there_at i h = slice_get-get_or k.nodes i plain_node h

  node_judged : (i : ℕ) (t : Ty) → i < length k.nodes → type_at text k d i ≡ Some t
      → type_of (of_shape text k d (get_or k.nodes i plain_node).shape (get_or k.nodes i plain_node).method (part_type (types_to text k d i) (get_or k.nodes i plain_node).left) (part_type (types_to text k d i) (get_or k.nodes i plain_node).right)) ≡ Some t
  unfolding type_at
  node_judged i t h q = sym (ap type_of (judged text k d (record { there = there_at i h; shaped = refl }))) ∙ q

  pub sound_to : (n i : ℕ) (t : Ty) → i < n → i < length k.nodes → type_at text k d i ≡ Some t → HasType text k d i t
  sound_to zero i t b h q = absurd (omega arith)
  sound_to (suc n) i t b h q =
      by_shape i (get_or k.nodes i plain_node) t (record { part = part (λ j s c e. sound_to n j s (omega arith) (omega arith) e) }) (there_at i h) (get_or k.nodes i plain_node).shape refl (node_judged i t h q)
    where
      part : ((j : ℕ) (s : Ty) → j < i → type_at text k d j ≡ Some s → HasType text k d j s) → (o : Option ℕ) (s : Ty) → part_type (types_to text k d i) o ≡ Some s → Part i o s
      part earlier None s e = clash e
      part earlier (Some j) s e =
          elim (cases_lt j i) [
            | inl c ↦
                record {
                  node = j;
                  stands = record { is = refl; before = c };
                  typed = earlier j s c (sym (settled text k d i j c) ∙ e);
                }
            | inr c ↦ clash (sym (none_later text k d i j c) ∙ e)
          ]

  pub sound : (i : ℕ) (t : Ty) → i < length k.nodes → type_at text k d i ≡ Some t → HasType text k d i t
  sound i t h q = sound_to (suc i) i t (omega arith) h q
