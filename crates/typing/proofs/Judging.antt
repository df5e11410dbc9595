-- One turn of the pass over the nodes.
use Rattle.std.proofs.Common.{◌≡◌, ℕ, zero, suc, ◌+◌, ◌<◌, ◌≤◌, false, ◌&&◌, eqb, ltb, ◌≢◌, List, length, get_or, set, take, None, Option, sym, refl, ap, ◌∙◌, inl, inr, add-one, arith, get_or-set_other, get_or-set_same, Some}
use Rattle.std.specs.List.{slice_get}
use Rattle.std.proofs.lemmas.List.{get_or-take, length-take}
use Rattle.std.proofs.lemmas.Option.{slice_get-get_or}
use Rattle.tables.specs.Items.{given}
use Rattle.std.proofs.lemmas.Bool.{cases_eq, cases_lt, lt-ltb, le-ltb, cond-true, cond-false, eq-eqb, ne_eqb, and_from}
use Rattle.values.specs.declared.types.Ty.{Ty}
use Rattle.outline.specs.declared.entry.Shape.TheVariants as shape
use Rattle.outline.specs.declared.entry.Node.{Node}
use Rattle.outline.specs.Contents.{Contents}
use Rattle.declarations.specs.Resolved.{Declared}
use Rattle.typing.specs.declared.step.Instruction.{Instruction}
use Rattle.typing.specs.Coding.{decoded}
use Rattle.typing.specs.Typing.{Ruled, ruling_of}
use Rattle.typing.specs.Passing.{plain_node, node_at, type_of, part_type, kept_in, types_to, ruling_at, fault_place, untyped, instruction_for, instruction_at, part_in}

-- what stands where a list of nodes has none
abbrev pub no_node : Node
no_node = record { shape = shape.Variable 0; method = 0; place = 0; left = None; right = None }

module _ (text : List ℕ) (k : Contents) (d : Declared) where
  -- the nodes from n on have no types yet
  pub none_later : (n j : ℕ) → n ≤ j → types_to text k d n j ≡ None
  unfolding types_to
  none_later zero j h = refl
  none_later (suc n) j h =
      let ne : j ≢ n = omega arith in
      cond-false (eqb j n) _ _ (ne_eqb j n ne) ∙ none_later n j (omega arith)

  pub type_here : (n : ℕ) → types_to text k d (n + 1) n ≡ type_of (ruling_at text k d n)
  unfolding types_to ruling_at
  type_here n = rw add-one (cond-true (eqb n n) _ _ (eq-eqb n n refl))

  pub type_kept : (n j : ℕ) → j ≢ n → types_to text k d (n + 1) j ≡ types_to text k d n j
  unfolding types_to
  type_kept n j ne = rw add-one (cond-false (eqb j n) _ _ (ne_eqb j n ne))

  -- the node of a turn
  pub node_here : (xs : List Node) (n i : ℕ) (v : Node) → xs ≡ k.nodes → i < length (take n xs) → get_or (take n xs) i v ≡ node_at k i
  node_here xs n i v e h =
      let a : i < n = omega (arith, length-take n xs) in
      let b : i < length xs = omega (arith, length-take n xs) in
      get_or-take n xs i v a
      ∙ sym (ap (λ (o : Option Node). given o plain_node (λ x. x)) (slice_get-get_or xs i v b))
      ∙ ap (λ (ys : List Node). given (slice_get ys i) plain_node (λ x. x)) e

  -- the scratch has the types of the first n nodes
  pub record Keeps (scratch : List ℕ) (n : ℕ) : Type 0 where
    pub types : (j : ℕ) → j < n → decoded (get_or scratch j 0) ≡ types_to text k d n j

  pub keeps_none : (scratch : List ℕ) → Keeps scratch 0
  keeps_none scratch = record { types = λ j h. absurd (omega arith) }

  kept_is : (scratch : List ℕ) (i j : ℕ) → Keeps scratch i → i ≤ length scratch → kept_in scratch i j ≡ types_to text k d i j
  kept_is scratch i j inv h =
      elim (cases_lt j i) [
        | inl b ↦
            let c : j < length scratch = omega arith in
            cond-true (ltb j i && ltb j (length scratch)) _ _ (and_from _ _ (lt-ltb _ _ b) (lt-ltb _ _ c)) ∙ inv.types j b
        | inr b ↦ let e : ltb j i ≡ false = le-ltb _ _ b in simp e (sym (none_later i j b))
      ]

  pub part_is : (scratch : List ℕ) (i : ℕ) (part : Option ℕ) → Keeps scratch i → i ≤ length scratch → part_in scratch i part ≡ part_type (types_to text k d i) part
  part_is scratch i None inv h = refl
  part_is scratch i (Some j) inv h = kept_is scratch i j inv h

  pub ruling_is : (i : ℕ) (v : Node) (left right : Option Ty) (r : Ruled) → v ≡ node_at k i → left ≡ part_type (types_to text k d i) v.left → right ≡ part_type (types_to text k d i) v.right
      → r ≡ ruling_of text k d v left right → r ≡ ruling_at text k d i
  unfolding ruling_at
  ruling_is i v left right r e p q f =
      f
      ∙ (λ z. ruling_of text k d v (p z) (q z))
      ∙ ap (λ (x : Node). ruling_of text k d x (part_type (types_to text k d i) x.left) (part_type (types_to text k d i) x.right)) e

  pub place_is : (i : ℕ) (v : Node) (r : Ruled) (p : Option ℕ) → v ≡ node_at k i → r ≡ ruling_at text k d i → p ≡ fault_place r v.place → p ≡ untyped text k d i
  unfolding untyped
  place_is i v r p a b e = e ∙ (λ z. fault_place (b z) (a z).place)

  pub instruction_is : (i : ℕ) (v : Node) (r : Ruled) (x : Instruction) → v ≡ node_at k i → r ≡ ruling_at text k d i → x ≡ instruction_for r v → x ≡ instruction_at text k d i
  unfolding instruction_at
  instruction_is i v r x a b e = e ∙ (λ z. instruction_for (b z) (a z))

  pub keeps_more : (scratch : List ℕ) (i x : ℕ) (r : Ruled) (t : Option Ty) → Keeps scratch i → i < length scratch → r ≡ ruling_at text k d i → t ≡ type_of r → decoded x ≡ t
      → Keeps (set scratch i x) (i + 1)
  keeps_more scratch i x r t inv h e f g =
      record {
        types = λ j b.
            elim (cases_eq j i) [
              | inl z ↦ rw z (ap decoded (get_or-set_same scratch i x 0 h) ∙ g ∙ f ∙ ap type_of e ∙ sym (type_here i))
              | inr ne ↦
                  let c : j < i = omega arith in
                  ap decoded (get_or-set_other scratch i j x 0 ne) ∙ inv.types j c ∙ sym (type_kept i j ne)
            ];
      }
