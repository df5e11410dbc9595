-- The answer of a check is the first fault.
use Rattle.std.proofs.Common.{◌≡◌, ℕ, ◌<◌, ◌≤◌, min, Bool, true, false, not, ◌⊎◌, List, length, Some, None, Ok, Err, Option, Result, sym, refl, subst, inl, inr, le_refl, arith}
use Rattle.std.specs.Result.{result_err}
use Rattle.std.proofs.lemmas.Bool.{both_ways, cases_lt}
use Rattle.values.specs.declared.types.Lineage.TheVariants.{Class, Relationship}
use Rattle.outline.specs.Contents.{Contents}
use Rattle.tables.specs.Below.{lesser, least_below}
use Rattle.tables.proofs.Found.{least_none, least_among, least_lowest}
use Rattle.declarations.specs.declared.refusal.Misdeclared.{Misdeclared}
use Rattle.declarations.specs.declared.refusal.Misdeclared.TheVariants as refusal
use Rattle.declarations.specs.Resolved.{Declared}
use Rattle.declarations.specs.Naming.{fault_if, name_taken_place, first_taken, parent_missing_place, end_missing_place, field_type_missing_place, result_type_missing_place, variable_type_missing_place, first_missing}
use Rattle.declarations.specs.Clashes.{field_clashes_place, method_twice_place, variable_twice_place, first_clash}
use Rattle.declarations.specs.Misfits.{first_end_misfit, first_override_misfit}
use Rattle.declarations.specs.Counts.{main_stands, main_missing_place, too_many_fields_place, first_too_many}
use Rattle.declarations.specs.Faults.{Fault, name_taken, parent_missing, end_missing, field_type_missing, result_type_missing, variable_type_missing, field_clashes, method_twice, variable_twice, end_misfit, override_misfit, main_missing, too_many_fields, Judged, number_of, place_of, refused_at, misdeclared_of}

-- there is a place, and it is at most q
abbrev Low : Option ℕ → ℕ → Type 0
Low None q = ⊥
Low (Some p) q = p ≤ q

-- the place, if there is one, is so
abbrev Holds : (ℕ → Type 0) → Option ℕ → Type 0
Holds P None = Unit {0}
Holds P (Some p) = P p

low_left : (a b : Option ℕ) (q : ℕ) → Low a q → Low (lesser a b) q
low_left None b q h = absurd h
low_left (Some x) None q h = h
low_left (Some x) (Some y) q h = omega arith

low_right : (a b : Option ℕ) (q : ℕ) → Low b q → Low (lesser a b) q
low_right None b q h = h
low_right (Some x) None q h = absurd h
low_right (Some x) (Some y) q h = omega arith

min_one : (x y : ℕ) → (min x y ≡ x) ⊎ (min x y ≡ y)
min_one x y = elim (cases_lt x y) [ inl h ↦ inl (omega arith) | inr h ↦ inr (omega arith) ]

holds_lesser : (P : ℕ → Type 0) (a b : Option ℕ) → Holds P a → Holds P b → Holds P (lesser a b)
holds_lesser P None b h k = k
holds_lesser P (Some x) None h k = h
holds_lesser P (Some x) (Some y) h k = elim (min_one x y) [ inl e ↦ subst P (sym e) h | inr e ↦ subst P (sym e) k ]

low_least : (f : ℕ → Option ℕ) (n i q : ℕ) → i < n → f i ≡ Some q → Low (least_below f n) q
low_least f n i q h e = go (least_below f n) refl where
  go : (o : Option ℕ) → least_below f n ≡ o → Low o q
  go None g = let z = least_none f n g i h in let w : ◌≡◌ {A = ℕ} 0 1 = cc in absurd (omega arith)
  go (Some p) g = least_lowest f n p g i q h e

holds_least : (P : ℕ → Type 0) (f : ℕ → Option ℕ) (n : ℕ) → ((i p : ℕ) → i < n → f i ≡ Some p → P p) → Holds P (least_below f n)
holds_least P f n k = go (least_below f n) refl where
  go : (o : Option ℕ) → least_below f n ≡ o → Holds P o
  go None g = tt
  go (Some p) g = let m = least_among f n p g in k m.0 p m.1 m.2

-- a refusal comes no later than a fault of number n at place q
abbrev Before : Option Misdeclared → ℕ → ℕ → Type 0
Before None n q = ⊥
Before (Some m) n q = (number_of m < n) ⊎ ((number_of m ≡ n) × (place_of m ≤ q))

here : (o : Option ℕ) (m : ℕ → Misdeclared) (rest : Option Misdeclared) (n q : ℕ) → ((p : ℕ) → number_of (m p) ≡ n) → ((p : ℕ) → place_of (m p) ≤ p) → Low o q
    → Before (refused_at o m rest) n q
here None m rest n q e g h = absurd h
here (Some p) m rest n q e g h = inr (e p, omega (arith, g p, h))

past : (o : Option ℕ) (m : ℕ → Misdeclared) (rest : Option Misdeclared) (n q : ℕ) → ((p : ℕ) → number_of (m p) < n) → Before rest n q
    → Before (refused_at o m rest) n q
past None m rest n q e h = h
past (Some p) m rest n q e h = inl (e p)

module _ (text : List ℕ) (k : Contents) (d : Declared) where
  -- a refusal is a fault
  abbrev Sound : Option Misdeclared → Type 0
  Sound None = Unit {0}
  Sound (Some m) = Fault text k d (number_of m) (place_of m)

  sound_step : (o : Option ℕ) (m : ℕ → Misdeclared) (rest : Option Misdeclared) → Holds (λ p. Fault text k d (number_of (m p)) (place_of (m p))) o → Sound rest
      → Sound (refused_at o m rest)
  sound_step None m rest h s = s
  sound_step (Some p) m rest h s = h

  -- the refusal, where the kinds before the numbered one are passed over
  abbrev from_27 : Option Misdeclared
  from_27 = refused_at (first_too_many k d.ancestry) refusal.TooManyFields None

  abbrev from_26 : Option Misdeclared
  from_26 = refused_at (main_missing_place text k d) (λ p. refusal.NoMain) from_27

  abbrev from_25 : Option Misdeclared
  from_25 = refused_at (first_override_misfit text k d) refusal.OverrideMisfit from_26

  abbrev from_24 : Option Misdeclared
  from_24 = refused_at (first_end_misfit k d) refusal.EndMisfit from_25

  abbrev from_23 : Option Misdeclared
  from_23 = refused_at (first_clash text k d.ancestry) refusal.Clash from_24

  abbrev from_22 : Option Misdeclared
  from_22 = refused_at (first_missing text k) refusal.NotDeclared from_23

  abbrev from_21 : Option Misdeclared
  from_21 = refused_at (first_taken text k) refusal.NameTaken from_22

  main_holds : (b : Bool) → main_stands text k d ≡ b → Holds (λ p. Fault text k d 26 0) (fault_if (not b) 0)
  main_holds true e = tt
  main_holds false e = main_missing e

  main_low : (b : Bool) → b ≡ false → Low (fault_if (not b) 0) 0
  main_low true e = absurd (both_ways true e refl)
  main_low false e = omega arith

  -- the places found are those of faults
  abbrev At : ℕ → ℕ → Type 0
  At n p = Fault text k d n p

  taken_holds : Holds (At 21) (first_taken text k)
  taken_holds =
      holds_lesser (At 21) _ _ (holds_least (At 21) _ _ (λ i p h e. name_taken Class h e)) (holds_least (At 21) _ _ (λ i p h e. name_taken Relationship h e))

  missing_holds : Holds (At 22) (first_missing text k)
  missing_holds =
      holds_lesser (At 22) _ _ (holds_least (At 22) _ _ (λ i p h e. parent_missing Class h e)) (holds_lesser (At 22) _ _ (holds_least (At 22) _ _ (λ i p h e. parent_missing Relationship h e)) (holds_lesser (At 22) _ _ (holds_least (At 22) _ _ (λ i p h e. end_missing h e)) (holds_lesser (At 22) _ _ (holds_least (At 22) _ _ (λ i p h e. field_type_missing h e)) (holds_lesser (At 22) _ _ (holds_least (At 22) _ _ (λ i p h e. result_type_missing h e)) (holds_least (At 22) _ _ (λ i p h e. variable_type_missing h e))))))

  clash_holds : Holds (At 23) (first_clash text k d.ancestry)
  clash_holds =
      holds_lesser (At 23) _ _ (holds_least (At 23) _ _ (λ i p h e. field_clashes h e)) (holds_lesser (At 23) _ _ (holds_least (At 23) _ _ (λ i p h e. method_twice h e)) (holds_least (At 23) _ _ (λ i p h e. variable_twice h e)))

  end_holds : Holds (At 24) (first_end_misfit k d)
  end_holds =
      holds_least (At 24) _ _ (λ i p h e. end_misfit h e)

  override_holds : Holds (At 25) (first_override_misfit text k d)
  override_holds =
      holds_least (At 25) _ _ (λ i p h e. override_misfit h e)

  many_holds : Holds (At 27) (first_too_many k d.ancestry)
  many_holds =
      holds_lesser (At 27) _ _ (holds_least (At 27) _ _ (λ i p h e. too_many_fields Class h e)) (holds_least (At 27) _ _ (λ i p h e. too_many_fields Relationship h e))

  sound : Sound (misdeclared_of text k d)
  unfolding misdeclared_of
  sound =
      sound_step (first_taken text k) refusal.NameTaken from_22 taken_holds
      (sound_step (first_missing text k) refusal.NotDeclared from_23 missing_holds
      (sound_step (first_clash text k d.ancestry) refusal.Clash from_24 clash_holds
      (sound_step (first_end_misfit k d) refusal.EndMisfit from_25 end_holds
      (sound_step (first_override_misfit text k d) refusal.OverrideMisfit from_26 override_holds
      (sound_step (main_missing_place text k d) (λ p. refusal.NoMain) from_27 (main_holds (main_stands text k d) refl)
      (sound_step (first_too_many k d.ancestry) refusal.TooManyFields None many_holds tt))))))

  after_21 : (n q : ℕ) → 21 < n → Before from_22 n q → Before (misdeclared_of text k d) n q
  unfolding misdeclared_of
  after_21 n q h b = past (first_taken text k) refusal.NameTaken from_22 n q (λ p. h) b

  after_22 : (n q : ℕ) → 22 < n → Before from_23 n q → Before (misdeclared_of text k d) n q
  after_22 n q h b = after_21 n q (omega arith) (past (first_missing text k) refusal.NotDeclared from_23 n q (λ p. h) b)

  after_23 : (n q : ℕ) → 23 < n → Before from_24 n q → Before (misdeclared_of text k d) n q
  after_23 n q h b = after_22 n q (omega arith) (past (first_clash text k d.ancestry) refusal.Clash from_24 n q (λ p. h) b)

  after_24 : (n q : ℕ) → 24 < n → Before from_25 n q → Before (misdeclared_of text k d) n q
  after_24 n q h b = after_23 n q (omega arith) (past (first_end_misfit k d) refusal.EndMisfit from_25 n q (λ p. h) b)

  after_25 : (n q : ℕ) → 25 < n → Before from_26 n q → Before (misdeclared_of text k d) n q
  after_25 n q h b = after_24 n q (omega arith) (past (first_override_misfit text k d) refusal.OverrideMisfit from_26 n q (λ p. h) b)

  after_26 : (n q : ℕ) → 26 < n → Before from_27 n q → Before (misdeclared_of text k d) n q
  after_26 n q h b = after_25 n q (omega arith) (past (main_missing_place text k d) (λ p. refusal.NoMain) from_27 n q (λ p. h) b)

  taken_first : (q : ℕ) → Low (first_taken text k) q → Before (misdeclared_of text k d) 21 q
  unfolding misdeclared_of
  taken_first q h = here (first_taken text k) refusal.NameTaken from_22 21 q (λ p. refl) (λ p. le_refl p) h

  missing_first : (q : ℕ) → Low (first_missing text k) q → Before (misdeclared_of text k d) 22 q
  missing_first q h = after_21 22 q (omega arith) (here (first_missing text k) refusal.NotDeclared from_23 22 q (λ p. refl) (λ p. le_refl p) h)

  clash_first : (q : ℕ) → Low (first_clash text k d.ancestry) q → Before (misdeclared_of text k d) 23 q
  clash_first q h = after_22 23 q (omega arith) (here (first_clash text k d.ancestry) refusal.Clash from_24 23 q (λ p. refl) (λ p. le_refl p) h)

  end_first : (q : ℕ) → Low (first_end_misfit k d) q → Before (misdeclared_of text k d) 24 q
  end_first q h = after_23 24 q (omega arith) (here (first_end_misfit k d) refusal.EndMisfit from_25 24 q (λ p. refl) (λ p. le_refl p) h)

  override_first : (q : ℕ) → Low (first_override_misfit text k d) q → Before (misdeclared_of text k d) 25 q
  override_first q h = after_24 25 q (omega arith) (here (first_override_misfit text k d) refusal.OverrideMisfit from_26 25 q (λ p. refl) (λ p. le_refl p) h)

  many_first : (q : ℕ) → Low (first_too_many k d.ancestry) q → Before (misdeclared_of text k d) 27 q
  many_first q h = after_26 27 q (omega arith) (here (first_too_many k d.ancestry) refusal.TooManyFields None 27 q (λ p. refl) (λ p. le_refl p) h)

  main_first : Low (main_missing_place text k d) 0 → Before (misdeclared_of text k d) 26 0
  main_first h = after_25 26 0 (omega arith) (here (main_missing_place text k d) (λ p. refusal.NoMain) from_27 26 0 (λ p. refl) (λ p. omega arith) h)

  -- the least place of each source, and of those after it
  abbrev least_name_taken_class : Option ℕ
  least_name_taken_class = least_below (name_taken_place text k Class) (length k.classes)

  abbrev least_name_taken_relationship : Option ℕ
  least_name_taken_relationship = least_below (name_taken_place text k Relationship) (length k.relationships)

  abbrev least_parent_missing_class : Option ℕ
  least_parent_missing_class = least_below (parent_missing_place text k Class) (length k.classes)

  abbrev least_parent_missing_relationship : Option ℕ
  least_parent_missing_relationship = least_below (parent_missing_place text k Relationship) (length k.relationships)

  abbrev least_end_missing : Option ℕ
  least_end_missing = least_below (end_missing_place text k) (length k.relationships)

  abbrev least_field_type_missing : Option ℕ
  least_field_type_missing = least_below (field_type_missing_place text k) (length k.fields)

  abbrev least_result_type_missing : Option ℕ
  least_result_type_missing = least_below (result_type_missing_place text k) (length k.methods)

  abbrev least_variable_type_missing : Option ℕ
  least_variable_type_missing = least_below (variable_type_missing_place text k) (length k.variables)

  abbrev missing_after_4 : Option ℕ
  missing_after_4 = lesser least_result_type_missing least_variable_type_missing

  abbrev missing_after_3 : Option ℕ
  missing_after_3 = lesser least_field_type_missing missing_after_4

  abbrev missing_after_2 : Option ℕ
  missing_after_2 = lesser least_end_missing missing_after_3

  abbrev missing_after_1 : Option ℕ
  missing_after_1 = lesser least_parent_missing_relationship missing_after_2

  abbrev least_field_clashes : Option ℕ
  least_field_clashes = least_below (field_clashes_place text k d.ancestry) (length k.fields)

  abbrev least_method_twice : Option ℕ
  least_method_twice = least_below (method_twice_place text k) (length k.methods)

  abbrev least_variable_twice : Option ℕ
  least_variable_twice = least_below (variable_twice_place text k) (length k.variables)

  abbrev clash_after_1 : Option ℕ
  clash_after_1 = lesser least_method_twice least_variable_twice

  abbrev least_too_many_fields_class : Option ℕ
  least_too_many_fields_class = least_below (too_many_fields_place k d.ancestry Class) (length k.classes)

  abbrev least_too_many_fields_relationship : Option ℕ
  least_too_many_fields_relationship = least_below (too_many_fields_place k d.ancestry Relationship) (length k.relationships)

  before : (n q : ℕ) → Fault text k d n q → Before (misdeclared_of text k d) n q
  before n q (name_taken Class h e) = taken_first q (low_left least_name_taken_class least_name_taken_relationship q (low_least _ _ _ q h e))
  before n q (name_taken Relationship h e) = taken_first q (low_right least_name_taken_class least_name_taken_relationship q (low_least _ _ _ q h e))
  before n q (parent_missing Class h e) = missing_first q (low_left least_parent_missing_class missing_after_1 q (low_least _ _ _ q h e))
  before n q (parent_missing Relationship h e) = missing_first q (low_right least_parent_missing_class missing_after_1 q (low_left least_parent_missing_relationship missing_after_2 q (low_least _ _ _ q h e)))
  before n q (end_missing h e) = missing_first q (low_right least_parent_missing_class missing_after_1 q (low_right least_parent_missing_relationship missing_after_2 q (low_left least_end_missing missing_after_3 q (low_least _ _ _ q h e))))
  before n q (field_type_missing h e) = missing_first q (low_right least_parent_missing_class missing_after_1 q (low_right least_parent_missing_relationship missing_after_2 q (low_right least_end_missing missing_after_3 q (low_left least_field_type_missing missing_after_4 q (low_least _ _ _ q h e)))))
  before n q (result_type_missing h e) = missing_first q (low_right least_parent_missing_class missing_after_1 q (low_right least_parent_missing_relationship missing_after_2 q (low_right least_end_missing missing_after_3 q (low_right least_field_type_missing missing_after_4 q (low_left least_result_type_missing least_variable_type_missing q (low_least _ _ _ q h e))))))
  before n q (variable_type_missing h e) = missing_first q (low_right least_parent_missing_class missing_after_1 q (low_right least_parent_missing_relationship missing_after_2 q (low_right least_end_missing missing_after_3 q (low_right least_field_type_missing missing_after_4 q (low_right least_result_type_missing least_variable_type_missing q (low_least _ _ _ q h e))))))
  before n q (field_clashes h e) = clash_first q (low_left least_field_clashes clash_after_1 q (low_least _ _ _ q h e))
  before n q (method_twice h e) = clash_first q (low_right least_field_clashes clash_after_1 q (low_left least_method_twice least_variable_twice q (low_least _ _ _ q h e)))
  before n q (variable_twice h e) = clash_first q (low_right least_field_clashes clash_after_1 q (low_right least_method_twice least_variable_twice q (low_least _ _ _ q h e)))
  before n q (end_misfit h e) = end_first q (low_least _ _ _ q h e)
  before n q (override_misfit h e) = override_first q (low_least _ _ _ q h e)
  before n q (main_missing e) = main_first (main_low (main_stands text k d) e)
  before n q (too_many_fields Class h e) = many_first q (low_left least_too_many_fields_class least_too_many_fields_relationship q (low_least _ _ _ q h e))
  before n q (too_many_fields Relationship h e) = many_first q (low_right least_too_many_fields_class least_too_many_fields_relationship q (low_least _ _ _ q h e))

  judge : (r : Result (Unit {0}) Misdeclared) → Sound (result_err r) → ((n q : ℕ) → Fault text k d n q → Before (result_err r) n q) → Judged text k d r
  judge (Ok u) s b = record { none = b }
  judge (Err m) s b = record { fault = s; first = b }

  pub judged : (r : Result (Unit {0}) Misdeclared) → result_err r ≡ misdeclared_of text k d → Judged text k d r
  judged r e = judge r (subst Sound (sym e) sound) (λ n q h. subst (λ o. Before o n q) (sym e) (before n q h))
