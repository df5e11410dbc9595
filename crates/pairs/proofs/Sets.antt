-- The sets that a table's questions answer are those of the look-up alone: two tables with the same look-up give the same sets.
use Rattle.std.proofs.Common.{◌≡◌, ℕ, ◌<◌, true, false, List, is_some, Some, None, Decides, Option, refl, ap, arith}
use Rattle.std.proofs.lemmas.Bool.{both_ways, eqb-true, eq-eqb}
use Rattle.std.proofs.lemmas.Bool.Decides.{same_from_decides, Decides-below_or}
use Rattle.cells.specs.Members.{has}
use Rattle.cells.specs.declared.CellSet.{CellSet}
use Rattle.cells.proofs.Laws.{is_gathered}
use Rattle.pairs.specs.declared.row.Row.{Row}
use Rattle.pairs.specs.Rows.{in_force, all_small}
use Rattle.pairs.specs.Changes.{ToCells, Instances}
use Rattle.pairs.specs.Sets.{to_set, answers, answered, instance_set}
use Rattle.pairs.proofs.Found.{found_small}

pub to_set_lem : (rows : List Row) (r f : ℕ) (s : CellSet) → ToCells rows r f s → s ≡ to_set (in_force rows r f)
unfolding to_set
to_set_lem rows r f s c = is_gathered s (λ t. is_some (in_force rows r f t)) c.words (λ d l. c.members d)

decides_answers : (o : Option ℕ) (i : ℕ) → Decides (answers o i) (o ≡ Some i)
decides_answers None i = (λ h. absurd (both_ways false refl h), λ h. let z : ◌≡◌ {A = ℕ} 0 1 = cc in absurd (omega arith))
decides_answers (Some j) i = (λ h. ap Some (eqb-true j i h), λ h. let e : j ≡ i = cc in eq-eqb j i e)

decides_answered : (look : ℕ → Option ℕ) (i : ℕ) → Decides (answered look i 128) ((t : ℕ) × (t < 128) × (look t ≡ Some i))
unfolding answered
decides_answered look i = Decides-below_or (λ t. answers (look t) i) (λ t. look t ≡ Some i) (λ n. answered look i n) (λ t. decides_answers (look t) i) refl (λ n. refl) 128

pub instance_set_lem : (rows : List Row) (r f : ℕ) (s : CellSet) → all_small rows ≡ true → Instances rows r f s → s ≡ instance_set (in_force rows r f)
unfolding instance_set
instance_set_lem rows r f s h c =
    is_gathered s (λ i. answered (in_force rows r f) i 128) c.words (λ d l. same_from_decides (has s d) (answered (in_force rows r f) d 128) (told d) (decides_answered (in_force rows r f) d))
  where
    told : (d : ℕ) → Decides (has s d) ((t : ℕ) × (t < 128) × (in_force rows r f t ≡ Some d))
    told d = (
      λ k. let x = c.comes d k in let fit = found_small rows r f x.0 d h x.1 in (x.0, omega arith, x.1),
      λ x. c.goes x.0 d x.2,
    )

-- equal look-ups give equal sets
pub to_set_same : (f g : ℕ → Option ℕ) → ((t : ℕ) → f t ≡ g t) → to_set f ≡ to_set g
to_set_same f g h = ap to_set (λ i t. h t i)

pub instance_set_same : (f g : ℕ → Option ℕ) → ((t : ℕ) → f t ≡ g t) → instance_set f ≡ instance_set g
instance_set_same f g h = ap instance_set (λ i t. h t i)
