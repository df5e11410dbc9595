-- The set of what was told, cell by cell, and what the rows of a relationship from a cell tell.
use Rattle.std.proofs.Common.{◌≡◌, ℕ, ◌≤◌, Bool, true, false, cond, ◌&&◌, ◌||◌, eqb, ltb, List, [], ◌∷◌, is_some, Some, None, Option, sym, refl, ap, ◌∙◌, ap₂, inl, inr, arith}
use Rattle.std.proofs.Math.Bool.{and_assoc, or-false}
use Rattle.std.proofs.lemmas.Bool.{and_parts, and_from, cases_lt, eqb-true, eq-eqb, or_cases, or_left, or_right, both_ways}
use Rattle.std.proofs.lemmas.Bool.Decides.{nat_tests}
use Rattle.std.specs.Bool.{then_some}
use Rattle.std.specs.List.{fold, list_any, filter_map, cons_option}
use Rattle.cells.specs.Members.{has, Words, gathered, none}
use Rattle.cells.specs.declared.CellSet.{CellSet}
use Rattle.cells.proofs.Laws.{is_gathered, has_gathered, words_gathered, has_past, has_none, words_none}
use Rattle.pairs.specs.declared.row.Row.{Row}
use Rattle.pairs.specs.Rows.{leads, in_force, apart, all_small}
use Rattle.pairs.specs.Gathering.{to_from, instance_from, Gathered}
use Rattle.pairs.specs.Changes.{ToCells, Instances}
use Rattle.pairs.proofs.Rows.{joins, place_of, apart_parts, alike_parts}
use Rattle.pairs.proofs.Found.{found_small}

-- a set and one cell more, as a function
pub put_in : CellSet → ℕ → CellSet
put_in s c = gathered (λ d. has s d || (eqb c d && ltb d 128))

pub is_put_in : (s r : CellSet) (c : ℕ) → ((d : ℕ) → has r d ≡ (has s d || (eqb c d && ltb d 128))) → Words r → r ≡ put_in s c
unfolding put_in
is_put_in s r c members words = is_gathered r (λ d. has s d || (eqb c d && ltb d 128)) words (λ d l. members d)

has_put_in : (s : CellSet) (c d : ℕ) → has (put_in s c) d ≡ (has s d || (eqb c d && ltb d 128))
unfolding put_in
has_put_in s c d = elim (cases_lt d 128) [
  | inl l ↦ has_gathered (λ k. has s k || (eqb c k && ltb k 128)) d l
  | inr l ↦ has_past (gathered (λ k. has s k || (eqb c k && ltb k 128))) d l ∙ past (has s d) (eqb c d) (has_past s d l) l
]
  where
    past : (a b : Bool) → a ≡ false → 128 ≤ d → false ≡ (a || (b && ltb d 128))
    past a b h l = grind (arith, nat_tests)

has_folded : (told : List ℕ) (s : CellSet) (d : ℕ) → has (fold put_in s told) d ≡ (has s d || (list_any (λ c. eqb c d) told && ltb d 128))
has_folded [] s d = sym (or-false (has s d))
has_folded (c ∷ told) s d =
    has_folded told (put_in s c) d
    ∙ ap (λ x. x || (list_any (λ k. eqb k d) told && ltb d 128)) (has_put_in s c d)
    ∙ regroup (has s d) (eqb c d) (list_any (λ k. eqb k d) told) (ltb d 128)
  where
    regroup : (a b x n : Bool) → ((a || (b && n)) || (x && n)) ≡ (a || ((b || x) && n))
    regroup true b x n = refl
    regroup false true x true = refl
    regroup false true true false = refl
    regroup false true false false = refl
    regroup false false x n = refl

words_folded : (told : List ℕ) (s : CellSet) → Words s → Words (fold put_in s told)
unfolding put_in
words_folded [] s h = h
words_folded (c ∷ told) s h = words_folded told (put_in s c) (words_gathered _)

pub gathered_folded : (told : List ℕ) → Gathered told (fold put_in none told)
gathered_folded told =
    record {
      members = λ d. has_folded told none d ∙ ap (λ x. x || (list_any (λ c. eqb c d) told && ltb d 128)) (has_none d);
      words = words_folded told none words_none;
    }

-- ---- what the rows tell, by the instances in force

-- whether d was told
abbrev among : ℕ → List ℕ → Bool
among d told = list_any (λ c. eqb c d) told

told_more : (b : Bool) (c : ℕ) (told : List ℕ) (d : ℕ) → among d (cons_option (then_some b c) told) ≡ ((b && eqb c d) || among d told)
told_more true c told d = refl
told_more false c told d = refl

told_to : (r f : ℕ) (rows : List Row) (d : ℕ) → among d (filter_map (to_from r f) rows) ≡ is_some (in_force rows r f d)
unfolding in_force
told_to r f [] d = refl
told_to r f (a ∷ rows) d =
    told_more (leads a r f) a.to (filter_map (to_from r f) rows) d
    ∙ ap₂ (λ x y. x || y) (and_assoc (eqb a.relationship r) (eqb a.from f) (eqb a.to d)) (told_to r f rows d)
    ∙ split (joins a r f d) a.instance (in_force rows r f d)
  where
    split : (b : Bool) (i : ℕ) (o : Option ℕ) → (b || is_some o) ≡ is_some (cond b (Some i) o)
    split true i o = refl
    split false i o = refl

pub to_cells_gathered : (r f : ℕ) (rows : List Row) (s : CellSet) → all_small rows ≡ true → Gathered (filter_map (to_from r f) rows) s → ToCells rows r f s
to_cells_gathered r f rows s h p =
    record {
      members = λ d. p.members d ∙ ap (λ x. x && ltb d 128) (told_to r f rows d) ∙ small (in_force rows r f d) d (λ i e. (found_small rows r f d i h e).to);
      words = p.words;
    }
  where
    small : (o : Option ℕ) (d : ℕ) → ((i : ℕ) → o ≡ Some i → d ≤ 127) → (is_some o && ltb d 128) ≡ is_some o
    small None d k = refl
    small (Some i) d k = let l = k i refl in grind (arith, nat_tests)

told_goes : (r f : ℕ) (rows : List Row) (t i : ℕ) → in_force rows r f t ≡ Some i → among i (filter_map (instance_from r f) rows) ≡ true
unfolding in_force
told_goes r f [] t i h = let z : ◌≡◌ {A = ℕ} 0 1 = cc in absurd (omega arith)
told_goes r f (a ∷ rows) t i h =
    told_more (leads a r f) a.instance (filter_map (instance_from r f) rows) i
    ∙ go (told_goes r f rows t i) (joins a r f t) refl h
  where
    go : (in_force rows r f t ≡ Some i → among i (filter_map (instance_from r f) rows) ≡ true) → (b : Bool) → joins a r f t ≡ b → cond b (Some a.instance) (in_force rows r f t) ≡ Some i
        → ((leads a r f && eqb a.instance i) || among i (filter_map (instance_from r f) rows)) ≡ true
    go more true e k =
        let same : a.instance ≡ i = cc in
        let p = alike_parts a.relationship a.from a.to r f t e in
        or_left (leads a r f && eqb a.instance i) _
        (and_from _ _ (and_from _ _ (eq-eqb a.relationship r p.0) (eq-eqb a.from f p.1)) (eq-eqb a.instance i same))
    go more false e k = or_right _ (among i (filter_map (instance_from r f) rows)) (more k)

told_comes : (r f : ℕ) (rows : List Row) → apart rows ≡ true → (i : ℕ) → among i (filter_map (instance_from r f) rows) ≡ true → (t : ℕ) × (in_force rows r f t ≡ Some i)
unfolding in_force
told_comes r f [] h i k = absurd (both_ways false refl k)
told_comes r f (a ∷ rows) h i k =
    let p = apart_parts a rows h in
    elim (or_cases (leads a r f && eqb a.instance i) (among i (filter_map (instance_from r f) rows)) (sym (told_more (leads a r f) a.instance (filter_map (instance_from r f) rows) i) ∙ k)) [
      | inl e ↦
          let q = and_parts (leads a r f) (eqb a.instance i) e in
          let l = and_parts (eqb a.relationship r) (eqb a.from f) q.0 in
          (a.to, here (joins a r f a.to) (and_from _ _ l.0 (and_from _ _ l.1 (eq-eqb a.to a.to refl))) (in_force rows r f a.to) (eqb-true a.instance i q.1))
      | inr e ↦ let more = told_comes r f rows p.1 i e in (more.0, past more.0 more.1 p.0 (joins a r f more.0) refl)
    ]
  where
    here : (b : Bool) → b ≡ true → (o : Option ℕ) → a.instance ≡ i → cond b (Some a.instance) o ≡ Some i
    here true e o q = ap Some q
    here false e o q = absurd (both_ways false refl e)

    past : (t : ℕ) → in_force rows r f t ≡ Some i → place_of rows a ≡ None → (b : Bool) → joins a r f t ≡ b → cond b (Some a.instance) (in_force rows r f t) ≡ Some i
    past t m gone true e =
        let p = alike_parts a.relationship a.from a.to r f t e in
        let x = p.0 in
        let y = p.1 in
        let w = p.2 in
        let z : ◌≡◌ {A = ℕ} 0 1 = cc in absurd (omega arith)
    past t m gone false e = m

pub instances_gathered : (r f : ℕ) (rows : List Row) (s : CellSet) → apart rows ≡ true → all_small rows ≡ true → Gathered (filter_map (instance_from r f) rows) s → Instances rows r f s
instances_gathered r f rows s h k p =
    record {
      goes = λ t i e. p.members i ∙ and_from _ _ (told_goes r f rows t i e) (small i (found_small rows r f t i k e).instance);
      comes = λ i e. told_comes r f rows h i (and_parts _ (ltb i 128) (sym (p.members i) ∙ e)).0;
      words = p.words;
    }
  where
    small : (i : ℕ) → i ≤ 127 → ltb i 128 ≡ true
    small i l = grind (arith, nat_tests)
