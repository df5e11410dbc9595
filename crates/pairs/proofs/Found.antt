-- A row that was put in is in force.
use Rattle.std.proofs.Common.{◌≡◌, ℕ, ◌<◌, Bool, true, false, cond, List, [], ◌∷◌, length, Some, None, Ok, Err, Result, refl, ap, ◌∙◌, inl, inr, arith}
use Rattle.std.proofs.lemmas.Bool.{leb-true, and_parts}
use Rattle.pairs.specs.declared.row.Row.{Row}
use Rattle.pairs.specs.declared.row.PutRefusal.{PutRefusal}
use Rattle.pairs.specs.declared.row.PutRefusal.TheVariants.{BadRelationship, BadCell, Present, Full}
use Rattle.pairs.specs.Rows.{in_force, small, all_small, Small}
use Rattle.pairs.specs.Changes.{Put, Added}
use Rattle.pairs.proofs.Rows.{joins, place_of, alike_self, alike_parts, small_row}

pub added_found : (before after : List Row) (row : Row) → Added before row after → place_of after row ≡ Some row.instance
added_found before after row a =
    a.found row.relationship row.from row.to
    ∙ ap (λ b. cond b (Some row.instance) (place_of before row)) (alike_self row.relationship row.from row.to)

pub put_found : (limit : ℕ) (before : List Row) (row : Row) (said : Result (Unit {0}) PutRefusal) (after : List Row) → Put limit before row said after
    → Small row → place_of before row ≡ None → length before < limit → place_of after row ≡ Some row.instance
put_found limit before row (Ok u) after p s absent room = added_found before after row p.left
put_found limit before row (Err BadRelationship) after p s absent room = let high = p.judged in absurd (omega arith)
put_found limit before row (Err BadCell) after p s absent room =
    elim p.judged.1 [ inl h ↦ absurd (omega arith) | inr h ↦ elim h [ inl k ↦ absurd (omega arith) | inr k ↦ absurd (omega arith) ] ]
put_found limit before row (Err (Present i)) after p s absent room =
    let there = p.judged.1 in
    let z : ◌≡◌ {A = ℕ} 0 1 = cc in absurd (omega arith)
put_found limit before row (Err Full) after p s absent room = absurd (omega (arith, leb-true limit (length before) p.judged.2))

-- what is in force has a small relationship, small cells and a small instance
pub found_small : (rows : List Row) (r f t i : ℕ) → all_small rows ≡ true → in_force rows r f t ≡ Some i → Small (record { relationship = r; from = f; to = t; instance = i })
unfolding all_small in_force
found_small [] r f t i h k = let z : ◌≡◌ {A = ℕ} 0 1 = cc in absurd (omega arith)
found_small (row ∷ rows) r f t i h k = go (joins row r f t) refl (found_small rows r f t i (and_parts (small row) (all_small rows) h).1) k
  where
    go : (b : Bool) → joins row r f t ≡ b → (in_force rows r f t ≡ Some i → Small (record { relationship = r; from = f; to = t; instance = i }))
        → cond b (Some row.instance) (in_force rows r f t) ≡ Some i → Small (record { relationship = r; from = f; to = t; instance = i })
    go true e more k =
        let same : row.instance ≡ i = cc in
        let p = alike_parts row.relationship row.from row.to r f t e in
        let a = p.0 in
        let b = p.1 in
        let c = p.2 in
        let s = small_row row (and_parts (small row) (all_small rows) h).0 in
        record { relationship = omega arith; from = omega arith; to = omega arith; instance = omega arith }
    go false e more k = more k
