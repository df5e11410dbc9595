-- A table's rows with one more, and with one less, and what a table keeps true of them.
use Rattle.std.proofs.Common.{◌≡◌, ℕ, ◌+◌, true, cond, List, [], ◌∷◌, ◌++◌, length, Some, None, sym, ap, ◌∙◌, subst, arith}
use Rattle.std.proofs.lemmas.List.{append-nil}
use Rattle.std.proofs.lemmas.Bool.{and_parts, and_from}
use Rattle.pairs.specs.declared.row.Row.{Row}
use Rattle.pairs.specs.Rows.{in_force, apart, small, all_small, Small}
use Rattle.pairs.specs.Changes.{Added, Dropped}
use Rattle.pairs.proofs.Rows.{joins, alike_same, place_of, in_force_more, in_force_less, apart_more, apart_less, all_small_more, length_more, row_small}

-- one more, with what a table keeps true
pub record Grown (before : List Row) (row : Row) (after : List Row) : Type 0 where
  pub added : Added before row after
  pub differ : apart after ≡ true
  pub little : all_small after ≡ true

pub record Gone (before : List Row) (row : Row) (after : List Row) : Type 0 where
  pub rest : (r f t : ℕ) → in_force after r f t ≡ cond (joins row r f t) None (in_force before r f t)
  pub count : length after + 1 ≡ length before
  pub differ : apart after ≡ true
  pub little : all_small after ≡ true

pub grown : (us vs : List Row) (row : Row) → place_of (us ++ vs) row ≡ None → apart (us ++ vs) ≡ true → all_small (us ++ vs) ≡ true → Small row
    → Grown (us ++ vs) row (us ++ row ∷ vs)
grown us vs row absent h k s =
    record {
      added = record { found = in_force_more us vs row absent; count = length_more us vs row };
      differ = apart_more us vs row absent h;
      little = all_small_more us vs row ∙ and_from (small row) _ (row_small row s) k;
    }

pub grown_push : (rows : List Row) (row : Row) → place_of rows row ≡ None → apart rows ≡ true → all_small rows ≡ true → Small row → Grown rows row (rows ++ row ∷ [])
grown_push rows row absent h k s =
    let e : rows ++ [] ≡ rows = append-nil rows in
    subst (λ x. Grown x row (rows ++ row ∷ [])) e
    (grown rows [] row (ap (λ x. place_of x row) e ∙ absent) (ap apart e ∙ h) (ap all_small e ∙ k) s)

pub gone : (us vs : List Row) (row : Row) → apart (us ++ row ∷ vs) ≡ true → all_small (us ++ row ∷ vs) ≡ true → Gone (us ++ row ∷ vs) row (us ++ vs)
gone us vs row h k =
    record {
      rest = in_force_less us vs row h;
      count = sym (length_more us vs row);
      differ = (apart_less us vs row h).1;
      little = (and_parts (small row) _ (sym (all_small_more us vs row) ∙ k)).1;
    }

-- the answer of a drop, where the row that joins was taken out
pub dropped : (before after : List Row) (row : Row) (r f t : ℕ) → Gone before row after → joins row r f t ≡ true → in_force before r f t ≡ Some row.instance
    → Dropped before r f t (Some row.instance) after
dropped before after row r f t g e i =
    record {
      told = sym i;
      rest = λ x y z. g.rest x y z ∙ ap (λ b. cond b None (in_force before x y z)) (alike_same row.relationship row.from row.to r f t x y z e);
      count = g.count;
      same = λ no_row. let z : ◌≡◌ {A = ℕ} 0 1 = cc in absurd (omega arith);
    }
