-- A line grows by the parents of its declared rows, and a table of ends by the ends of the declared relationships.
use Rattle.std.proofs.Common.{◌≡◌, ℕ, ◌+◌, ◌-◌, ◌<◌, ◌≤◌, Bool, true, false, cond, ◌&&◌, eqb, leb, List, [], ◌∷◌, ◌++◌, length, get_or, Some, None, Ok, Err, Option, Result, sym, refl, ap, ◌∙◌, add-one, arith, eqb-true, leb-true, MatchResult}
use Rattle.std.proofs.lemmas.Bool.{cond-false}
use Rattle.descent.specs.declared.line.RowRefusal.{RowRefusal}
use Rattle.descent.specs.Rows.{Added, NotAdded, no_parent, full}
use Rattle.values.specs.declared.types.Lineage.{Lineage}
use Rattle.values.specs.declared.types.Lineage.TheVariants.{Class}
use Rattle.values.specs.declared.types.CellRow.{CellRow}
use Rattle.values.specs.Fits.{same_lineage}
use Rattle.outline.specs.declared.entry.Row.{Row}
use Rattle.outline.specs.Contents.{Contents}
use Rattle.std.specs.List.{slice_get}
use Rattle.std.specs.Option.{unwrap_or}
use Rattle.std.proofs.lemmas.Option.{slice_get-get_or}
use Rattle.tables.specs.declared.table.Table.{Table}
use Rattle.tables.specs.Below.{tabulated}
use Rattle.tables.specs.Listed.{listed, pushed}
use Rattle.tables.proofs.Laws.{length-tabulated, listed_room}
use Rattle.tables.specs.Items.{given}
use Rattle.declarations.specs.Rows.{row, rows_of, row_named}
use Rattle.declarations.specs.Resolved.{earlier, parent_or_root, row_or, ends_are, ends_of}
use Rattle.declarations.specs.declared.declarations.Ends.{Ends}

-- what stands for a parent is no later row
low : (b t : Bool) (n i : ℕ) → leb n i ≡ t → given (cond (b && t) (Some n) None) 0 (λ p. p) ≤ i
low false t n i e = omega arith
low true false n i e = omega arith
low true true n i e = leb-true n i e

low_row : (l : Lineage) (i : ℕ) (o : Option CellRow) → given (given o None (earlier l i)) 0 (λ p. p) ≤ i
low_row l i None = omega arith
low_row l i (Some r) = low (same_lineage l r.lineage) (leb r.number i) r.number i refl

low_entry : (text : List ℕ) (k : Contents) (l : Lineage) (i : ℕ) (o : Option Row)
    → given (given o None (λ r. given (row_named text k r.parent) None (earlier l i))) 0 (λ p. p) ≤ i
low_entry text k l i None = omega arith
low_entry text k l i (Some r) = low_row l i (row_named text k r.parent)

pub parent_low : (text : List ℕ) (k : Contents) (l : Lineage) (i : ℕ) → parent_or_root text k l i ≤ i
parent_low text k l i = low_entry text k l i (slice_get (rows_of k l) i)

more : (f : ℕ → ℕ) (i : ℕ) → (0 ∷ tabulated f i) ++ f i ∷ [] ≡ 0 ∷ tabulated f (i + 1)
unfolding tabulated
more f i = rw add-one

pub grows : (o : Result ℕ RowRefusal) (before after : List ℕ) (f : ℕ → ℕ) (i p : ℕ) → before ≡ 0 ∷ tabulated f i → p ≡ f i → p ≤ i → i < 31
    → MatchResult o (Added before p after) (NotAdded before p after) → after ≡ 0 ∷ tabulated f (i + 1)
grows (Ok r) before after f i p e q h k a = a.grown ∙ (λ j. e j ++ q j ∷ []) ∙ more f i
grows (Err x) before after f i p e q h k (no_parent a s) = absurd (omega (arith, a, ap length e, length-tabulated f i))
grows (Err x) before after f i p e q h k (full a b s) = absurd (omega (arith, b, ap length e, length-tabulated f i))

or_nought : (o : Option ℕ) → unwrap_or o 0 ≡ given o 0 (λ p. p)
or_nought None = refl
or_nought (Some p) = refl

-- the item of a turn of a loop over a table's rows
row_at : (xs rows : List Row) (i : ℕ) (d : Row) → xs ≡ rows → i < length xs → Some (get_or xs i d) ≡ slice_get rows i
row_at xs rows i d e h = sym (slice_get-get_or xs i d h) ∙ ap (λ (zs : List Row). slice_get zs i) e

pub parent_next : (text : List ℕ) (k : Contents) (l : Lineage) (xs : List Row) (i : ℕ) (d : Row) (o : Option ℕ) (p : ℕ) → xs ≡ rows_of k l → i < length xs
    → o ≡ given (row_named text k (get_or xs i d).parent) None (earlier l i) → p ≡ unwrap_or o 0 → p ≡ parent_or_root text k l i
parent_next text k l xs i d o p e h f g =
    g ∙ or_nought o ∙ ap (λ q. given q 0 (λ n. n)) (f ∙ ap (λ q. given q None (λ r. given (row_named text k r.parent) None (earlier l i))) (row_at xs (rows_of k l) i d e h))

later : (b : Bool) (n : ℕ) → eqb (n + 1) 0 ≡ b → b ≡ false
later true n e = absurd (omega (arith, eqb-true (n + 1) 0 e))
later false n e = refl

pub ends_next : (text : List ℕ) (k : Contents) (xs : List Row) (i : ℕ) (d : Row) (x : Ends) → xs ≡ k.relationships → i < length xs
    → x ≡ ends_are (row_or text k (get_or xs i d).first) (row_or text k (get_or xs i d).second) → x ≡ ends_of text k (i + 1)
ends_next text k xs i d x e h f =
    let m : i ≡ i + 1 - 1 = omega arith in
    f
    ∙ ap (λ q. given q (ends_are (row Class 0) (row Class 0)) (λ r. ends_are (row_or text k r.first) (row_or text k r.second)))
    (row_at xs k.relationships i d e h ∙ ap (slice_get k.relationships) m)
    ∙ sym (cond-false (eqb (i + 1) 0) _ _ (later _ i refl))

-- one item more in a table with room for it
pub tabulated_more : {T : Type 0} {N : ℕ} (f : ℕ → T) (n : ℕ) (before after : Table T N) (x : T) → listed before ≡ tabulated f n → x ≡ f n → n < N → after ≡ pushed before x
    → listed after ≡ tabulated f (n + 1)
unfolding tabulated
tabulated_more f n before after x p q h r =
    let room : length (listed before) < _ = omega (arith, h, ap length p, length-tabulated f n) in
    rw add-one (ap listed r ∙ listed_room before x room ∙ (λ j. p j ++ q j ∷ []))
