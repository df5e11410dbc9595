-- Rows in 512 places, each found by going on from a place that its three numbers give.
use Rattle.std.specs.Prelude.{◌≡◌, ℕ, ◌+◌, ◌*◌, ◌%◌, ◌<◌, Bool, true, false, cond, List, [], ◌∷◌, length, Some, None, Option, slice_index_or}
use Rattle.pairs.specs.declared.row.Row.{Row}
use Rattle.probe_table.specs.declared.place.Place.{Place}
use Rattle.probe_table.specs.declared.place.Place.TheVariants.{Free, Dropped, Held}
use Rattle.pairs.specs.Rows.{alike, in_force}

-- the rows, place after place
unfoldable pub held : List Place → List Row
held [] = []
held (Free ∷ places) = held places
held (Dropped ∷ places) = held places
held (Held row ∷ places) = row ∷ held places

abbrev pub is_free : Place → Bool
is_free Free = true
is_free Dropped = false
is_free (Held row) = false

-- how many places are not free
unfoldable pub used : List Place → ℕ
used [] = 0
used (place ∷ places) = used places + cond (is_free place) 0 1

abbrev pub is_held : Place → Bool
is_held Free = false
is_held Dropped = false
is_held (Held row) = true

-- whether a place holds the row of a relationship and two cells
abbrev pub holds : Place → ℕ → ℕ → ℕ → Bool
holds Free r f t = false
holds Dropped r f t = false
holds (Held row) r f t = alike row.relationship row.from row.to r f t

-- the row that a place holds
abbrev pub row_in : Place → Option Row
row_in Free = None
row_in Dropped = None
row_in (Held row) = Some row

-- whether a search for the row of a relationship and two cells ends at a place: it holds that row, or is free
abbrev pub ends : ℕ → ℕ → ℕ → Place → Bool
ends r f t Free = true
ends r f t Dropped = false
ends r f t (Held row) = alike row.relationship row.from row.to r f t

abbrev pub place_at : List Place → ℕ → Place
place_at places p = slice_index_or places p Free

-- the place where the search for a relationship and two cells starts
unfoldable pub start : ℕ → ℕ → ℕ → ℕ
start r f t = (r * 29 + f * 67 + t * 131) % 512

-- the place that is k further on; after the last comes the first
unfoldable pub along : ℕ → ℕ → ℕ → ℕ → ℕ
unfolding start
along r f t k = (start r f t + k) % 512

-- two steps of the search for a relationship and two cells
pub record Way : Type 0 where
  pub relationship : ℕ
  pub from : ℕ
  pub to : ℕ
  pub step : ℕ
  pub earlier : ℕ
  pub few : step < 512
  pub passed : earlier < step

-- every row is reached: no place between where its search starts and its own is free
abbrev pub Reached : List Place → Type 0
Reached places =
    (w : Way) → holds (place_at places (along w.relationship w.from w.to w.step)) w.relationship w.from w.to ≡ true
    → is_free (place_at places (along w.relationship w.from w.to w.earlier)) ≡ false

-- the first place on the way of a relationship and two cells that passes a test
pub record FirstAt (test : Place → Bool) (places : List Place) (r f t p : ℕ) : Type 0 where
  pub steps : ℕ
  pub few : steps < 512
  pub here : p ≡ along r f t steps
  pub passes : test (place_at places p) ≡ true
  pub before : (i : ℕ) → i < steps → test (place_at places (along r f t i)) ≡ false

-- that place, and what it is
abbrev pub First : (Place → Bool) → List Place → ℕ → ℕ → ℕ → Option (ℕ × Place) → Type 0
First test places r f t None = (i : ℕ) → i < 512 → test (place_at places (along r f t i)) ≡ false
First test places r f t (Some x) = FirstAt test places r f t x.0 × (x.1 ≡ place_at places x.0)

-- the place, and the instance, of the row of a relationship and two cells
abbrev pub Located : List Place → ℕ → ℕ → ℕ → Option (ℕ × ℕ) → Type 0
Located places r f t None = in_force (held places) r f t ≡ None
Located places r f t (Some x) = (x.0 < 512) × (place_at places x.0 ≡ Held (record { relationship = r; from = f; to = t; instance = x.1 }))

-- the first place for one more row of that relationship and those cells
pub record Open (places : List Place) (r f t p : ℕ) : Type 0 where
  pub steps : ℕ
  pub few : steps < 512
  pub here : p ≡ along r f t steps
  pub below : p < 512
  pub vacant : is_held (place_at places p) ≡ false
  pub before : (i : ℕ) → i < steps → is_free (place_at places (along r f t i)) ≡ false

-- the same rows, perhaps in other places
pub record Same (before after : List Row) : Type 0 where
  pub found : (r f t : ℕ) → in_force after r f t ≡ in_force before r f t
  pub count : length after ≡ length before
