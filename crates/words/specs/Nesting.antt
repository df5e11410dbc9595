-- How deep brackets are nested.
use Rattle.std.specs.Prelude.{ℕ, ◌+◌, ◌-◌, max, Bool, cond, ◌&&◌, ◌||◌, List, [], ◌∷◌, Some, None, Option, nat_le}
use Rattle.words.specs.declared.kind.Kind.{Kind}
use Rattle.words.specs.declared.kind.Kind.TheVariants.{OpenParen, OpenBrace, CloseParen, CloseBrace}
use Rattle.words.specs.Kinds.{is}
use Rattle.words.specs.Words.{Token}

abbrev pub opens : Kind → Bool
opens k = is k OpenParen || is k OpenBrace

abbrev pub closes : Kind → Bool
closes k = is k CloseParen || is k CloseBrace

-- how many brackets are open after a word, where d are open before it: either closer closes the last that is open,
-- and with none open it does nothing
unfoldable pub open_after : ℕ → Kind → ℕ
open_after d k = cond (opens k) (d + 1) (cond (closes k) (d - 1) d)

-- the place of the first word that opens a bracket while sixteen are open, where d are open before the words
unfoldable pub too_deep : ℕ → List Token → Option ℕ
too_deep d [] = None
too_deep d (w ∷ ws) = cond (opens w.kind && nat_le 16 d) (Some w.place) (too_deep (open_after d w.kind) ws)

-- the most brackets that are open at once, where d are open before the words
unfoldable pub deepest : ℕ → List Token → ℕ
deepest d [] = d
deepest d (w ∷ ws) = max d (deepest (open_after d w.kind) ws)
