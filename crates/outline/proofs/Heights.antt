-- Heights that end at 255.
use Rattle.std.proofs.Common.{◌≡◌, ℕ, ◌+◌, min, max, arith}
use Rattle.outline.specs.Drafts.{raised}

abbrev pub cap : ℕ → ℕ
cap h = min h 255

pub cap_raised : (h : ℕ) → raised (cap h) ≡ cap (h + 1)
cap_raised h = omega arith

pub cap_max : (g h : ℕ) → max (cap g) (cap h) ≡ cap (max g h)
cap_max g h = omega arith

pub cap_both : (g h : ℕ) → raised (max (cap g) (cap h)) ≡ cap (max g h + 1)
cap_both g h = omega arith

pub cap_settled : (g h : ℕ) → max (cap g) (raised (cap h)) ≡ cap (max g (h + 1))
cap_settled g h = omega arith
