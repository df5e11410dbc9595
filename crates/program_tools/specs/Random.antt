-- Marsaglia's xorshift of 64 bits: a state, the next one, and the number that is drawn from it.
use Rattle.std.specs.Prelude.{ℕ, ◌+◌, ◌-◌, ◌*◌, ◌/◌, ◌%◌, ◌^◌, ◌==◌, min, bit_xor, if◌then◌else◌}

abbrev pub mixed_left : ℕ → ℕ → ℕ
mixed_left by state = bit_xor state (state * 2 ^ by % 2 ^ 64)

abbrev pub mixed_right : ℕ → ℕ → ℕ
mixed_right by state = bit_xor state (state / 2 ^ by)

unfoldable pub next_state : ℕ → ℕ
next_state state = mixed_left 17 (mixed_right 7 (mixed_left 13 state))

-- a number below the bound, or 0 where that is 0: the state's remainder, without so many of its low bits
abbrev pub drawn : ℕ → ℕ → ℕ → ℕ
drawn low state bound = if bound == 0 then 0 else state / 2 ^ (low % 64) % bound

-- by the first state, one time in forty: a number from one below `last` to one above it, and else one below `few`; by the second state, which of these
abbrev pub drawn_or_late : ℕ → ℕ → ℕ → ℕ → ℕ → ℕ
drawn_or_late low first second few last = if drawn low first 40 == 0 then min (last - 1 + drawn low second 3) 255 else drawn low second few
