-- The binary digits of numbers: of powers of two, of `&`, `|` and `!`, and how counts read them.
use Rattle.std.proofs.Common.{◌≡◌, ℕ, zero, suc, ◌+◌, ◌-◌, ◌*◌, ◌/◌, ◌%◌, ◌^◌, ◌<◌, min, max, Bool, true, false, cond, not, ◌&&◌, ◌||◌, eqb, ltb, ◌⊎◌, sym, refl, ap, ◌∙◌, ap₂, suc-le-suc, zero-le, pow-suc, one-add, arith}
use lib.Arith.{digits_div, digits_mod}
use lib.Dec.{eqb-suc-suc, eqb-zero-suc, eqb-suc-zero}
use lib.Bits.{or_shifted_r, bit_and, bit_or, and_step, or_step}
use lib.Count.{ones, ones_step, count_trailing_zeros, under}
use Rattle.std.proofs.lemmas.Nat.{shr-shr, pow_pos, mod_below}
use Rattle.std.proofs.lemmas.Bool.{cases_eq, cond_both, le-ltb}
use Rattle.std.proofs.lemmas.Bool.Decides.{nat_tests}
use Rattle.cells.specs.Members.{bit, counted, digits}

-- ---- digit 0, and the others as those of the half

pub bit_zero : (n : ℕ) → bit n zero ≡ eqb (n % 2) 1
unfolding bit
bit_zero n = ap (λ x. eqb (x % 2) 1) (omega arith)

pub bit_suc : (n k : ℕ) → bit n (suc k) ≡ bit (n / 2) k
unfolding bit
bit_suc n k = ap (λ x. eqb (x % 2) 1) (ap (λ e. n / 2 ^ e) (sym (one-add k)) ∙ sym (shr-shr n 1 k))

-- an operation on two numbers that works digit by digit
module _ (f : Bool → Bool → Bool) (op digit : ℕ → ℕ → ℕ)
    (step : (a b : ℕ) → op a b ≡ op (a / 2) (b / 2) * 2 + digit (a % 2) (b % 2))
    (small : (x y : ℕ) → x < 2 → y < 2 → digit x y < 2)
    (told : (x y : ℕ) → x < 2 → y < 2 → eqb (digit x y) 1 ≡ f (eqb x 1) (eqb y 1)) where
  by_digits : (k a b : ℕ) → bit (op a b) k ≡ f (bit a k) (bit b k)
  by_digits zero a b =
      bit_zero (op a b) ∙ ap (λ x. eqb (x % 2) 1) (step a b)
      ∙ ap (λ x. eqb x 1) (digits_mod (op (a / 2) (b / 2)) (small (a % 2) (b % 2) (mod_below a 2 (omega arith)) (mod_below b 2 (omega arith))))
      ∙ told (a % 2) (b % 2) (mod_below a 2 (omega arith)) (mod_below b 2 (omega arith))
      ∙ sym (ap₂ f (bit_zero a) (bit_zero b))
  by_digits (suc k) a b =
      bit_suc (op a b) k ∙ ap (λ x. bit (x / 2) k) (step a b)
      ∙ ap (λ x. bit x k) (digits_div (op (a / 2) (b / 2)) (small (a % 2) (b % 2) (mod_below a 2 (omega arith)) (mod_below b 2 (omega arith))))
      ∙ by_digits k (a / 2) (b / 2)
      ∙ sym (ap₂ f (bit_suc a k) (bit_suc b k))

pub bit-bit_or : (k a b : ℕ) → bit (bit_or a b) k ≡ (bit a k || bit b k)
bit-bit_or = by_digits (λ x y. x || y) bit_or max or_step (λ x y h i. omega arith) (λ x y h i. grind (arith, nat_tests))

pub bit-bit_and : (k a b : ℕ) → bit (bit_and a b) k ≡ (bit a k && bit b k)
bit-bit_and = by_digits (λ x y. x && y) bit_and min and_step (λ x y h i. omega arith) (λ x y h i. grind (arith, nat_tests))

-- ---- zero, a power of two, and the complement

pub bit_of_zero : (k : ℕ) → bit zero k ≡ false
bit_of_zero zero = bit_zero zero
bit_of_zero (suc k) = bit_suc zero k ∙ bit_of_zero k

pub bit_pow : (j k : ℕ) → bit (2 ^ j) k ≡ eqb j k
bit_pow zero zero = bit_zero 1
bit_pow zero (suc k) = bit_suc 1 k ∙ bit_of_zero k ∙ sym (eqb-zero-suc k)
bit_pow (suc j) zero =
    let e : 2 ^ suc j % 2 ≡ 0 = omega (arith, pow-suc 2 j) in
    bit_zero (2 ^ suc j) ∙ ap (λ x. eqb x 1) e ∙ sym (eqb-suc-zero j)
bit_pow (suc j) (suc k) =
    let e : 2 ^ suc j / 2 ≡ 2 ^ j = omega (arith, pow-suc 2 j) in
    bit_suc (2 ^ suc j) k ∙ ap (λ x. bit x k) e ∙ bit_pow j k ∙ sym (eqb-suc-suc j k)

pub bit_not : (w a k : ℕ) → a < 2 ^ w → k < w → bit ((2 ^ w - 1) - a) k ≡ not (bit a k)
bit_not zero a k h i = absurd (omega arith)
bit_not (suc w) a zero h i =
    let p : 2 ^ suc w ≡ 2 ^ w * 2 = pow-suc 2 w in
    bit_zero ((2 ^ suc w - 1) - a)
    ∙ (let q : ((2 ^ suc w - 1) - a) % 2 ≡ 1 - a % 2 = omega arith in
    ap (λ x. eqb x 1) q ∙ flip (a % 2) (mod_below a 2 (omega arith)))
    ∙ sym (ap not (bit_zero a))
  where
    flip : (x : ℕ) → x < 2 → eqb (1 - x) 1 ≡ not (eqb x 1)
    flip x h = grind (arith, nat_tests)
bit_not (suc w) a (suc k) h i =
    let p : 2 ^ suc w ≡ 2 ^ w * 2 = pow-suc 2 w in
    let q : ((2 ^ suc w - 1) - a) / 2 ≡ (2 ^ w - 1) - a / 2 = omega arith in
    bit_suc ((2 ^ suc w - 1) - a) k ∙ ap (λ x. bit x k) q ∙ bit_not w (a / 2) k (omega arith) (omega arith)
    ∙ sym (ap not (bit_suc a k))

-- ---- a number from its digits

pub digits_below : (f : ℕ → Bool) (n : ℕ) → digits f n < 2 ^ n
unfolding digits
digits_below f zero = omega arith
digits_below f (suc n) =
    let p : 2 ^ suc n ≡ 2 ^ n * 2 = pow-suc 2 n in
    let less = digits_below f n in
    cond_both (f n) (2 ^ n) 0 (λ x. digits f n + x < 2 ^ suc n) (λ _. omega arith) (λ _. omega (arith, pow_pos n))

pub bit_digits : (f : ℕ → Bool) (n k : ℕ) → bit (digits f n) k ≡ (ltb k n && f k)
unfolding digits
bit_digits f zero k = bit_of_zero k ∙ sym (ap (λ b. b && f k) (le-ltb k 0 (omega arith)))
bit_digits f (suc n) k = go (bit_digits f n k) (f n) refl (cases_eq n k)
  where
    at_top : (x b : Bool) → (n ≡ k → b ≡ true) → x ≡ (ltb k n && b) → (x || eqb n k) ≡ (ltb k (suc n) && b)
    at_top x b t h = grind (arith, nat_tests)

    below : (x b : Bool) → (n ≡ k → b ≡ false) → x ≡ (ltb k n && b) → x ≡ (ltb k (suc n) && b)
    below x b t h = grind (arith, nat_tests)

    go : bit (digits f n) k ≡ (ltb k n && f k) → (b : Bool) → f n ≡ b → (n ≡ k) ⊎ (n ≡ k → ⊥) → bit (digits f n + cond b (2 ^ n) 0) k ≡ (ltb k (suc n) && f k)
    go more true e which =
        let sum : digits f n + 2 ^ n ≡ bit_or (digits f n) (1 * 2 ^ n) = sym (or_shifted_r 1 n (digits f n) (digits_below f n) ∙ omega arith) in
        let one : 1 * 2 ^ n ≡ 2 ^ n = omega arith in
        ap (λ x. bit x k) (sum ∙ ap (bit_or (digits f n)) one) ∙ bit-bit_or k (digits f n) (2 ^ n) ∙ ap (λ x. bit (digits f n) k || x) (bit_pow n k)
        ∙ at_top (bit (digits f n) k) (f k) (λ q. ap f (sym q) ∙ e) more
    go more false e which =
        let sum : digits f n + 0 ≡ digits f n = omega arith in
        ap (λ x. bit x k) sum ∙ below (bit (digits f n) k) (f k) (λ q. ap f (sym q) ∙ e) more

-- ---- two numbers with the same digits are equal

odd_same : (x y : ℕ) → x < 2 → y < 2 → eqb x 1 ≡ eqb y 1 → x ≡ y
odd_same x y h k e = grind (arith, nat_tests)

pub same_bits : (w a b : ℕ) → a < 2 ^ w → b < 2 ^ w → ((k : ℕ) → k < w → bit a k ≡ bit b k) → a ≡ b
same_bits zero a b h i same = omega arith
same_bits (suc w) a b h i same =
    let p : 2 ^ suc w ≡ 2 ^ w * 2 = pow-suc 2 w in
    let low : a % 2 ≡ b % 2 = odd_same (a % 2) (b % 2) (mod_below a 2 (omega arith)) (mod_below b 2 (omega arith)) (sym (bit_zero a) ∙ same zero (omega arith) ∙ bit_zero b) in
    let high : a / 2 ≡ b / 2 = same_bits w (a / 2) (b / 2) (omega arith) (omega arith) (λ k l. sym (bit_suc a k) ∙ same (suc k) (omega arith) ∙ bit_suc b k) in
    omega arith

-- ---- the lowest digit that is set

pub trailing_below : (w n k : ℕ) → k < count_trailing_zeros w n → bit n k ≡ false
unfolding count_trailing_zeros
trailing_below zero n k h = absurd (omega arith)
trailing_below (suc w) n k h = go (trailing_below w (n / 2)) (n % 2) refl k h
  where
    go : ((k : ℕ) → k < count_trailing_zeros w (n / 2) → bit (n / 2) k ≡ false) → (d : ℕ) → n % 2 ≡ d → (k : ℕ) → k < under d (count_trailing_zeros w (n / 2)) → bit n k ≡ false
    go more zero e zero h = bit_zero n ∙ ap (λ x. eqb x 1) e
    go more zero e (suc k) h = bit_suc n k ∙ more k (omega arith)
    go more (suc d) e k h = absurd (omega arith)

pub trailing_set : (w n : ℕ) → 0 < n → n < 2 ^ w → (bit n (count_trailing_zeros w n) ≡ true) × (count_trailing_zeros w n < w)
unfolding count_trailing_zeros
trailing_set zero n h i = absurd (omega arith)
trailing_set (suc w) n h i =
    let p : 2 ^ suc w ≡ 2 ^ w * 2 = pow-suc 2 w in
    go (λ even. trailing_set w (n / 2) (omega arith) (omega arith)) (n % 2) refl
  where
    go : (n % 2 ≡ 0 → (bit (n / 2) (count_trailing_zeros w (n / 2)) ≡ true) × (count_trailing_zeros w (n / 2) < w)) → (d : ℕ) → n % 2 ≡ d
        → (bit n (under d (count_trailing_zeros w (n / 2))) ≡ true) × (under d (count_trailing_zeros w (n / 2)) < suc w)
    go more zero e = (bit_suc n (count_trailing_zeros w (n / 2)) ∙ (more e).0, suc-le-suc (more e).1)
    go more (suc d) e =
        let one : n % 2 ≡ 1 = omega (arith, mod_below n 2 (omega arith)) in
        (bit_zero n ∙ ap (λ x. eqb x 1) one, suc-le-suc zero-le)

-- ---- how many digits are set

pub counted_none : (f : ℕ → Bool) → counted f 0 ≡ 0
unfolding counted
counted_none f = refl

pub counted_more : (f : ℕ → Bool) (n : ℕ) → counted f (suc n) ≡ counted f n + cond (f n) 1 0
unfolding counted
counted_more f n = refl

pub counted_same : (f g : ℕ → Bool) (n : ℕ) → ((k : ℕ) → k < n → f k ≡ g k) → counted f n ≡ counted g n
unfolding counted
counted_same f g zero h = refl
counted_same f g (suc n) h = ap₂ (λ x b. x + cond b 1 0) (counted_same f g n (λ k l. h k (omega arith))) (h n (omega arith))

pub counted_add : (f : ℕ → Bool) (a b : ℕ) → counted f (a + b) ≡ counted f a + counted (λ k. f (a + k)) b
unfolding counted
counted_add f a zero = let e : a + 0 ≡ a = omega arith in ap (counted f) e ∙ omega arith
counted_add f a (suc b) =
    let e : a + suc b ≡ suc (a + b) = omega arith in
    ap (counted f) e ∙ ap (λ x. x + cond (f (a + b)) 1 0) (counted_add f a b) ∙ omega arith

pub ones_counted : (w n : ℕ) → n < 2 ^ w → ones n ≡ counted (bit n) w
unfolding ones counted
ones_counted zero n h = let e : n ≡ 0 = omega arith in ap ones e
ones_counted (suc w) n h =
    let p : 2 ^ suc w ≡ 2 ^ w * 2 = pow-suc 2 w in
    ones_step n ∙ ap (λ x. n % 2 + x) (ones_counted w (n / 2) (omega arith))
    ∙ ap₂ (λ x y. x + y) (first (n % 2) (mod_below n 2 (omega arith))) (counted_same (bit (n / 2)) (λ k. bit n (1 + k)) w (λ k l. sym (ap (bit n) (one-add k) ∙ bit_suc n k)))
    ∙ ap (λ b. (zero + cond b 1 0) + counted (λ k. bit n (1 + k)) w) (sym (bit_zero n))
    ∙ sym (counted_add (bit n) 1 w) ∙ ap (counted (bit n)) (one-add w)
  where
    first : (x : ℕ) → x < 2 → x ≡ zero + cond (eqb x 1) 1 0
    first x h = grind (arith, nat_tests)
