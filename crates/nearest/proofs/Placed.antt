-- How a / c is rounded with numbers of few digits: by powers of two it is brought to where its whole part has 24 digits, rounded there to a whole
-- number, and that number, put above its power of two, is the bits of the nearest value. Assumes nothing.
use mathlib.Core.Path.{◌≡◌, refl, sym, ap, ap₂, ◌∙◌, subst}
use mathlib.Core.Logic.{◌⊎◌, inl, inr}
use mathlib.Core.Bool.{Bool, true, false}
use Prim.Native.Nat.{ℕ, suc, ◌+◌, ◌-◌, ◌*◌, ◌/◌, ◌%◌, ◌^◌, ◌≤◌, ◌<◌, compare}
use native.Mathlib.Nat.{le_trans, le_of_eq, lt_of_lt_of_le, lt_of_not-le, not-le_of_lt, zero-mul, mul-one, pow-suc, mul_assoc, mul_comm, mul_left_comm, mul-pos, mul-le-mul_left, mul-le-mul_right, mul-lt-mul_of_pos_right, le_of_mul-le-mul_right, lt_of_mul-lt-mul_right, le-div_iff_mul-le, div-lt_iff_lt-mul, eq-or-lt_of_le}
use native.Mathlib.Omega.{arith}
use lib.Dec.{lit<, lit≤}
use lib.Count.{count_leading_zeros, leading_top}
use lib.Pow.{pow-add, pow_pos, pow_mono}
use lib.Ieee.{binary32, round, to_bits, size}
use lib.Ieee.Digits.{size-lt, size-le}
use lib.Ieee.Nearest.{closest, closest_same, nearest-ge}
use lib.Ieee.Order.{drop, kept}
use lib.Ieee.Scale.{round_same}
use borrow.Author.Tests.{le-leb, lt-leb}
use Rattle.rules.specs.Exact.{negative, exponent, fraction, scale, scaled, magnitude}
use Rattle.rules.specs.Floats.{nearest_f}
use Rattle.nearest.specs.Nearest.{sign_bit, Finite, midpoint}
use Rattle.nearest.proofs.Powers.{raised_twice}
use Rattle.nearest.proofs.Closest.{closest_most}
use Rattle.nearest.proofs.Parts.{one_magnitude}
use Rattle.nearest.proofs.Nearest.{nearest_value, nearest_magnitude}

-- ---- bits by their sign, power and digits

-- the exponent's field is above the fraction's, and the leading digit adds one to it
abbrev pub placed : Bool → ℕ → ℕ → ℕ
placed s k q = sign_bit s + (k * 2 ^ 23 + q)

module _ (k q : ℕ) (K : k < 253) (lo : 2 ^ 23 ≤ q) (hi : q ≤ 2 ^ 24) where
  placed_sign : (s : Bool) → negative (placed s k q) ≡ s
  placed_sign true = le-leb (2 ^ 31) (placed true k q) (omega arith)
  placed_sign false = lt-leb (2 ^ 31) (placed false k q) (omega arith)

  placed_finite : (s : Bool) → Finite (placed s k q)
  placed_finite true = record { cell = omega arith; field = omega arith }
  placed_finite false = record { cell = omega arith; field = omega arith }

  -- all 24 digits, or one more power of two
  placed_exponent : (s : Bool) → (q ≡ 2 ^ 24) ⊎ (q < 2 ^ 24)
      → ((exponent (placed s k q) ≡ suc (suc k)) × (fraction (placed s k q) ≡ 0) × (q ≡ 2 ^ 24))
      ⊎ ((exponent (placed s k q) ≡ suc k) × (2 ^ 23 + fraction (placed s k q) ≡ q))
  placed_exponent true (inl e) = inl (omega arith, omega arith, e)
  placed_exponent true (inr l) = inr (omega arith, omega arith)
  placed_exponent false (inl e) = inl (omega arith, omega arith, e)
  placed_exponent false (inr l) = inr (omega arith, omega arith)

  placed_magnitude : (s : Bool) → magnitude (placed s k q) ≡ q * 2 ^ k
  unfolding magnitude scaled
  placed_magnitude s = go (placed_exponent s (eq-or-lt_of_le hi))
    where
      go : ((exponent (placed s k q) ≡ suc (suc k)) × (fraction (placed s k q) ≡ 0) × (q ≡ 2 ^ 24))
          ⊎ ((exponent (placed s k q) ≡ suc k) × (2 ^ 23 + fraction (placed s k q) ≡ q))
          → scaled (exponent (placed s k q)) (fraction (placed s k q)) ≡ q * 2 ^ k
      go (inl h) =
          let p : 2 ^ suc k ≡ 2 ^ k * 2 = pow-suc 2 k in
          let w : 2 ^ 23 * 2 ^ suc k ≡ 2 ^ 24 * 2 ^ k = omega arith in
          ap₂ scaled h.0 h.1 ∙ w ∙ ap (λ (x : ℕ). x * 2 ^ k) (sym h.2)
      go (inr h) = ap (λ (e : ℕ). scaled e (fraction (placed s k q))) h.0 ∙ ap (λ (x : ℕ). x * 2 ^ k) h.1

-- ---- a / c, raised by 2 ^ i above and 2 ^ j below, has a whole part of 24 digits

module _ (a c i j k : ℕ) (C : 0 < c) (balanced : 149 + j ≡ i + k) (lo : 2 ^ 23 * (c * 2 ^ j) ≤ a * 2 ^ i) (hi : a * 2 ^ i < 2 ^ 24 * (c * 2 ^ j)) where
  n : ℕ
  n = a * scale

  -- times 2 ^ j it is the raised a, times 2 ^ k
  raised : n * 2 ^ j ≡ a * 2 ^ i * 2 ^ k
  unfolding n
  raised = raised_twice a 149 j (i + k) balanced ∙ sym (raised_twice a i k (i + k) refl)

  -- a power of two of c's, raised the same way
  power : (p : ℕ) → 2 ^ (p + k) * c * 2 ^ j ≡ 2 ^ p * (c * 2 ^ j) * 2 ^ k
  power p =
      ap (λ (x : ℕ). x * c * 2 ^ j) (pow-add 2 p k)
      ∙ (let e : 2 ^ p * 2 ^ k * c * 2 ^ j ≡ 2 ^ p * (c * 2 ^ j) * 2 ^ k = simp (mul_assoc, mul_comm, mul_left_comm) in e)

  from_below : 2 ^ (23 + k) * c ≤ n
  from_below =
      le_of_mul-le-mul_right
      (le_trans (le_of_eq (power 23)) (le_trans (mul-le-mul_right (2 ^ k) lo) (le_of_eq (sym raised)))) (pow_pos j)

  from_above : n < 2 ^ (24 + k) * c
  from_above =
      lt_of_mul-lt-mul_right (2 ^ j)
      (lt_of_lt_of_le (subst (λ (x : ℕ). x < 2 ^ 24 * (c * 2 ^ j) * 2 ^ k) (sym raised) (mul-lt-mul_of_pos_right hi (pow_pos k))) (le_of_eq (sym (power 24))))

  more_digits : 23 + k < size (n / c)
  more_digits =
      lt_of_not-le (λ (g : size (n / c) ≤ 23 + k).
      not-le_of_lt (lt_of_lt_of_le (size-lt (n / c)) (pow_mono g)) ((le-div_iff_mul-le C).1 from_below))

  dropped : drop 24 n c ≡ k
  dropped =
      let m : size (n / c) ≤ 24 + k = size-le (n / c) (24 + k) ((div-lt_iff_lt-mul C).1 from_above) in
      omega (arith, m, more_digits)

  digits : ℕ
  digits = closest (a * 2 ^ i) (c * 2 ^ j)

  cross : n * (c * 2 ^ j) ≡ a * 2 ^ i * (c * 2 ^ k)
  cross = mul_left_comm n c (2 ^ j) ∙ ap (λ (x : ℕ). c * x) raised ∙ mul_left_comm c (a * 2 ^ i) (2 ^ k)

  kept_digits : kept 24 n c ≡ digits
  unfolding digits
  kept_digits =
      ap (λ (x : ℕ). closest n (c * 2 ^ x)) dropped
      ∙ closest_same n (c * 2 ^ k) (a * 2 ^ i) (c * 2 ^ j) (mul-pos C (pow_pos k)) (mul-pos C (pow_pos j)) cross

  divisor_pos : 0 < c * 2 ^ j
  divisor_pos = mul-pos C (pow_pos j)

  digits_lo : 2 ^ 23 ≤ digits
  unfolding digits
  digits_lo = le_trans ((le-div_iff_mul-le divisor_pos).1 lo) (nearest-ge (a * 2 ^ i / (c * 2 ^ j)) (compare (a * 2 ^ i % (c * 2 ^ j) * 2) (c * 2 ^ j)))

  digits_hi : digits ≤ 2 ^ 24
  unfolding digits
  digits_hi = closest_most (a * 2 ^ i) (c * 2 ^ j) (2 ^ 24) divisor_pos hi

  module _ (small : a < 2 ^ 32) (K : k < 253) (s : Bool) where
    under : a < midpoint * c
    under = lt_of_lt_of_le small (le_trans (lit≤ tt) (le_trans (le_of_eq (sym (mul-one midpoint))) (mul-le-mul_left midpoint C)))

    bits_placed : placed s k digits ≡ nearest_f s a c
    unfolding nearest_f n
    bits_placed =
        one_magnitude (placed s k digits) (to_bits binary32 (round binary32 s a c))
        (placed_finite k digits K digits_lo digits_hi s)
        ((nearest_value s a c C).under under)
        (placed_sign k digits K digits_lo digits_hi s ∙ sym (nearest_value s a c C).sign)
        (placed_magnitude k digits K digits_lo digits_hi s
        ∙ sym (nearest_magnitude s a c C under ∙ ap₂ (λ (x y : ℕ). x * 2 ^ y) kept_digits dropped))

-- the bits made so are the nearest value's
pub placed_nearest : (a c i j k : ℕ) → 0 < c → 149 + j ≡ i + k → 2 ^ 23 * (c * 2 ^ j) ≤ a * 2 ^ i → a * 2 ^ i < 2 ^ 24 * (c * 2 ^ j) → a < 2 ^ 32 → k < 253
    → (s : Bool) → placed s k (closest (a * 2 ^ i) (c * 2 ^ j)) ≡ nearest_f s a c
unfolding digits
placed_nearest a c i j k C balanced lo hi small K s = bits_placed a c i j k C balanced lo hi small K s

-- ---- raised to the same 32 digits

-- raised by its leading zeros a number that is not 0 has the highest of its digits set
module _ (k x : ℕ) (X : 0 < x) (small : x < 2 ^ suc k) where
  top : (j : ℕ) × (count_leading_zeros (suc k) x + suc j ≡ suc k) × (2 ^ j ≤ x) × (x < 2 ^ suc j)
  top = leading_top (suc k) x X small

  pub leading_some : count_leading_zeros (suc k) x ≤ k
  leading_some = let e : count_leading_zeros (suc k) x + suc top.0 ≡ suc k = top.1 in omega arith

  pub raised_lo : 2 ^ k ≤ x * 2 ^ count_leading_zeros (suc k) x
  raised_lo =
      let e : count_leading_zeros (suc k) x + suc top.0 ≡ suc k = top.1 in
      let d : k ≡ top.0 + count_leading_zeros (suc k) x = omega arith in
      le_trans (le_of_eq (ap (λ (y : ℕ). 2 ^ y) d ∙ pow-add 2 top.0 (count_leading_zeros (suc k) x))) (mul-le-mul_right (2 ^ count_leading_zeros (suc k) x) top.2)

  pub raised_hi : x * 2 ^ count_leading_zeros (suc k) x < 2 ^ suc k
  raised_hi =
      let e : count_leading_zeros (suc k) x + suc top.0 ≡ suc k = top.1 in
      let d : suc k ≡ suc top.0 + count_leading_zeros (suc k) x = omega arith in
      lt_of_lt_of_le (mul-lt-mul_of_pos_right top.3 (pow_pos (count_leading_zeros (suc k) x)))
      (le_of_eq (sym (ap (λ (y : ℕ). 2 ^ y) d ∙ pow-add 2 (suc top.0) (count_leading_zeros (suc k) x))))

-- the two raised so that n / u lies between 1/2 and 2: then it has 24 digits by 2 ^ 24, or by 2 ^ 23
module _ (a c i j n u : ℕ) (en : n ≡ a * 2 ^ i) (eu : u ≡ c * 2 ^ j) (n-lo : 2 ^ 31 ≤ n) (n-hi : n < 2 ^ 32) (u-lo : 2 ^ 31 ≤ u) (u-hi : u < 2 ^ 32)
    (few-i : i ≤ 31) (few-j : j ≤ 31) (C : 0 < c) (small : a < 2 ^ 32) (s : Bool) where
  by_steps : (t k : ℕ) → 149 + j ≡ i + t + k → 2 ^ 23 * u ≤ n * 2 ^ t → n * 2 ^ t < 2 ^ 24 * u → k < 253 → placed s k (closest (n * 2 ^ t) u) ≡ nearest_f s a c
  by_steps t k balanced lo hi K =
      let e : n * 2 ^ t ≡ a * 2 ^ (i + t) = ap (λ (x : ℕ). x * 2 ^ t) en ∙ raised_twice a i t (i + t) refl in
      ap₂ (λ (x y : ℕ). placed s k (closest x y)) e eu
      ∙ placed_nearest a c (i + t) j k C balanced (rw (e, eu) at lo) (rw (e, eu) at hi) small K s

  pub lower_nearest : n < u → placed s (125 + j - i) (closest (n * 2 ^ 24) u) ≡ nearest_f s a c
  lower_nearest h = by_steps 24 (125 + j - i) (omega arith) (omega arith) (omega arith) (omega arith)

  pub upper_nearest : u ≤ n → placed s (125 + j - i + 1) (closest (n * 2 ^ 23) u) ≡ nearest_f s a c
  upper_nearest h = by_steps 23 (125 + j - i + 1) (omega arith) (omega arith) (omega arith) (omega arith)

-- ---- zero

zero_over_one : (s : Bool) → sign_bit s ≡ to_bits binary32 (round binary32 s 0 1)
unfolding round to_bits
zero_over_one true = refl
zero_over_one false = refl

-- "Minus zero keeps its sign." (02 e)
pub zero_nearest : (s : Bool) (c : ℕ) → 0 < c → sign_bit s ≡ nearest_f s 0 c
unfolding nearest_f
zero_nearest s c C = zero_over_one s ∙ ap (to_bits binary32) (round_same binary32 s 0 1 0 c (lit< tt) C (zero-mul c))
