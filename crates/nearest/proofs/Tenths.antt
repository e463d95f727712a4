-- Document 02, letter f: the whole tenths of a FLOAT, which is seconds, held between the shortest and the longest dwell, by its bits. Assumes nothing.
use mathlib.Core.Path.{◌≡◌, refl, sym, ap, ◌∙◌}
use mathlib.Core.Bool.{true, false}
use Prim.Native.Nat.{ℕ, zero, suc, ◌+◌, ◌-◌, ◌*◌, ◌/◌, ◌^◌, ◌≤◌, ◌<◌}
use native.Mathlib.Nat.{le_of_lt, mul_assoc, mul-le-mul_left, mul-lt-mul_of_pos_left, le-div_iff_mul-le, div-lt_iff_lt-mul}
use native.Mathlib.Omega.{arith}
use lib.Dec.{lit<, ltb}
use lib.IntN.{pos, neg_ℤ, ◌*ℤ◌}
use lib.Signed.{shr_z}
use lib.Pow.{pow_pos}
use borrow.Author.Tests.{lt-ltb, ltb-true}
use Rattle.rules.specs.Exact.{negative, exponent, fraction, no_value, scale, magnitude}
use Rattle.rules.specs.Dwell.{shortest, longest, held, whole_tenths, held_seconds}
use Rattle.rules.proofs.Tests.{by_test}
use Rattle.rules.proofs.Dwells.{held_minus, held_few, held_between, held_many}
use Rattle.nearest.specs.Nearest.{Finite}
use Rattle.nearest.proofs.Parts.{plus_bits, minus_bits, finite_bits, magnitude_rises, magnitude_keeps}
use Rattle.nearest.proofs.Cut.{times_part}

-- ---- the whole tenths

-- of a value with no minus they are a quotient
plus_tenths : (b : ℕ) → negative b ≡ false → whole_tenths b ≡ pos (10 * magnitude b / scale)
unfolding whole_tenths
plus_tenths b h = rw h

-- of a value with a minus they are not above 0
minus_held : (b : ℕ) → negative b ≡ true → held (whole_tenths b) ≡ shortest
unfolding whole_tenths
minus_held b h = rw h (ten_times (magnitude b))
  where
    not_above : (n : ℕ) → held (shr_z (neg_ℤ (pos n)) scale) ≡ shortest
    not_above zero = held_few 0 (lit< tt)
    not_above (suc n) = held_minus (n / scale)

    ten_times : (m : ℕ) → held (shr_z (pos 10 *ℤ neg_ℤ (pos m)) scale) ≡ shortest
    ten_times zero = not_above 0
    ten_times (suc m) = not_above (10 * suc m)

-- ---- by the bits: those of 1 and of 30 seconds, and what lies below, between and above them

-- a value b beside y, which is k seconds
module _ (b y k : ℕ) (fb : Finite b) (fy : Finite y) (s : negative b ≡ negative y) (is : magnitude y ≡ k * scale) where
  below : b < y → 10 * magnitude b / scale < 10 * k
  below h =
      let m : magnitude b < k * scale = rw is at (magnitude_rises b y fb fy s h) in
      (div-lt_iff_lt-mul (pow_pos 149)).1 (rw (mul_assoc 10 k scale) (mul-lt-mul_of_pos_left {k = 10} m (lit< tt)))

  from : y ≤ b → 10 * k ≤ 10 * magnitude b / scale
  from h =
      let m : k * scale ≤ magnitude b = rw is at (magnitude_keeps y b fy fb (sym s) h) in
      (le-div_iff_mul-le (pow_pos 149)).1 (rw (mul_assoc 10 k scale) (mul-le-mul_left 10 m))

abbrev one_second : ℕ
one_second = 0x3f80_0000

abbrev thirty_seconds : ℕ
thirty_seconds = 0x41f0_0000

one_second_lem : magnitude one_second ≡ 1 * scale
unfolding magnitude
one_second_lem = refl

thirty_seconds_lem : magnitude thirty_seconds ≡ 30 * scale
unfolding magnitude
thirty_seconds_lem = refl

finite_one : Finite one_second
finite_one = finite_bits one_second (lit< tt) (lit< tt)

finite_thirty : Finite thirty_seconds
finite_thirty = finite_bits thirty_seconds (lit< tt) (lit< tt)

pub seconds_minus : (b : ℕ) → 2 ^ 31 ≤ b → held_seconds b ≡ shortest
unfolding held_seconds
seconds_minus b h =
    let minus : negative b ≡ true = minus_bits b h in
    by_test (ltb (exponent b) no_value) (λ e. rw e (minus_held b minus)) (λ e. rw (e, minus))

module _ (b : ℕ) (P : b < 2 ^ 31) where
  plus : negative b ≡ false
  plus = plus_bits b P

  finite : exponent b < no_value → Finite b
  finite f = finite_bits b (omega (arith, P)) f

  finite_held : exponent b < no_value → held_seconds b ≡ held (pos (10 * magnitude b / scale))
  unfolding held_seconds
  finite_held f = rw (lt-ltb (exponent b) no_value f, plus_tenths b plus)

  pub seconds_few : b < one_second → held_seconds b ≡ shortest
  seconds_few h =
      let f : exponent b < no_value = omega arith in
      finite_held f ∙ held_few (10 * magnitude b / scale) (below b one_second 1 (finite f) finite_one plus one_second_lem h)

  -- an infinity too
  pub seconds_many : thirty_seconds ≤ b → held_seconds b ≡ longest
  unfolding held_seconds
  seconds_many h =
      by_test (ltb (exponent b) no_value)
      (λ e. let f : exponent b < no_value = ltb-true (exponent b) no_value e in
      finite_held f ∙ held_many (10 * magnitude b / scale) (from b thirty_seconds 30 (finite f) finite_thirty plus thirty_seconds_lem h))
      (λ e. rw (e, plus))

  -- with no sign's bit the exponent is all that stands above the fraction
  pub seconds_between : one_second ≤ b → b < thirty_seconds → held_seconds b ≡ 10 * (2 ^ 23 + fraction b) / 2 ^ (150 - b / 2 ^ 23)
  seconds_between l h =
      let f : exponent b < no_value = omega arith in
      let fb : Finite b = finite f in
      finite_held f
      ∙ held_between (10 * magnitude b / scale) (from b one_second 1 fb finite_one plus one_second_lem l) (le_of_lt (below b thirty_seconds 30 fb finite_thirty plus thirty_seconds_lem h))
      ∙ times_part b 10 (omega arith) (omega arith)
      ∙ ap (λ (e : ℕ). 10 * (2 ^ 23 + fraction b) / 2 ^ (150 - e)) {x = exponent b} {y = b / 2 ^ 23} (omega arith)
