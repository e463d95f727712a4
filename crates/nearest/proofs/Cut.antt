-- FTOI: what is left of a FLOAT's exact value, cut toward zero, and which values leave an INT. Assumes nothing.
use mathlib.Core.Path.{◌≡◌, refl, sym, ap, ◌∙◌}
use mathlib.Core.Logic.{◌⊎◌, inl, inr}
use mathlib.Core.Bool.{Bool, true, false}
use Prim.Native.Nat.{ℕ, zero, suc, ◌+◌, ◌-◌, ◌*◌, ◌/◌, ◌%◌, ◌^◌, ◌≤◌, ◌<◌}
use native.Mathlib.Nat.{le_trans, lt_of_lt_of_le, mul-one, one-mul, mul_assoc, div-one, le-div_iff_mul-le, div-lt_iff_lt-mul, mul-le-mul_left}
use native.Mathlib.Omega.{arith}
use lib.Dec.{lit<, lit≤, ltb, eqb}
use lib.IntN.{pos}
use lib.Signed.{quot_z}
use lib.Arith.{lt-one}
use lib.Pow.{pow_pos, pow_mono}
use lib.Ieee.Nearest.{div_same}
use borrow.Author.Tests.{lt-ltb, le-leb, lt-leb, ltb-true, eqb-true, eqb-false}
use Rattle.rules.specs.Words.{word, in_word}
use Rattle.rules.specs.Exact.{negative, exponent, fraction, no_value, scale, scaled, magnitude, with_sign}
use Rattle.rules.specs.Floats.{cut, has_int}
use Rattle.rules.proofs.Tests.{by_test}
use Rattle.nearest.specs.Nearest.{Finite}
use Rattle.nearest.proofs.Order.{either_way}
use Rattle.nearest.proofs.Powers.{raised_twice}
use Rattle.nearest.proofs.Parts.{plus_bits, minus_bits, finite_bits, scaled_top, magnitude_rises, magnitude_keeps}

-- ---- the whole part of the magnitude, by the exponent

-- the magnitude with a leading digit, and a power of two that makes the scale of it
leading : (t e : ℕ) → exponent t ≡ suc e → magnitude t ≡ (2 ^ 23 + fraction t) * 2 ^ e
unfolding magnitude scaled
leading t e h = ap (λ (x : ℕ). scaled x (fraction t)) h

module _ (t : ℕ) where
  digits : ℕ
  digits = 2 ^ 23 + fraction t

  -- an exponent below that of 1
  below_one : exponent t < 127 → magnitude t < 1 * scale
  unfolding magnitude
  below_one h =
      lt_of_lt_of_le (scaled_top (exponent t) (fraction t) (omega arith))
      (le_trans (mul-le-mul_left (2 ^ 23) (pow_mono {i = exponent t} {j = 126} (omega arith))) (lit≤ tt))

  -- of k times the value, for any k
  pub times_part : (k : ℕ) → 1 ≤ exponent t → exponent t ≤ 150 → k * magnitude t / scale ≡ k * (2 ^ 23 + fraction t) / 2 ^ (150 - exponent t)
  unfolding digits
  times_part k h l =
      let e : exponent t ≡ suc (exponent t - 1) = omega arith in
      div_same (k * magnitude t) scale (k * digits) (2 ^ (150 - exponent t)) (pow_pos 149) (pow_pos (150 - exponent t))
      (mul_assoc k (magnitude t) (2 ^ (150 - exponent t))
      ∙ ap (λ (x : ℕ). k * x)
      (ap (λ (x : ℕ). x * 2 ^ (150 - exponent t)) (leading t (exponent t - 1) e) ∙ raised_twice digits (exponent t - 1) (150 - exponent t) 149 (omega arith))
      ∙ sym (mul_assoc k digits (2 ^ 149)))

  pub whole_part : 1 ≤ exponent t → exponent t ≤ 150 → magnitude t / scale ≡ (2 ^ 23 + fraction t) / 2 ^ (150 - exponent t)
  whole_part h l =
      ap (λ (x : ℕ). x / scale) (sym (one-mul (magnitude t))) ∙ times_part 1 h l
      ∙ ap (λ (x : ℕ). x / 2 ^ (150 - exponent t)) (one-mul (2 ^ 23 + fraction t))

  -- below 1 nothing is whole
  pub whole_none : exponent t < 127 → magnitude t / scale ≡ 0
  whole_none h = lt-one ((div-lt_iff_lt-mul (pow_pos 149)).1 (below_one h))

  pub whole_all : 150 ≤ exponent t → magnitude t / scale ≡ (2 ^ 23 + fraction t) * 2 ^ (exponent t - 150)
  unfolding digits
  whole_all h =
      let e : exponent t ≡ suc (exponent t - 1) = omega arith in
      div_same (magnitude t) scale (digits * 2 ^ (exponent t - 150)) 1 (pow_pos 149) (lit< tt)
      (mul-one (magnitude t) ∙ leading t (exponent t - 1) e ∙ sym (raised_twice digits (exponent t - 150) 149 (exponent t - 1) (omega arith)))
      ∙ div-one (digits * 2 ^ (exponent t - 150))

-- up to the exponent of 2 ^ 31 it is a word
pub whole_fits : (t : ℕ) → 150 ≤ exponent t → exponent t < 159
    → (2 ^ 23 + fraction t) * 2 ^ (exponent t - 150) % 2 ^ 32 ≡ (2 ^ 23 + fraction t) * 2 ^ (exponent t - 150)
whole_fits t h l =
    let f : 2 ^ 23 + fraction t < 2 ^ 24 = omega arith in
    let p : 2 ^ (exponent t - 150) ≤ 2 ^ 8 = pow_mono {i = exponent t - 150} {j = 8} (omega arith) in
    let m : (2 ^ 23 + fraction t) * 2 ^ (exponent t - 150) ≤ (2 ^ 23 + fraction t) * 2 ^ 8 = mul-le-mul_left (2 ^ 23 + fraction t) p in
    mod_small _ (omega (arith, m, f))
  where
    mod_small : (x : ℕ) → x < 2 ^ 32 → x % 2 ^ 32 ≡ x
    mod_small x h = omega arith

-- ---- the INT that is left

-- the sign is that of the bits, and the number is the whole part
signed_whole : (s : Bool) (m : ℕ) → quot_z (with_sign s m) (pos scale) ≡ with_sign s (m / scale)
signed_whole false m = refl
signed_whole true zero = refl
signed_whole true (suc m) = refl

pub cut_whole : (t : ℕ) → cut t ≡ with_sign (negative t) (magnitude t / scale)
unfolding cut
cut_whole t = signed_whole (negative t) (magnitude t)

module _ (t : ℕ) where
  q : ℕ
  q = magnitude t / scale

  has_int_lem : exponent t < no_value → in_word (with_sign (negative t) q) ≡ true → has_int t ≡ true
  unfolding has_int q
  has_int_lem h k = rw (lt-ltb (exponent t) no_value h, cut_whole t, k)

small_in : (s : Bool) (q : ℕ) → q < 2 ^ 31 → in_word (with_sign s q) ≡ true
small_in false q h = le-leb q (2 ^ 31 - 1) (omega arith)
small_in true zero h = refl
small_in true (suc q) h = rw (le-leb q (2 ^ 31 - 1) (omega arith)) refl

large_out : (q : ℕ) → 2 ^ 31 ≤ q → in_word (with_sign false q) ≡ false
large_out q h = lt-leb q (2 ^ 31 - 1) (omega arith)

larger_out : (q : ℕ) → 2 ^ 31 < q → in_word (with_sign true q) ≡ false
larger_out zero h = absurd (omega arith)
larger_out (suc q) h = rw (lt-leb q (2 ^ 31 - 1) (omega arith))

-- ---- by the bits: those of 2 ^ 31 and of -2 ^ 31, and what lies below and above them

abbrev above_highest : ℕ
above_highest = 0x4f00_0000

abbrev lowest : ℕ
lowest = 0xcf00_0000

above_magnitude : magnitude above_highest ≡ 2 ^ 31 * scale
unfolding magnitude
above_magnitude = refl

lowest_magnitude : magnitude lowest ≡ 2 ^ 31 * scale
unfolding magnitude
lowest_magnitude = refl

past_magnitude : magnitude (suc lowest) ≡ (2 ^ 31 + 2 ^ 8) * scale
unfolding magnitude
past_magnitude = refl

module _ (t : ℕ) (T : t < 2 ^ 32) where
  -- below the two the whole part is below 2 ^ 31
  below_whole : t % 2 ^ 31 < above_highest → magnitude t / scale < 2 ^ 31
  below_whole h = (div-lt_iff_lt-mul (pow_pos 149)).1 (go (either_way (2 ^ 31) t))
    where
      ft : Finite t
      ft = finite_bits t T (omega arith)

      go : (2 ^ 31 ≤ t) ⊎ (t < 2 ^ 31) → magnitude t < 2 ^ 31 * scale
      go (inl l) = rw lowest_magnitude at (magnitude_rises t lowest ft (finite_bits lowest (lit< tt) (lit< tt)) (minus_bits t l) (omega arith))
      go (inr l) = rw above_magnitude at (magnitude_rises t above_highest ft (finite_bits above_highest (lit< tt) (lit< tt)) (plus_bits t l) (omega arith))

  pub int_below : t % 2 ^ 31 < above_highest → has_int t ≡ true
  unfolding q
  int_below h = has_int_lem t (omega arith) (small_in (negative t) (magnitude t / scale) (below_whole h))

  -- from 2 ^ 31 on, and below -2 ^ 31, it is outside
  module _ (h : above_highest ≤ t % 2 ^ 31) (other : t ≡ lowest → ⊥) where
    outside : exponent t < no_value → (2 ^ 31 ≤ t) ⊎ (t < 2 ^ 31) → in_word (with_sign (negative t) (magnitude t / scale)) ≡ false
    outside f (inl l) =
        let past : 2 ^ 31 + 2 ^ 8 ≤ magnitude t / scale =
        (le-div_iff_mul-le (pow_pos 149)).1
        (rw past_magnitude at (magnitude_keeps (suc lowest) t (finite_bits (suc lowest) (lit< tt) (lit< tt)) (finite_bits t T f) (sym (minus_bits t l)) (omega (arith, other)))) in
        let above : 2 ^ 31 < 2 ^ 31 + 2 ^ 8 = lit< tt in
        rw (minus_bits t l) (larger_out (magnitude t / scale) (lt_of_lt_of_le above past))
    outside f (inr l) =
        rw (plus_bits t l)
        (large_out (magnitude t / scale)
        ((le-div_iff_mul-le (pow_pos 149)).1
        (rw above_magnitude at (magnitude_keeps above_highest t (finite_bits above_highest (lit< tt) (lit< tt)) (finite_bits t T f) (sym (plus_bits t l)) (omega arith)))))

    int_none : has_int t ≡ false
    unfolding has_int
    int_none =
        by_test (ltb (exponent t) no_value)
        (λ e. rw (e, cut_whole t) (outside (ltb-true (exponent t) no_value e) (either_way (2 ^ 31) t)))
        (λ e. rw e)

int_lowest : has_int lowest ≡ true
unfolding has_int cut magnitude
int_lowest = refl

pub int_by_lowest : (t : ℕ) → t < 2 ^ 32 → above_highest ≤ t % 2 ^ 31 → has_int t ≡ eqb t lowest
int_by_lowest t T h =
    by_test (eqb t lowest)
    (λ e. ap has_int (eqb-true t lowest e) ∙ int_lowest ∙ sym e)
    (λ e. int_none t T h (eqb-false t lowest e) ∙ sym e)

pub int_exponent : (t : ℕ) → t < 2 ^ 32 → has_int t ≡ true → exponent t < 159
int_exponent t T h = go (either_way above_highest (t % 2 ^ 31))
  where
    go : (above_highest ≤ t % 2 ^ 31) ⊎ (t % 2 ^ 31 < above_highest) → exponent t < 159
    go (inl l) = let e : t ≡ lowest = eqb-true t lowest (sym (int_by_lowest t T l) ∙ h) in omega arith
    go (inr l) = omega arith

-- ---- the word of what is left

pub cut_plus : (t v : ℕ) → t < 2 ^ 31 → v < 2 ^ 32 → v ≡ magnitude t / scale → v ≡ word (cut t)
cut_plus t v h l e = rw (cut_whole t, lt-leb (2 ^ 31) t h, ← e) (omega arith)

-- r is -v, modulo 2 ^ 32
minus_word : (v r : ℕ) → v < 2 ^ 32 → r < 2 ^ 32 → (r + v) % 2 ^ 32 ≡ 0 → r ≡ word (with_sign true v)
minus_word zero r l k e = omega arith
minus_word (suc v) r l k e = omega arith

pub cut_minus : (t v r : ℕ) → 2 ^ 31 ≤ t → v < 2 ^ 32 → r < 2 ^ 32 → v ≡ magnitude t / scale → (r + v) % 2 ^ 32 ≡ 0 → r ≡ word (cut t)
cut_minus t v r h l k e z = rw (cut_whole t, le-leb (2 ^ 31) t h, ← e) (minus_word v r l k z)
