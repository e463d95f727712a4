-- Document 01, "Instructions": "F operations take FLOATs; each is rounded once, to binary32 (IEEE 754, nearest, ties to even)." From the bits b and t of
-- two cells, each finite, to the bits that the operation leaves: they are those of the binary32 value nearest to the exact result, and no other bits are.
-- An exact value is a whole number over a whole number above 0: exact b / scale with its sign, magnitude b / scale without. Assumes nothing.
use mathlib.Core.Path.{◌≡◌, sym, ap, ap₂, ◌∙◌, subst}
use mathlib.Core.Logic.{◌↔◌}
use mathlib.Core.Bool.{Bool, true, not, ◌&&◌, xor}
use Prim.Native.Nat.{ℕ, ◌*◌, ◌<◌}
use native.Mathlib.Nat.{mul-pos}
use lib.IntN.{nat_abs, ◌+ℤ◌, ◌-ℤ◌}
use lib.Pow.{pow_pos}
use lib.Signed.{lt_z}
use lib.Ieee.{Float, binary32, round, of_bits, to_bits}
use Rattle.rules.specs.Floats.{rounded, plus_f, minus_f, times_f, quotient_f, ordered_f, equal_f}
use Rattle.rules.specs.Words.{sense}
use Rattle.rules.specs.Exact.{negative, scale, magnitude, exact}
use Rattle.nearest.specs.Nearest.{Finite, sign_or, infinity, Rounded, RoundedSigned}
use Rattle.nearest.proofs.Cell.{value_read}
use Rattle.nearest.proofs.Nearest.{infinity_bits}
use Rattle.nearest.proofs.Unique.{round_rounded}
use Rattle.nearest.proofs.Exact.{add_exact, sub_exact, mul_exact, div_exact, div-zero, zero_div_zero}
use Rattle.nearest.proofs.Compare.{lt_exact, eq_exact}

by_round : (x : Float) (s : Bool) (a c : ℕ) → 0 < c → x ≡ round binary32 s a c → Rounded s a c (to_bits binary32 x)
by_round x s a c C e = subst (λ (y : Float). Rounded s a c (to_bits binary32 y)) (sym e) (round_rounded s a c C)

module _ (b t : ℕ) (fb : Finite b) (ft : Finite t) where
  -- ADDF. The sign is that of the exact sum; an exact zero is +0, and -0 only where both are negative.
  pub sum_rounded : RoundedSigned (negative b && negative t) (exact b +ℤ exact t) scale (plus_f b t)
  unfolding plus_f rounded
  sum_rounded =
      by_round _ (sign_or (negative b && negative t) (exact b +ℤ exact t)) (nat_abs (exact b +ℤ exact t)) scale (pow_pos 149)
      (add_exact binary32 (negative b) (negative t) (magnitude b) (magnitude t) scale (pow_pos 149) (of_bits binary32 b) (of_bits binary32 t)
      (value_read b fb) (value_read t ft))

  -- SUBF, "Vb op Vt": the same, with the sign of t turned round.
  pub difference_rounded : RoundedSigned (negative b && not (negative t)) (exact b -ℤ exact t) scale (minus_f b t)
  unfolding minus_f rounded
  difference_rounded =
      by_round _ (sign_or (negative b && not (negative t)) (exact b -ℤ exact t)) (nat_abs (exact b -ℤ exact t)) scale (pow_pos 149)
      (sub_exact binary32 (negative b) (negative t) (magnitude b) (magnitude t) scale (pow_pos 149) (of_bits binary32 b) (of_bits binary32 t)
      (value_read b fb) (value_read t ft))

  -- TIMESF. Negative where one is and the other is not, a zero too.
  pub product_rounded : Rounded (xor (negative b) (negative t)) (magnitude b * magnitude t) (scale * scale) (times_f b t)
  unfolding times_f rounded
  product_rounded =
      by_round _ (xor (negative b) (negative t)) (magnitude b * magnitude t) (scale * scale) (mul-pos (pow_pos 149) (pow_pos 149))
      (mul_exact binary32 (negative b) (negative t) (magnitude b) (magnitude t) scale (pow_pos 149) (of_bits binary32 b) (of_bits binary32 t)
      (value_read b fb) (value_read t ft))

  -- DIVF, by a t that is not zero. The two stand over one scale, so the exact quotient is one magnitude over the other.
  pub quotient_rounded : 0 < magnitude t → Rounded (xor (negative b) (negative t)) (magnitude b) (magnitude t) (quotient_f b t)
  unfolding quotient_f rounded
  quotient_rounded h =
      by_round _ (xor (negative b) (negative t)) (magnitude b) (magnitude t) h
      (div_exact binary32 (negative b) (negative t) (magnitude b) (magnitude t) scale (pow_pos 149) (of_bits binary32 b) (of_bits binary32 t) h
      (value_read b fb) (value_read t ft))

  -- By a zero nothing is rounded: IEEE 754 gives an infinity, and a NaN where both are zero, "A NaN result is #7FC00000".
  pub quotient_by_zero : magnitude t ≡ 0 → 0 < magnitude b → quotient_f b t ≡ infinity (xor (negative b) (negative t))
  unfolding quotient_f rounded
  quotient_by_zero z h =
      ap (to_bits binary32) (div-zero binary32 (negative b) (negative t) scale (pow_pos 149) (magnitude b) (of_bits binary32 b) (of_bits binary32 t) h
      (value_read b fb) (rw z at (value_read t ft)))
      ∙ infinity_bits (xor (negative b) (negative t))

  pub zero_by_zero : magnitude t ≡ 0 → magnitude b ≡ 0 → quotient_f b t ≡ 0x7fc0_0000
  unfolding quotient_f rounded to_bits
  zero_by_zero z h =
      ap (to_bits binary32) (zero_div_zero binary32 (negative b) (negative t) scale (pow_pos 149) (of_bits binary32 b) (of_bits binary32 t)
      (rw h at (value_read b fb)) (rw z at (value_read t ft)))

  -- CMPF: "order .. judged by cross products of whole numbers", here over one scale; both zeros are equal.
  pub order_exact : ordered_f b t ≡ sense (lt_z (exact b) (exact t)) (lt_z (exact t) (exact b))
  unfolding ordered_f
  order_exact =
      ap₂ sense
      (lt_exact (negative b) (negative t) (magnitude b) (magnitude t) scale (pow_pos 149) (of_bits binary32 b) (of_bits binary32 t)
      (value_read b fb) (value_read t ft))
      (lt_exact (negative t) (negative b) (magnitude t) (magnitude b) scale (pow_pos 149) (of_bits binary32 t) (of_bits binary32 b)
      (value_read t ft) (value_read b fb))

  -- EQUAL of two FLOATs (02 b): 1 exactly where the exact values are one whole number over the scale; both zeros are 0.
  pub equal_exact : (equal_f b t ≡ true) ↔ (exact b ≡ exact t)
  unfolding equal_f
  equal_exact =
      eq_exact (negative b) (negative t) (magnitude b) (magnitude t) scale (pow_pos 149) (of_bits binary32 b) (of_bits binary32 t)
      (value_read b fb) (value_read t ft)
