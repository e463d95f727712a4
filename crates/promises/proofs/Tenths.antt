-- Request f: "the largest whole tenth not above the exact ten times that number" is what the rules take of a FLOAT. Assumes nothing.
use Prim.Native.Nat.{ℕ, zero, suc, ◌*◌, ◌/◌, ◌<◌, suc-le-suc}
use native.Mathlib.Nat.{div-mul-le_self, div-lt_iff_lt-mul, le-div_iff_mul-le, lt-suc_self, le_of_suc-le-suc, not-suc-le-zero}
use lib.Dec.{le→leb, leb→le}
use lib.IntN.{ℤ, pos, negsuc, neg_ℤ, ◌*ℤ◌}
use lib.Signed.{◌≤ℤ◌, shr_z}
use lib.Pow.{pow_pos}
use Rattle.rules.specs.Exact.{scale, exact}
use Rattle.rules.specs.Dwell.{whole_tenths}
use Rattle.promises.specs.Dwells.{LargestTenth}

-- -k is not above -(n + 1) exactly where k is above n
neg_below : (k n : ℕ) → n < k → neg_ℤ (pos k) ≤ℤ negsuc n
neg_below zero n h = absurd (not-suc-le-zero h)
neg_below (suc k) n h = record { le = le→leb n k (le_of_suc-le-suc h) }

below_neg : (k n : ℕ) → neg_ℤ (pos k) ≤ℤ negsuc n → n < k
below_neg zero n h = absurd h.le
below_neg (suc k) n h = suc-le-suc (leb→le n k h.le)

-- z / c rounded down is the largest whole number that is not above it
module _ (c : ℕ) (C : 0 < c) where
  down_below : (z : ℤ) → (shr_z z c *ℤ pos c) ≤ℤ z
  down_below (pos n) = record { le = le→leb _ _ (div-mul-le_self n c) }
  down_below (negsuc n) = neg_below (suc (n / c) * c) n ((div-lt_iff_lt-mul C).0 (lt-suc_self (n / c)))

  down_largest : (z w : ℤ) → (w *ℤ pos c) ≤ℤ z → w ≤ℤ shr_z z c
  down_largest (pos n) (pos v) h = record { le = le→leb _ _ ((le-div_iff_mul-le C).1 (leb→le _ _ h.le)) }
  down_largest (pos n) (negsuc v) h = record { le = tt }
  down_largest (negsuc n) (pos v) h = absurd h.le
  down_largest (negsuc n) (negsuc v) h =
      record { le = le→leb _ _ (le_of_suc-le-suc ((div-lt_iff_lt-mul C).1 (below_neg (suc v * c) n h))) }

pub tenths_largest : (b : ℕ) → LargestTenth b (whole_tenths b)
unfolding whole_tenths
tenths_largest b = record { not_above = down_below scale (pow_pos 149) (pos 10 *ℤ exact b); largest = down_largest scale (pow_pos 149) (pos 10 *ℤ exact b) }
