-- Document 02, letter e: what a decimal is read as, what ITOF gives, and what FTOI leaves, of exact values. "Nearest rounding is shown once for both uses":
-- both are `nearest_f` at their own fraction. Assumes nothing.
use mathlib.Core.Path.{◌≡◌, refl, subst}
use mathlib.Core.Bool.{Bool, true, false}
use mathlib.Core.List.{List}
use Prim.Native.Nat.{ℕ, zero, suc, ◌*◌, ◌/◌, ◌^◌, ◌≤◌, ◌<◌, zero-le}
use native.Mathlib.Nat.{div-mul-le_self, div-lt_iff_lt-mul, lt-suc_self, one-le-pow}
use lib.Dec.{lit<}
use borrow.Author.Tests.{le-ltb}
use lib.IntN.{ℤ, pos, negsuc, nat_abs}
use lib.ListN.{length}
use lib.Pow.{pow_pos}
use lib.Signed.{lt_z}
use Rattle.rules.specs.Words.{signed}
use Rattle.rules.specs.Exact.{negative, scale, magnitude, with_sign}
use Rattle.rules.specs.Floats.{nearest_f, int_to_f, cut}
use Rattle.rules.specs.Operands.{numeral, before_point, after_point, nearest_decimal}
use Rattle.nearest.specs.Nearest.{Rounded, sign_or, RoundedSigned}
use Rattle.nearest.proofs.Unique.{round_rounded}
use Rattle.nearest.proofs.Cut.{cut_whole}

-- "the binary32 nearest .. ties to even", and no other bits are
pub nearest_rounded : (minus : Bool) (a c : ℕ) → 0 < c → Rounded minus a c (nearest_f minus a c)
unfolding nearest_f
nearest_rounded minus a c C = round_rounded minus a c C

-- "It is read as the binary32 nearest the exact decimal": its digits as one number, over ten for each digit after the point
pub decimal_rounded : (minus : Bool) (ds : List ℕ)
    → Rounded minus (numeral 10 (numeral 10 0 (before_point ds)) (after_point ds)) (10 ^ length (after_point ds)) (nearest_decimal minus ds)
unfolding nearest_decimal
decimal_rounded minus ds =
    nearest_rounded minus (numeral 10 (numeral 10 0 (before_point ds)) (after_point ds)) (10 ^ length (after_point ds)) (one-le-pow (length (after_point ds)) 10 (lit< tt))

-- "ITOF (code 50) rounds an INT the same way.": the number of the INT over 1; zero has no minus
pub int_rounded : (t : ℕ) → RoundedSigned false (signed t) 1 (int_to_f t)
unfolding int_to_f
int_rounded t =
    subst (λ (s : Bool). Rounded s (nat_abs (signed t)) 1 (nearest_f (lt_z (signed t) (pos 0)) (nat_abs (signed t)) 1)) (sign_of (signed t))
    (nearest_rounded (lt_z (signed t) (pos 0)) (nat_abs (signed t)) 1 (lit< tt))
  where
    sign_of : (z : ℤ) → lt_z z (pos 0) ≡ sign_or false z
    sign_of (pos zero) = refl
    sign_of (pos (suc n)) = le-ltb (suc n) 0 zero-le
    sign_of (negsuc n) = refl

-- "FTOI (code 51) cuts toward zero.": of whole units, each a scale, the number has the sign of the value, no more units than it, and not one unit less
pub cut_exact : (t : ℕ)
    → (cut t ≡ with_sign (negative t) (nat_abs (cut t))) × (nat_abs (cut t) * scale ≤ magnitude t) × (magnitude t < suc (nat_abs (cut t)) * scale)
cut_exact t =
    let m = magnitude t in
    rw (cut_whole t, size_of (negative t) (m / scale))
    (refl, div-mul-le_self m scale, (div-lt_iff_lt-mul (pow_pos 149)).0 (lt-suc_self (m / scale)))
  where
    size_of : (s : Bool) (q : ℕ) → nat_abs (with_sign s q) ≡ q
    size_of true zero = refl
    size_of true (suc q) = refl
    size_of false q = refl
