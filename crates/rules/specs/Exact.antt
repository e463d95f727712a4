-- Document 01, "Instructions": "An exact finite value, here and in later requests, is a whole number over a whole number above 0". That of a FLOAT, read
-- off a cell's 32 bits: nothing here is taken from a library of floats. Assumes nothing.
use Rattle.std.specs.Prelude.{ℕ, zero, suc, ◌+◌, ◌*◌, ◌/◌, ◌%◌, ◌^◌, Bool, not, ◌&&◌, cond, leb, eqb, ℤ, pos, neg_ℤ}

-- "binary32": from the top the sign's bit, 8 bits of exponent and 23 of fraction
abbrev pub negative : ℕ → Bool
negative b = leb (2 ^ 31) b

abbrev pub exponent : ℕ → ℕ
exponent b = b / 2 ^ 23 % 2 ^ 8

abbrev pub fraction : ℕ → ℕ
fraction b = b % 2 ^ 23

-- this exponent is that of the infinities and the NaNs, which have no exact value
abbrev pub no_value : ℕ
no_value = 255

-- a NaN has it, and a fraction that is not 0
abbrev pub stands_for_nan : ℕ → Bool
stands_for_nan b = eqb (exponent b) no_value && not (eqb (fraction b) 0)

-- without its sign the value of finite bits b is magnitude b / scale. 1 / scale is the smallest value above 0. An exponent above 0 puts a leading digit
-- 1 before the fraction; 0 puts none, and counts as 1.
abbrev pub scale : ℕ
scale = 2 ^ 149

unfoldable pub scaled : ℕ → ℕ → ℕ
scaled zero f = f
scaled (suc e) f = (2 ^ 23 + f) * 2 ^ e

unfoldable pub magnitude : ℕ → ℕ
unfolding scaled
magnitude b = scaled (exponent b) (fraction b)

-- with its sign it is exact b / scale
abbrev pub with_sign : Bool → ℕ → ℤ
with_sign s m = cond s (neg_ℤ (pos m)) (pos m)

abbrev pub exact : ℕ → ℤ
exact b = with_sign (negative b) (magnitude b)
