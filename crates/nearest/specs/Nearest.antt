-- Document 01, "Instructions": "each is rounded once, to binary32 (IEEE 754, nearest, ties to even). An exact finite value, here and in later
-- requests, is a whole number over a whole number above 0, and nearness and order are judged by cross products of whole numbers."
-- What that says, of a cell's 32 bits and of whole numbers alone: nothing here is taken from a library of floats. What the bits stand for is the rules'
-- `Exact`. Assumes nothing.
use Rattle.std.specs.Prelude.{ℕ, zero, suc, ◌+◌, ◌-◌, ◌*◌, ◌%◌, ◌^◌, ◌≤◌, ◌<◌, ◌≡◌, ◌≢◌, Bool, true, false, ℤ, pos, negsuc, nat_abs}
use Rattle.rules.specs.Exact.{negative, exponent, no_value, scale, magnitude}

-- what the bit of a sign counts for
abbrev pub sign_bit : Bool → ℕ
sign_bit true = 2 ^ 31
sign_bit false = 0

-- b is the bits of a finite value, neither of an infinity nor of a NaN
pub record Finite (b : ℕ) : Type 0 where
  pub cell : b < 2 ^ 32
  pub field : exponent b < no_value

-- ---- what the nearest value is

-- how far two whole numbers lie apart
abbrev pub apart : ℕ → ℕ → ℕ
apart m n = (m - n) + (n - m)

-- "nearness .. judged by cross products of whole numbers": the value of x is as near to a / c as the value of y is,
-- | magnitude x / scale - a / c | ≤ | magnitude y / scale - a / c |, both sides times scale and c
abbrev pub AsNear : ℕ → ℕ → ℕ → ℕ → Type 0
AsNear a c x y = apart (magnitude x * c) (a * scale) ≤ apart (magnitude y * c) (a * scale)

-- halfway between the largest finite value, (2 ^ 24 - 1) * 2 ^ 104, and 2 ^ 128, which would come next
abbrev pub midpoint : ℕ
midpoint = (2 ^ 25 - 1) * 2 ^ 103

abbrev pub infinity : Bool → ℕ
infinity false = 0x7f80_0000
infinity true = 0xff80_0000

-- "(IEEE 754, nearest, ties to even)": x is the bits of the binary32 value nearest to a / c, for a c above 0, with the sign s
pub record IsNearest (s : Bool) (a c x : ℕ) : Type 0 where
  pub sign : negative x ≡ s
  -- an infinity exactly from the midpoint on
  pub over : midpoint * c ≤ a → x ≡ infinity s
  pub under : a < midpoint * c → Finite x
  -- "nearest": below it no finite value is nearer
  pub near : a < midpoint * c → (y : ℕ) → Finite y → AsNear a c x y
  -- "ties to even": where another is as near, the last bit of x is 0
  pub even : a < midpoint * c → (y : ℕ) → Finite y → magnitude y ≢ magnitude x → AsNear a c y x → x % 2 ≡ 0

-- "rounded once": x is what the exact value a / c with the sign s rounds to, and no other bits are
pub record Rounded (s : Bool) (a c x : ℕ) : Type 0 where
  pub nearest : IsNearest s a c x
  pub only : (y : ℕ) → IsNearest s a c y → y ≡ x

-- the same of z / c, where the whole number z has a sign of its own; an exact zero has the sign that IEEE 754 gives it, s
abbrev pub sign_or : Bool → ℤ → Bool
sign_or s (pos zero) = s
sign_or s (pos (suc n)) = false
sign_or s (negsuc n) = true

abbrev pub RoundedSigned : Bool → ℤ → ℕ → ℕ → Type 0
RoundedSigned s z c x = Rounded (sign_or s z) (nat_abs z) c x
