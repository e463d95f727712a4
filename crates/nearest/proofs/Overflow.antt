-- `round` to binary32 makes an infinity exactly from the midpoint on: halfway between the largest finite value and 2 ^ 128. Assumes nothing.
use mathlib.Core.Path.{◌≡◌, refl, sym, ap, ◌∙◌, subst}
use mathlib.Core.Logic.{◌⊎◌, inl, inr}
use mathlib.Core.Bool.{Bool, false, cond}
use Prim.Native.Nat.{ℕ, ◌+◌, ◌-◌, ◌*◌, ◌^◌, ◌≤◌, ◌<◌}
use native.Mathlib.Nat.{le_trans, le_of_eq, lt_of_lt_of_le, zero-lt-suc, mul-one, mul_right_comm, mul-le-mul_right, mul-lt-mul_of_pos_right, add-mul}
use native.Mathlib.Omega.{arith}
use lib.Dec.{T, lit<}
use lib.Pow.{ones_lt, pow_pos}
use borrow.Author.Tests.{le-ltb}
use lib.Ieee.{Float, nan, inf, fin, binary32, odd, units, round, le}
use lib.Ieee.Exact.{HasValue, units_val}
use lib.Ieee.Fits.{two, two-le_pos, round_is}
use lib.Ieee.Order.{drop, kept, round_mono}
use lib.Ieee.Scale.{grid, overflow, finite, round_val}
use Rattle.rules.specs.Exact.{scale}
use Rattle.nearest.specs.Nearest.{apart, midpoint}
use Rattle.nearest.proofs.Order.{either_way}
use Rattle.nearest.proofs.Cell.{value_finite}
use Rattle.nearest.proofs.Grid.{grid_beats}

-- ---- from the midpoint on

units_overflow : (s : Bool) (q k : ℕ) → overflow binary32 ≤ q * 2 ^ k → units binary32 s q k ≡ inf s
unfolding units
units_overflow s q k h = ap (λ b. cond b (odd 25 s q k 149) (inf s)) (le-ltb (q * 2 ^ k) (overflow binary32) h)

at_midpoint : round binary32 false midpoint 1 ≡ inf false
unfolding round
at_midpoint = refl

above_infinity : (x : Float) → T (le (inf false) x) → T (finite x) → ⊥
unfolding le
above_infinity nan t h = h
above_infinity (inf s) t h = h
above_infinity (fin s m e) t h = t

-- `round` keeps the order, so past the midpoint its result is no smaller than the one at the midpoint
pub round_over : (s : Bool) (a c : ℕ) → 0 < c → midpoint * c ≤ a → round binary32 s a c ≡ inf s
round_over s a c C h =
    round_is binary32 s a c
    ∙ units_overflow s (kept 24 (a * scale) c) (drop 24 (a * scale) c) (go (either_way (overflow binary32) (grid binary32 a c)))
  where
    go : (overflow binary32 ≤ grid binary32 a c) ⊎ (grid binary32 a c < overflow binary32) → overflow binary32 ≤ grid binary32 a c
    go (inl l) = l
    go (inr l) =
        absurd (above_infinity (round binary32 false a c)
        (subst (λ (x : Float). T (le x (round binary32 false a c))) at_midpoint
        (round_mono binary32 midpoint 1 a c (zero-lt-suc 0) C (le_trans h (le_of_eq (sym (mul-one a))))))
        (value_finite (round binary32 false a c) false (grid binary32 a c) scale (round_val binary32 a c l)))

-- ---- below it

-- `omega` leaves out numbers of this size, so they are variables here: where the result r is past the end, and still as near to n as the largest value is,
-- n is past the middle of the two
no_gap : (r n largest end middle : ℕ) → end ≤ r → apart r n ≤ apart largest n → n < middle → largest < end → middle + middle ≡ largest + end → ⊥
no_gap r n largest end middle a b d e f = omega arith

pub grid_under : (a c : ℕ) → 0 < c → a < midpoint * c → grid binary32 a c < overflow binary32
grid_under a c C h = go (either_way (2 ^ 277) (grid binary32 a c))
  where
    go : (2 ^ 277 ≤ grid binary32 a c) ⊎ (grid binary32 a c < 2 ^ 277) → grid binary32 a c < 2 ^ 277
    go (inr l) = l
    go (inl l) =
        absurd (no_gap (grid binary32 a c * c) (a * scale) ((2 ^ 24 - 1) * 2 ^ 253 * c) (2 ^ 277 * c) (midpoint * scale * c)
        (mul-le-mul_right c l)
        (grid_beats 24 (a * scale) c (2 ^ 24 - 1) 253 (two-le_pos 24 (two binary32)) C (ones_lt 24))
        (lt_of_lt_of_le (mul-lt-mul_of_pos_right h (pow_pos 149)) (le_of_eq (mul_right_comm midpoint c scale)))
        (mul-lt-mul_of_pos_right (lit< tt) C)
        (sym (add-mul (midpoint * scale) (midpoint * scale) c) ∙ add-mul ((2 ^ 24 - 1) * 2 ^ 253) (2 ^ 277) c))

pub round_under : (s : Bool) (a c : ℕ) → 0 < c → a < midpoint * c → HasValue (round binary32 s a c) s (grid binary32 a c) scale
round_under s a c C h =
    subst (λ (x : Float). HasValue x s (grid binary32 a c) scale) (sym (round_is binary32 s a c))
    (units_val binary32 s (kept 24 (a * scale) c) (drop 24 (a * scale) c) (grid_under a c C h))
