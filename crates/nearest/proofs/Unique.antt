-- Only one number is the bits of the nearest value, so what `round` makes is the only one. Assumes nothing.
-- Of two that are equally near, both with an even last bit, one would be two or more above the other, and the bits next above the lower one
-- would be those of a value between the two, which is nearer.
use mathlib.Core.Path.{◌≡◌, sym, ◌∙◌}
use mathlib.Core.Logic.{◌⊎◌, inl, inr}
use mathlib.Core.Bool.{Bool}
use Prim.Native.Nat.{ℕ, suc, ◌*◌, ◌%◌, ◌≤◌, ◌<◌}
use native.Mathlib.Nat.{eq-or-lt_of_le, lt-suc_self, mul-lt-mul_of_pos_right}
use native.Mathlib.Omega.{arith}
use lib.Ieee.{binary32, round, to_bits}
use Rattle.rules.specs.Exact.{negative, scale, magnitude}
use Rattle.nearest.specs.Nearest.{Finite, apart, midpoint, IsNearest, Rounded}
use Rattle.nearest.proofs.Order.{either_way}
use Rattle.nearest.proofs.Parts.{magnitude_rises, between_finite, between_sign}
use Rattle.nearest.proofs.Nearest.{nearest_value}

nearer : (x z y n : ℕ) → x < z → z < y → apart x n ≤ apart y n → apart y n ≤ apart x n → apart x n ≤ apart z n → ⊥
nearer x z y n xz zy p q r = omega arith

module _ (s : Bool) (a c : ℕ) (C : 0 < c) (h : a < midpoint * c) where
  never_below : (x y : ℕ) → IsNearest s a c x → IsNearest s a c y → x < y → ⊥
  never_below x y m n l =
      let fx : Finite x = m.under h in
      let fy : Finite y = n.under h in
      let t : negative x ≡ negative y = m.sign ∙ sym n.sign in
      let xy : magnitude x < magnitude y = magnitude_rises x y fx fy t l in
      let ex : x % 2 ≡ 0 = m.even h y fy (λ e. omega arith) (n.near h x fx) in
      let ey : y % 2 ≡ 0 = n.even h x fx (λ e. omega arith) (m.near h y fy) in
      let after : suc x < y = omega arith in
      let fz : Finite (suc x) = between_finite x (suc x) y fx fy t (lt-suc_self x) after in
      let tz : negative x ≡ negative (suc x) = between_sign x (suc x) y fx fy t (lt-suc_self x) after in
      let xz : magnitude x * c < magnitude (suc x) * c = mul-lt-mul_of_pos_right (magnitude_rises x (suc x) fx fz tz (lt-suc_self x)) C in
      let zy : magnitude (suc x) * c < magnitude y * c = mul-lt-mul_of_pos_right (magnitude_rises (suc x) y fz fy (sym tz ∙ t) after) C in
      nearer (magnitude x * c) (magnitude (suc x) * c) (magnitude y * c) (a * scale) xz zy (m.near h y fy) (n.near h x fx) (m.near h (suc x) fz)

  same_bits : (x y : ℕ) → IsNearest s a c x → IsNearest s a c y → x ≡ y
  same_bits x y m n = go (either_way x y)
    where
      at_most : (x ≡ y) ⊎ (x < y) → x ≡ y
      at_most (inl e) = e
      at_most (inr l) = absurd (never_below x y m n l)

      go : (x ≤ y) ⊎ (y < x) → x ≡ y
      go (inl l) = at_most (eq-or-lt_of_le l)
      go (inr l) = absurd (never_below y x n m l)

pub one_nearest : (s : Bool) (a c : ℕ) → 0 < c → (x y : ℕ) → IsNearest s a c x → IsNearest s a c y → x ≡ y
one_nearest s a c C x y m n = go (either_way (midpoint * c) a)
  where
    go : (midpoint * c ≤ a) ⊎ (a < midpoint * c) → x ≡ y
    go (inl h) = m.over h ∙ sym (n.over h)
    go (inr h) = same_bits s a c C h x y m n

pub only_nearest : (s : Bool) (a c : ℕ) → 0 < c → (x : ℕ) → IsNearest s a c x → x ≡ to_bits binary32 (round binary32 s a c)
only_nearest s a c C x m = one_nearest s a c C x (to_bits binary32 (round binary32 s a c)) m (nearest_value s a c C)

-- The nearest theorem, once. The F operations cite it (Cells.antt), and so do decimals and ITOF (Conversions.antt), each at its own fraction: a decimal with
-- k digits after the point is its digits over 10 ^ k, with its sign, and an INT is itself over 1.
pub round_rounded : (s : Bool) (a c : ℕ) → 0 < c → Rounded s a c (to_bits binary32 (round binary32 s a c))
round_rounded s a c C = record { nearest = nearest_value s a c C; only = only_nearest s a c C }
