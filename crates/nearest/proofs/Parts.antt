-- The magnitude of finite bits as a significand and a power of two, and its order: of two finite bits with one sign the larger number has the
-- larger magnitude, and no two have the same. Assumes nothing.
use mathlib.Core.Path.{◌≡◌, refl, sym, ap, ◌∙◌, subst}
use mathlib.Core.Logic.{◌⊎◌, inl, inr}
use mathlib.Core.Bool.{Bool, true, false, true≢false}
use Prim.Native.Nat.{ℕ, zero, suc, ◌+◌, ◌*◌, ◌/◌, ◌%◌, ◌^◌, ◌≤◌, ◌<◌}
use native.Mathlib.Nat.{eq-or-lt_of_le, le_trans, le_of_eq, le_of_lt, lt_of_lt_of_le, lt_irrefl, le_of_suc-le-suc, mul-one, mul-le-mul_left, mul-le-mul_right, mul-lt-mul_of_pos_right, mod-lt, le-add_right, not-suc-le-zero}
use native.Mathlib.Omega.{arith}
use lib.Pow.{pow-add, pow_pos, pow_mono}
use borrow.Author.Tests.{leb-true, leb-false, le-leb, lt-leb}
use Rattle.rules.specs.Exact.{negative, exponent, fraction, no_value, scaled, magnitude}
use Rattle.nearest.specs.Nearest.{Finite}
use Rattle.nearest.proofs.Order.{either_way}

-- ---- bits as a number

pub plus_bits : (b : ℕ) → b < 2 ^ 31 → negative b ≡ false
plus_bits b h = lt-leb (2 ^ 31) b h

pub minus_bits : (b : ℕ) → 2 ^ 31 ≤ b → negative b ≡ true
minus_bits b h = le-leb (2 ^ 31) b h

pub finite_bits : (b : ℕ) → b < 2 ^ 32 → exponent b < no_value → Finite b
finite_bits b h f = record { cell = h; field = f }

-- ---- significand and power

-- magnitude b = digits * 2 ^ power; a power above 0 has all 24 digits in use, and the last digit is the last bit
pub record Parts (b : ℕ) : Type 0 where
  pub digits : ℕ
  pub power : ℕ
  pub few : digits < 2 ^ 24
  pub full : 0 < power → 2 ^ 23 ≤ digits
  pub last : digits % 2 ≡ b % 2
  pub is : magnitude b ≡ digits * 2 ^ power

pub parts : (b : ℕ) → Parts b
unfolding magnitude scaled
parts b = go (exponent b) refl
  where
    go : (e : ℕ) → exponent b ≡ e → Parts b
    go zero h = record {
      digits = fraction b;
      power = 0;
      few = omega arith;
      full = λ l. absurd (lt_irrefl 0 l);
      last = omega arith;
      is = ap (λ (e : ℕ). scaled e (fraction b)) h ∙ sym (mul-one (fraction b));
    }
    go (suc e) h = record {
      digits = 2 ^ 23 + fraction b;
      power = e;
      few = omega arith;
      full = λ l. omega arith;
      last = omega arith;
      is = ap (λ (e : ℕ). scaled e (fraction b)) h;
    }

-- ---- order

scaled_fraction : (e f g : ℕ) → f < g → scaled e f < scaled e g
unfolding scaled
scaled_fraction zero f g h = h
scaled_fraction (suc e) f g h = mul-lt-mul_of_pos_right (omega arith) (pow_pos e)

lead : (f : ℕ) → f < 2 ^ 23 → 2 ^ 23 + f < 2 ^ 24
lead f h = omega arith

pub scaled_top : (e f : ℕ) → f < 2 ^ 23 → scaled e f < 2 ^ 23 * 2 ^ e
unfolding scaled
scaled_top zero f h = h
scaled_top (suc e) f h =
    lt_of_lt_of_le (mul-lt-mul_of_pos_right (lead f h) (pow_pos e))
    (le_of_eq (sym (pow-add 2 24 e) ∙ ap (λ (k : ℕ). 2 ^ k) {x = 24 + e} {y = 23 + suc e} (omega arith) ∙ pow-add 2 23 (suc e)))

scaled_exponent : (e d f g : ℕ) → e < d → f < 2 ^ 23 → scaled e f < scaled d g
unfolding scaled
scaled_exponent e zero f g h l = absurd (not-suc-le-zero h)
scaled_exponent e (suc d) f g h l =
    lt_of_lt_of_le (scaled_top e f l)
    (le_trans (mul-le-mul_left (2 ^ 23) (pow_mono (le_of_suc-le-suc h))) (mul-le-mul_right (2 ^ d) (le-add_right (2 ^ 23) g)))

same_half : (x y : ℕ) → Finite x → Finite y → negative x ≡ negative y → x / 2 ^ 31 ≡ y / 2 ^ 31
same_half x y fx fy s = go (negative x) (negative y) refl refl s
  where
    go : (s t : Bool) → negative x ≡ s → negative y ≡ t → s ≡ t → x / 2 ^ 31 ≡ y / 2 ^ 31
    go true true p q e = omega (arith, leb-true, fx.cell, fy.cell)
    go true false p q e = absurd (true≢false e)
    go false true p q e = absurd (true≢false (sym e))
    go false false p q e = omega (arith, leb-false)

-- the order of the bits is that of the exponent, then of the fraction
fields_order : (x y : ℕ) → Finite x → Finite y → negative x ≡ negative y → x < y
    → (exponent x < exponent y) ⊎ ((exponent x ≡ exponent y) × (fraction x < fraction y))
fields_order x y fx fy s h = go (either_way (exponent y) (exponent x))
  where
    half : x / 2 ^ 31 ≡ y / 2 ^ 31
    half = same_half x y fx fy s

    go : (exponent y ≤ exponent x) ⊎ (exponent x < exponent y) → (exponent x < exponent y) ⊎ ((exponent x ≡ exponent y) × (fraction x < fraction y))
    go (inl l) = inr (omega (arith, half), omega (arith, half))
    go (inr l) = inl l

pub magnitude_rises : (x y : ℕ) → Finite x → Finite y → negative x ≡ negative y → x < y → magnitude x < magnitude y
unfolding magnitude
magnitude_rises x y fx fy s h = go (fields_order x y fx fy s h)
  where
    go : (exponent x < exponent y) ⊎ ((exponent x ≡ exponent y) × (fraction x < fraction y)) → scaled (exponent x) (fraction x) < scaled (exponent y) (fraction y)
    go (inl l) = scaled_exponent (exponent x) (exponent y) (fraction x) (fraction y) l (mod-lt x (pow_pos 23))
    go (inr l) =
        subst (λ (e : ℕ). scaled (exponent x) (fraction x) < scaled e (fraction y)) l.0
        (scaled_fraction (exponent x) (fraction x) (fraction y) l.1)

pub magnitude_keeps : (x y : ℕ) → Finite x → Finite y → negative x ≡ negative y → x ≤ y → magnitude x ≤ magnitude y
magnitude_keeps x y fx fy s h = go (eq-or-lt_of_le h)
  where
    go : (x ≡ y) ⊎ (x < y) → magnitude x ≤ magnitude y
    go (inl e) = le_of_eq (ap magnitude e)
    go (inr l) = le_of_lt (magnitude_rises x y fx fy s l)

-- so bits are known by their sign and their magnitude
pub one_magnitude : (x y : ℕ) → Finite x → Finite y → negative x ≡ negative y → magnitude x ≡ magnitude y → x ≡ y
one_magnitude x y fx fy s e =
    let low : x < y → ⊥ = λ l. let m = magnitude_rises x y fx fy s l in omega (arith, m, e) in
    let high : y < x → ⊥ = λ l. let m = magnitude_rises y x fy fx (sym s) l in omega (arith, m, e) in
    omega (arith, low, high)

-- ---- what lies between two finite bits with one sign is finite with that sign

module _ (x z y : ℕ) (fx : Finite x) (fy : Finite y) (s : negative x ≡ negative y) (l : x < z) (h : z < y) where
  pub between_finite : Finite z
  between_finite =
      let half : x / 2 ^ 31 ≡ y / 2 ^ 31 = same_half x y fx fy s in
      record { cell = omega (arith, fy.cell); field = omega (arith, half, fy.field) }

  pub between_sign : negative x ≡ negative z
  between_sign = go (negative x) refl s
    where
      go : (t : Bool) → negative x ≡ t → t ≡ negative y → t ≡ negative z
      go true p q = sym (le-leb (2 ^ 31) z (omega (arith, leb-true)))
      go false p q = sym (lt-leb (2 ^ 31) z (omega (arith, leb-false (2 ^ 31) y (sym q))))
