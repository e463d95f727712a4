-- What a cell's bits stand for, and lib.Ieee: reading finite bits gives the value `magnitude` / `scale` with the bits' sign, and the bits of a
-- finite value that the format holds are finite, with its sign and its magnitude. Assumes nothing.
use mathlib.Core.Path.{◌≡◌, refl, sym, ap, ◌∙◌, subst}
use mathlib.Core.Bool.{Bool, true, false, cond}
use Prim.Native.Nat.{ℕ, zero, suc, ◌+◌, ◌/◌, ◌^◌, ◌<◌}
use native.Mathlib.Nat.{le_of_suc-le-suc, mul-one, mod-lt, lt_irrefl, eq_of_mul-eq-mul_right}
use lib.Dec.{T, eqb, lit<}
use lib.Pow.{pow_pos, field}
use lib.Arith.{lt_of_le-ne}
use borrow.Author.Tests.{ne_eqb, eqb-false}
use lib.Ieee.{Float, nan, inf, fin, binary32, down, odd, fits, of_fields, of_bits, to_bits}
use lib.Ieee.Bits.{of_bits-to_bits, to_bits-lt}
use lib.Ieee.Exact.{HasValue, odd_sign}
use lib.Ieee.Fits.{down_pos}
use lib.Ieee.Scale.{finite}
use Rattle.rules.specs.Exact.{negative, exponent, fraction, scale, scaled, magnitude}
use Rattle.nearest.specs.Nearest.{Finite}

-- ---- reading

of_fields_value : (s : Bool) (e f : ℕ) → e < 255 → HasValue (of_fields binary32 s e f) s (scaled e f) scale
unfolding of_fields scaled
of_fields_value s zero f h = subst (λ (m : ℕ). HasValue (odd 24 s f 0 149) s m scale) (mul-one f) (odd_sign 24 s f 0 149)
of_fields_value s (suc e) f h =
    rw (ne_eqb (suc e) 255 (λ (p : suc e ≡ 255). lt_irrefl 255 (subst (λ (x : ℕ). x < 255) p h))) (odd_sign 24 s (2 ^ 23 + f) e 149)

of_bits_fields : (b : ℕ) → of_bits binary32 b ≡ of_fields binary32 (negative b) (exponent b) (fraction b)
unfolding of_bits
of_bits_fields b = ap (λ (e : ℕ). of_fields binary32 (negative b) e (fraction b)) (field b 8 23)

pub value_read : (b : ℕ) → Finite b → HasValue (of_bits binary32 b) (negative b) (magnitude b) scale
unfolding magnitude
value_read b h = rw (of_bits_fields b) (of_fields_value (negative b) (exponent b) (fraction b) h.field)

-- ---- writing

of_fields_finite : (s : Bool) (e f : ℕ) → e < 256 → T (finite (of_fields binary32 s e f)) → e < 255
unfolding of_fields
of_fields_finite s zero f h t = lit< tt
of_fields_finite s (suc e) f h t = go (eqb (suc e) 255) (eqb-false (suc e) 255) t
  where
    nowhere : (b : Bool) → T (finite (cond b (inf s) nan)) → ⊥
    nowhere true t = t
    nowhere false t = t

    go : (b : Bool) → (b ≡ false → suc e ≡ 255 → ⊥) → T (finite (cond b (cond (eqb f 0) (inf s) nan) (odd 24 s (2 ^ 23 + f) e 149))) → suc e < 255
    go true n t = absurd (nowhere (eqb f 0) t)
    go false n t = lt_of_le-ne (le_of_suc-le-suc h) (n refl)

pub value_finite : (x : Float) (s : Bool) (m l : ℕ) → HasValue x s m l → T (finite x)
value_finite nan s m l v = v
value_finite (inf t) s m l v = v
value_finite (fin t n e) s m l v = tt

-- a value has one sign and, over one whole number, one size
same_sign : (x : Float) (s t : Bool) (m n l : ℕ) → HasValue x s m l → HasValue x t n l → s ≡ t
same_sign nan s t m n l v w = absurd v
same_sign (inf u) s t m n l v w = absurd v
same_sign (fin u k e) s t m n l v w = sym v.0 ∙ w.0

same_size : (x : Float) (s t : Bool) (m n l : ℕ) → HasValue x s m l → HasValue x t n l → m ≡ n
same_size nan s t m n l v w = absurd v
same_size (inf u) s t m n l v w = absurd v
same_size (fin u k e) s t m n l v w = eq_of_mul-eq-mul_right (down e) (down_pos e) m n (sym v.1 ∙ w.1)

-- bits whose value is finite are finite in the sense of the fields
pub read_finite : (b : ℕ) → b < 2 ^ 32 → T (finite (of_bits binary32 b)) → Finite b
read_finite b h t = record {
  cell = h;
  field = of_fields_finite (negative b) (exponent b) (fraction b) (mod-lt (b / 2 ^ 23) (pow_pos 8)) (rw (of_bits_fields b) at t);
}

module _ (x : Float) (s : Bool) (m : ℕ) (holds : T (fits binary32 x)) (v : HasValue x s m scale) where
  pub written_finite : Finite (to_bits binary32 x)
  written_finite = read_finite (to_bits binary32 x) (to_bits-lt binary32 x holds) (rw (of_bits-to_bits binary32 x holds) (value_finite x s m scale v))

  read_back : HasValue x (negative (to_bits binary32 x)) (magnitude (to_bits binary32 x)) scale
  read_back =
      subst (λ (y : Float). HasValue y (negative (to_bits binary32 x)) (magnitude (to_bits binary32 x)) scale) (of_bits-to_bits binary32 x holds)
      (value_read (to_bits binary32 x) written_finite)

  pub written_sign : negative (to_bits binary32 x) ≡ s
  written_sign = same_sign x (negative (to_bits binary32 x)) s (magnitude (to_bits binary32 x)) m scale read_back v

  pub written_magnitude : magnitude (to_bits binary32 x) ≡ m
  written_magnitude = same_size x (negative (to_bits binary32 x)) s (magnitude (to_bits binary32 x)) m scale read_back v
