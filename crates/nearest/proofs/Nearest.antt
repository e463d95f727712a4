-- The bits of lib.Ieee's `round` of a / c are those of the nearest binary32 value. Assumes nothing.
use mathlib.Core.Path.{◌≡◌, refl, sym, ap, ◌∙◌}
use mathlib.Core.Logic.{◌⊎◌, inl, inr, ◌≢◌}
use mathlib.Core.Bool.{Bool, true, false}
use Prim.Native.Nat.{ℕ, ◌*◌, ◌%◌, ◌^◌, ◌≤◌, ◌<◌}
use lib.Ieee.{inf, binary32, round, to_bits}
use lib.Ieee.Fits.{two, two-le_pos, round-fits}
use lib.Ieee.Order.{drop, kept}
use lib.Ieee.Scale.{grid}
use Rattle.rules.specs.Exact.{negative, scale, magnitude}
use Rattle.nearest.specs.Nearest.{Finite, AsNear, midpoint, infinity, IsNearest}
use Rattle.nearest.proofs.Order.{either_way}
use Rattle.nearest.proofs.Grid.{grid_beats, grid_tie}
use Rattle.nearest.proofs.Cell.{written_finite, written_sign, written_magnitude}
use Rattle.nearest.proofs.Parts.{parts}
use Rattle.nearest.proofs.Overflow.{round_over, round_under}
use Rattle.nearest.proofs.Parity.{kept_le, even_bits}

pub infinity_bits : (s : Bool) → to_bits binary32 (inf s) ≡ infinity s
unfolding to_bits
infinity_bits true = refl
infinity_bits false = refl

infinity_sign : (s : Bool) → negative (infinity s) ≡ s
infinity_sign true = refl
infinity_sign false = refl

module _ (s : Bool) (a c : ℕ) (C : 0 < c) where
  bits : ℕ
  bits = to_bits binary32 (round binary32 s a c)

  bits_over : midpoint * c ≤ a → bits ≡ infinity s
  unfolding bits
  bits_over h = ap (to_bits binary32) (round_over s a c C h) ∙ infinity_bits s

  module _ (h : a < midpoint * c) where
    bits_finite : Finite bits
    unfolding bits
    bits_finite = written_finite (round binary32 s a c) s (grid binary32 a c) (round-fits binary32 s a c) (round_under s a c C h)

    bits_sign : negative bits ≡ s
    unfolding bits
    bits_sign = written_sign (round binary32 s a c) s (grid binary32 a c) (round-fits binary32 s a c) (round_under s a c C h)

    bits_magnitude : magnitude bits ≡ grid binary32 a c
    unfolding bits
    bits_magnitude = written_magnitude (round binary32 s a c) s (grid binary32 a c) (round-fits binary32 s a c) (round_under s a c C h)

    bits_near : (y : ℕ) → Finite y → AsNear a c bits y
    bits_near y f =
        let p = parts y in
        rw (bits_magnitude, p.is) (grid_beats 24 (a * scale) c p.digits p.power (two-le_pos 24 (two binary32)) C p.few)

    bits_even : (y : ℕ) → Finite y → magnitude y ≢ magnitude bits → AsNear a c y bits → bits % 2 ≡ 0
    bits_even y f other t =
        let p = parts y in
        pick (grid_tie 24 (a * scale) c p.digits p.power (two-le_pos 24 (two binary32)) C p.few (rw (bits_magnitude, p.is) at t))
      where
        pick : ((parts y).digits * 2 ^ (parts y).power ≡ grid binary32 a c) ⊎ (kept 24 (a * scale) c % 2 ≡ 0) → bits % 2 ≡ 0
        pick (inl e) = absurd (other ((parts y).is ∙ e ∙ sym bits_magnitude))
        pick (inr e) = even_bits bits (kept 24 (a * scale) c) (drop 24 (a * scale) c) (kept_le 24 (a * scale) c) e bits_magnitude

  any_sign : (midpoint * c ≤ a) ⊎ (a < midpoint * c) → negative bits ≡ s
  any_sign (inl h) = ap negative (bits_over h) ∙ infinity_sign s
  any_sign (inr h) = bits_sign h

pub nearest_value : (s : Bool) (a c : ℕ) → 0 < c → IsNearest s a c (to_bits binary32 (round binary32 s a c))
unfolding bits
nearest_value s a c C = record {
  sign = any_sign s a c C (either_way (midpoint * c) a);
  over = bits_over s a c C;
  under = bits_finite s a c C;
  near = bits_near s a c C;
  even = bits_even s a c C;
}

-- below the midpoint their magnitude is what `round` keeps
pub nearest_magnitude : (s : Bool) (a c : ℕ) → 0 < c → a < midpoint * c → magnitude (to_bits binary32 (round binary32 s a c)) ≡ grid binary32 a c
unfolding bits
nearest_magnitude s a c C h = bits_magnitude s a c C h
