-- `floats::rounding::nearest_f` meets its contract. Assumes nothing.
use Rattle.std.proofs.Common.{◌≡◌, ℕ, ◌+◌, ◌^◌, ◌<◌, Bool, true, false, sym, ap, ◌∙◌, subst, arith}
use Rattle.rules.specs.Floats.{nearest_f}
use Rattle.nearest.specs.Nearest.{sign_bit, Rounded}
use Rattle.nearest.proofs.Placed.{zero_nearest}
use Rattle.nearest.proofs.Conversions.{nearest_rounded}
use Rattle.floats.proofs.rounding.nearest_f.Goals as goal

-- the bits that the rules say are the nearest value's
only_rounded : (minus : Bool) (a c r : ℕ) → 0 < c → r ≡ nearest_f minus a c → (r ≡ nearest_f minus a c) × Rounded minus a c r
only_rounded minus a c r h e = (e, subst (λ (x : ℕ). Rounded minus a c x) (sym e) (nearest_rounded minus a c h))

sign_room : (s : Bool) (r : ℕ) → r < 2 ^ 31 → sign_bit s + r < 2 ^ 32
sign_room true r h = omega arith
sign_room false r h = omega arith

pub returns-then-a-eq0 : goal.returns-then-a-eq0
returns-then-a-eq0 c =
    let a = c.args in (
      λ h.
          only_rounded a.minus a.a a.c c.sign_of.result h
          (c.sign_of.ensures ∙ zero_nearest a.minus a.c h ∙ ap (λ (x : ℕ). nearest_f a.minus x a.c) (sym c.if-a-eq0.true)),
      λ e. absurd (c.if-c-eq0.false e),
    )

pub returns : goal.returns
returns c =
    let a = c.args in (
      λ h.
          only_rounded a.minus a.a a.c (c.sign_of-2.result + c.magnitude_of.result) h
          (ap (λ (x : ℕ). x + c.magnitude_of.result) c.sign_of-2.ensures ∙ c.magnitude_of.ensures.1 a.minus),
      λ e. absurd (c.if-c-eq0.false e),
    )
