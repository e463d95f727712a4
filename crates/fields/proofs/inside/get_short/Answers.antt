-- The field is a piece of the number in the bytes that it covers. Assumes nothing.
use Prim.Native.Nat.{ℕ, ◌+◌, ◌-◌, ◌*◌, ◌/◌, ◌%◌, ◌^◌}
use mathlib.Core.Path.{◌≡◌, ap, ap₂, ◌∙◌}
use native.Mathlib.Omega.{arith}
use Rattle.rules.specs.Lists.{part}
use Rattle.rules.specs.Fields.{value, bits_of}
use Rattle.fields.proofs.Pieces.{part_within}
use Rattle.fields.proofs.inside.get_short.Goals as goal

pub returns : goal.returns
returns c =
    let a = c.args in
    let bytes : ℕ = (a.start + a.width + 7) / 8 in
    let after : ℕ = bytes * 8 - a.start - a.width in
    let e : (a.from + bytes - a.from) * 8 ≡ a.start + a.width + after = omega arith in
    ap₂ (λ (low span : ℕ). c.get_bytes.result / low % span) c.power.ensures.0 c.power-2.ensures.0
    ∙ ap (λ (n : ℕ). n / 2 ^ after % 2 ^ a.width) (c.get_bytes.ensures ∙ ap (λ (k : ℕ). value (part (a.from * 8) k (bits_of a.image.now))) e)
    ∙ part_within a.image.now (a.from * 8) a.start a.width after (omega arith)
