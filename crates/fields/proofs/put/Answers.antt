-- Assumes nothing.
use Prim.Native.Nat.{ℕ, ◌+◌, ◌*◌, ◌/◌, ◌%◌}
use mathlib.Core.Path.{◌≡◌, sym, ap, ◌∙◌}
use native.Mathlib.Omega.{arith}
use Rattle.rules.specs.Lists.{splice}
use Rattle.rules.specs.Fields.{field, bits_of}
use Rattle.rules.proofs.Fields.{bits_of_length}
use Rattle.fields.proofs.Within.{written_told, inside_fits}
use Rattle.fields.proofs.put.Goals as goal

pub put_inside-requires : goal.put_inside-requires
put_inside-requires c =
    let a = c.args in
    omega (arith, inside_fits (bits_of a.out.now) a.at a.width (sym c.is_inside.ensures ∙ c.if-is_inside.true), bits_of_length a.out.now)

pub returns-then-is_inside : goal.returns-then-is_inside
returns-then-is_inside c =
    let a = c.args in
    let e : a.at / 8 * 8 + a.at % 8 ≡ a.at = omega arith in
    c.put_inside.ensures ∙ ap (λ (k : ℕ). splice (bits_of a.out.now) k (field a.width a.v)) e
    ∙ sym (written_told (bits_of a.out.now) a.at a.width a.v (sym c.is_inside.ensures ∙ c.if-is_inside.true))

pub returns-else-is_inside : goal.returns-else-is_inside
returns-else-is_inside c =
    let a = c.args in
    sym (written_told (bits_of a.out.now) a.at a.width a.v (sym c.is_inside.ensures ∙ c.if-is_inside.false))
