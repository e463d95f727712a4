-- Assumes nothing.
use Prim.Native.Nat.{ℕ, ◌+◌, ◌*◌, ◌/◌, ◌%◌}
use mathlib.Core.Path.{◌≡◌, sym, ap, ◌∙◌}
use native.Mathlib.Omega.{arith}
use Rattle.rules.specs.Lists.{part}
use Rattle.rules.specs.Fields.{value, bits_of}
use Rattle.rules.proofs.Fields.{bits_of_length}
use Rattle.fields.proofs.Within.{read_told, inside_fits}
use Rattle.fields.proofs.get.Goals as goal

pub get_inside-requires : goal.get_inside-requires
get_inside-requires c =
    let a = c.args in
    omega (arith, inside_fits (bits_of a.image.now) a.at a.width (sym c.is_inside.ensures ∙ c.if-is_inside.true), bits_of_length a.image.now)

pub returns-then-is_inside : goal.returns-then-is_inside
returns-then-is_inside c =
    let a = c.args in
    let e : a.at / 8 * 8 + a.at % 8 ≡ a.at = omega arith in
    c.get_inside.ensures ∙ ap (λ (k : ℕ). value (part k a.width (bits_of a.image.now))) e
    ∙ sym (read_told (bits_of a.image.now) a.at a.width (sym c.is_inside.ensures ∙ c.if-is_inside.true))

pub returns-else-is_inside : goal.returns-else-is_inside
returns-else-is_inside c =
    let a = c.args in
    sym (read_told (bits_of a.image.now) a.at a.width (sym c.is_inside.ensures ∙ c.if-is_inside.false))
