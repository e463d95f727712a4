-- What is left of the goals of `operands::decimals::nearest_decimal`: the number of all digits, and that it has room. Assumes nothing.
use mathlib.Core.Path.{refl, ap₂, ◌∙◌}
use native.Mathlib.Nat.{one-le-pow}
use native.Mathlib.Omega.{arith}
use Rattle.rules.specs.Floats.{nearest_f}
use Rattle.operands.proofs.Points.{joined_is, joined_room}
use Rattle.operands.proofs.decimals.nearest_decimal.Goals as goal

pub overflow_mul-n : goal.overflow_mul-n
overflow_mul-n c = omega (arith, joined_room c.args.whole.now c.args.after.now c.numeral_of.ensures c.pow-scale.ensures refl c.requires.whole_digits c.requires.after_digits c.requires.few)

pub overflow_add-n : goal.overflow_add-n
overflow_add-n c = omega (arith, joined_room c.args.whole.now c.args.after.now c.numeral_of.ensures c.pow-scale.ensures c.numeral_of-2.ensures c.requires.whole_digits c.requires.after_digits c.requires.few)

pub overflow_cast-n : goal.overflow_cast-n
overflow_cast-n c = omega (arith, joined_room c.args.whole.now c.args.after.now c.numeral_of.ensures c.pow-scale.ensures c.numeral_of-2.ensures c.requires.whole_digits c.requires.after_digits c.requires.few)

pub returns : goal.returns
returns c =
    (c.nearest_f.ensures.0 (rw c.pow-scale.ensures (one-le-pow _ 10 (omega arith)))).0
    ∙ ap₂ (nearest_f c.args.minus) (joined_is c.args.whole.now c.args.after.now c.numeral_of.ensures c.pow-scale.ensures c.numeral_of-2.ensures) c.pow-scale.ensures
