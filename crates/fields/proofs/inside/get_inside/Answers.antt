-- A wide field is its high bits, and behind them its low ones. Assumes nothing.
use Prim.Native.Nat.{ℕ, ◌+◌, ◌-◌, ◌*◌, ◌/◌, ◌%◌, ◌^◌}
use mathlib.Core.Path.{◌≡◌, sym, ap, ap₂, ◌∙◌}
use mathlib.Core.List.{List}
use native.Mathlib.Omega.{arith}
use Rattle.rules.specs.Lists.{part}
use Rattle.rules.specs.Fields.{value, bits_of}
use Rattle.rules.proofs.Fields.{bits_of_length}
use Rattle.fields.proofs.Pieces.{part_more, more_fits}
use Rattle.fields.proofs.inside.get_inside.Goals as goal

pub overflow_mul-result : goal.overflow_mul-result
overflow_mul-result c =
    let a = c.args in
    omega (arith, c.get_short-2.ensures, more_fits a.image.now (a.from * 8 + a.start) (a.width - 32) 0 32 (omega arith))

pub overflow_add-result : goal.overflow_add-result
overflow_add-result c =
    let a = c.args in
    let end : ℕ = a.start + (a.width - 32) in
    omega (
      arith,
      c.get_short-2.ensures,
      c.get_short-3.ensures,
      more_fits a.image.now (a.from * 8 + a.start) (a.width - 32) ((a.from + end / 8) * 8 + end % 8) 32 (omega arith),
    )

pub returns : goal.returns
returns c =
    let a = c.args in
    let l : List ℕ = bits_of a.image.now in
    let at : ℕ = a.from * 8 + a.start in
    let high : ℕ = a.width - 32 in
    let end : ℕ = a.start + high in
    let behind : (a.from + end / 8) * 8 + end % 8 ≡ at + high = omega arith in
    let both : high + 32 ≡ a.width = omega arith in
    ap₂ (λ (x y : ℕ). x * 2 ^ 32 + y) c.get_short-2.ensures (c.get_short-3.ensures ∙ ap (λ (k : ℕ). value (part k 32 l)) behind)
    ∙ sym (part_more l at high 32 (omega (arith, bits_of_length a.image.now)))
    ∙ ap (λ (w : ℕ). value (part at w l)) both
