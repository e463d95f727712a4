-- A wide field is its high bits, and behind them its low ones. Assumes nothing.
use Prim.Native.Nat.{ℕ, ◌+◌, ◌-◌, ◌*◌, ◌/◌, ◌%◌}
use mathlib.Core.Path.{◌≡◌, ap, ap₂, ◌∙◌}
use mathlib.Core.List.{List}
use native.Mathlib.Omega.{arith}
use Rattle.rules.specs.Lists.{splice}
use Rattle.rules.specs.Fields.{field, bits_of}
use Rattle.rules.proofs.Fields.{bits_of_length}
use Rattle.fields.proofs.Pieces.{put_halves}
use Rattle.fields.proofs.inside.put_inside.Goals as goal

pub returns : goal.returns
returns c =
    let a = c.args in
    let l : List ℕ = bits_of a.out.now in
    let at : ℕ = a.from * 8 + a.start in
    let high : ℕ = a.width - 32 in
    let end : ℕ = a.start + high in
    let behind : (a.from + end / 8) * 8 + end % 8 ≡ at + high = omega arith in
    let both : high + 32 ≡ a.width = omega arith in
    c.put_short-3.ensures
    ∙ ap₂ (λ (m : List ℕ) (k : ℕ). splice m k (field 32 a.v)) c.put_short-2.ensures behind
    ∙ put_halves l at high 32 a.v (omega (arith, bits_of_length a.out.now))
    ∙ ap (λ (w : ℕ). splice l at (field w a.v)) both
