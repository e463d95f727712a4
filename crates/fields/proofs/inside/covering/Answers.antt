-- Three numbers side by side. Assumes nothing.
use Prim.Native.Nat.{ℕ, ◌+◌, ◌-◌, ◌*◌, ◌/◌, ◌%◌, ◌^◌, ◌<◌, ◌≤◌}
use mathlib.Core.Path.{◌≡◌, sym, ap, ap₂, ◌∙◌, subst}
use mathlib.Core.List.{List, ◌++◌}
use native.Mathlib.Omega.{arith}
use lib.Pow.{shr_lt}
use Rattle.rules.specs.Fields.{field}
use Rattle.fields.proofs.Pieces.{side_by_side, high_fits, whole_fits, first_bits, last_bits}
use Rattle.fields.proofs.inside.covering.Goals as goal
use Rattle.fields.proofs.inside.covering.Goals.{After-power-low}

-- the bits before are no more than they are
head : (first before : ℕ) {power : ℕ} → first < 2 ^ 8 → before ≤ 8 → power ≡ 2 ^ (8 - before) → first / power < 2 ^ before
head first before hf hb ep =
    let e : 8 ≡ before + (8 - before) = omega arith in
    subst (λ (k : ℕ). first / k < 2 ^ before) (sym ep) (shr_lt before (8 - before) (subst (λ (k : ℕ). first < 2 ^ k) e hf))

-- the first two numbers, and all three, are numbers of 64 bits
high : (c : After-power-low) → c.args.first / c.power.result * c.power-span.result + c.args.v % c.power-span.result < 2 ^ 64
high c =
    let a = c.args in
    high_fits a.before a.width a.after (a.first / c.power.result) a.v a.last c.power-span.ensures.0 c.power-low.ensures.0
    (head a.first a.before (omega arith) (omega arith) c.power.ensures.0) (omega arith)

whole : (c : After-power-low) → (c.args.first / c.power.result * c.power-span.result + c.args.v % c.power-span.result) * c.power-low.result + c.args.last % c.power-low.result < 2 ^ 64
whole c =
    let a = c.args in
    whole_fits a.before a.width a.after (a.first / c.power.result) a.v a.last c.power-span.ensures.0 c.power-low.ensures.0
    (head a.first a.before (omega arith) (omega arith) c.power.ensures.0) (omega arith)

pub overflow_mul-result : goal.overflow_mul-result
overflow_mul-result c = omega (arith, high c)

pub overflow_add-result : goal.overflow_add-result
overflow_add-result c = omega (arith, high c)

pub overflow_mul-result-2 : goal.overflow_mul-result-2
overflow_mul-result-2 c = omega (arith, whole c)

pub overflow_add-result-2 : goal.overflow_add-result-2
overflow_add-result-2 c = omega (arith, whole c)

pub returns : goal.returns
returns c =
    let a = c.args in
    side_by_side a.before a.width a.after _ a.v a.last c.power-span.ensures.0 c.power-low.ensures.0
    ∙ ap₂ (λ (p s : List ℕ). p ++ (field a.width a.v ++ s))
    (ap (λ (k : ℕ). field a.before (a.first / k)) c.power.ensures.0 ∙ first_bits a.before a.first (omega arith))
    (last_bits a.after a.last (omega arith))
