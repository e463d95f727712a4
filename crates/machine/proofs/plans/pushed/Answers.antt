-- `machine::plans::pushed` meets its contract. Assumes nothing.
use Prim.Native.Nat.{◌+◌, ◌-◌}
use mathlib.Core.Path.{◌≡◌, refl}
use native.Mathlib.Omega.{arith}
use borrow.Author.Tests.{lt-ltb, le-ltb}
use Rattle.machine.specs.Plan.{planned}
use Rattle.machine.proofs.plans.pushed.Goals as goal

pub returns-then-r : goal.returns-then-r
unfolding planned
returns-then-r c m =
    let r = c.args.r in
    let none : r.sp - 0 ≡ r.sp = omega arith in
    rw (none, le-ltb (r.sp + 1) r.n c.if-r.true) refl

pub returns : goal.returns
unfolding planned
returns c m =
    let r = c.args.r in
    let none : r.sp - 0 ≡ r.sp = omega arith in
    rw (none, lt-ltb (r.sp + 1) r.n c.if-r.false) refl
