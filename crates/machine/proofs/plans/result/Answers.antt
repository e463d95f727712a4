-- `machine::plans::result` meets its contract. Assumes nothing.
use Prim.Native.Nat.{◌+◌, ◌-◌}
use mathlib.Core.Path.{refl}
use native.Mathlib.Omega.{arith}
use borrow.Author.Tests.{lt-ltb}
use Rattle.machine.specs.Plan.{planned}
use Rattle.machine.proofs.plans.result.Goals as goal

pub returns : goal.returns
unfolding planned
returns c m =
    let a = c.args in
    rw (lt-ltb (a.r.sp - a.popped + 1) a.r.n (omega (arith, c.requires))) refl
