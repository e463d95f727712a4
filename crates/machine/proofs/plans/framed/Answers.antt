-- `machine::plans::framed` meets its contract. Assumes nothing.
use Prim.Native.Nat.{◌-◌}
use mathlib.Core.Path.{refl}
use native.Mathlib.Omega.{arith}
use borrow.Author.Tests.{lt-ltb}
use Rattle.machine.specs.Plan.{planned}
use Rattle.machine.proofs.plans.framed.Goals as goal

pub returns : goal.returns
unfolding planned
returns c m =
    let r = c.args.r in
    rw (lt-ltb (r.sp - 1) r.n (omega (arith, c.requires))) refl
