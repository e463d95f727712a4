-- `machine::plans::moved` meets its contract. Assumes nothing.
use Prim.Native.Nat.{◌-◌}
use mathlib.Core.Path.{◌≡◌, refl}
use native.Mathlib.Omega.{arith}
use borrow.Author.Tests.{lt-ltb, le-ltb}
use Rattle.machine.specs.Plan.{planned}
use Rattle.machine.proofs.plans.moved.Goals as goal

pub returns-then-a-popped : goal.returns-then-a-popped
unfolding planned
returns-then-a-popped c m =
    let a = c.args in
    let none : a.a.0 - a.popped ≡ 0 = omega (arith, c.if-a-popped.true) in
    rw (none, lt-ltb a.a.0 a.r.n (omega (arith, c.if-a-popped.true, c.requires))) refl

pub returns-then-r-a : goal.returns-then-r-a
unfolding planned
returns-then-r-a c m = let a = c.args in rw (le-ltb a.a.0 a.r.n c.if-r-a.true) refl

pub returns : goal.returns
unfolding planned
returns c m = let a = c.args in rw (lt-ltb a.a.0 a.r.n c.if-r-a.false) refl
