-- `machine::plans::called` meets its contract. Assumes nothing.
use Prim.Native.Nat.{◌+◌, ◌-◌}
use mathlib.Core.Path.{refl}
use borrow.Author.Tests.{lt-ltb, le-ltb}
use Rattle.machine.specs.Plan.{planned}
use Rattle.machine.proofs.plans.called.Goals as goal

pub returns-then-r-at : goal.returns-then-r-at
unfolding planned
returns-then-r-at c m = let a = c.args in rw (le-ltb (a.r.sp - a.popped + 1) a.r.n c.if-r-at.true) refl

pub returns : goal.returns
unfolding planned
returns c m = let a = c.args in rw (lt-ltb (a.r.sp - a.popped + 1) a.r.n c.if-r-at.false) refl
