-- `machine::addresses::on_store_off` meets its contract. Assumes nothing.
use Prim.Native.Nat.{◌-◌}
use borrow.Author.Tests.{lt-leb, le-leb}
use Rattle.machine.specs.Plan.{planned}
use Rattle.machine.proofs.Reach.{frame_out, frame_below}
use Rattle.machine.proofs.addresses.on_store_off.Goals as goal

pub returns-then-r-lt1 : goal.returns-then-r-lt1
unfolding planned
returns-then-r-lt1 c m = rw (lt-leb _ _ c.if-r-lt1.true)

pub returns-in_default : goal.returns-in_default
unfolding planned
returns-in_default c m =
    let a = c.args in
    let leads = rw c.in-Some.is at c.moved_by.ensures in
    rw (le-leb _ _ c.if-r-lt1.false, frame_out a.r a.offset (a.r.sp - 1) c.in-Some.a leads c.if-a-r.false)

pub returns-in_default-2 : goal.returns-in_default-2
unfolding planned
returns-in_default-2 c m =
    let a = c.args in
    let leads = rw c.in_default.is at c.moved_by.ensures in
    rw (le-leb _ _ c.if-r-lt1.false, frame_below a.r a.offset (a.r.sp - 1) leads)
