-- `machine::addresses::on_push_off` meets its contract. Assumes nothing.
use Rattle.machine.specs.Plan.{planned}
use Rattle.machine.proofs.Reach.{frame_out, frame_below}
use Rattle.machine.proofs.addresses.on_push_off.Goals as goal

pub returns-in_default : goal.returns-in_default
unfolding planned
returns-in_default c m =
    let s = c.args.s in
    let leads = rw c.in-Some.is at c.moved_by.ensures in
    rw (frame_out s.r c.args.offset s.r.sp c.in-Some.a leads c.if-a-r.false)

pub returns-in_default-2 : goal.returns-in_default-2
unfolding planned
returns-in_default-2 c m =
    let s = c.args.s in
    let leads = rw c.in_default.is at c.moved_by.ensures in
    rw (frame_below s.r c.args.offset s.r.sp leads)
