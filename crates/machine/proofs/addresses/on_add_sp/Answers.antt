-- `machine::addresses::on_add_sp` meets its contract. Assumes nothing.
use mathlib.Core.Path.{sym, ap}
use Rattle.machine.proofs.Reach.{add_below}
use Rattle.rules.specs.Step.{in_stack}
use Rattle.machine.specs.Plan.{planned}
use Rattle.machine.proofs.addresses.on_add_sp.Goals as goal

pub returns-in-None : goal.returns-in-None
unfolding planned
returns-in-None c m =
    let a = c.args in
    ap (in_stack a.r) (sym (add_below a.r a.offset (rw c.in-None.is at c.moved_by.ensures)))
