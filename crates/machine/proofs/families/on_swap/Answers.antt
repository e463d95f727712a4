-- `machine::families::on_swap` meets its contract. Assumes nothing.
use borrow.Author.Tests.{lt-leb}
use Rattle.machine.specs.Plan.{planned}
use Rattle.machine.proofs.families.on_swap.Goals as goal

pub returns-then-r-lt2 : goal.returns-then-r-lt2
unfolding planned
returns-then-r-lt2 c m = rw (lt-leb _ _ c.if-r-lt2.true)
