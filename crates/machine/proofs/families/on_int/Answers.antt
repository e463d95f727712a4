-- `machine::families::on_int` meets its contract. Assumes nothing.
use borrow.Author.Tests.{le-leb, ne_eqb}
use Rattle.machine.specs.Plan.{planned}
use Rattle.machine.proofs.families.on_int.Goals as goal

pub returns-then-top-ne-INT : goal.returns-then-top-ne-INT
unfolding planned
returns-then-top-ne-INT c m = rw (le-leb _ _ c.requires.1, ne_eqb _ _ c.if-top-ne-INT.true)
