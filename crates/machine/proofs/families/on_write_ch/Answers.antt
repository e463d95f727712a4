-- `machine::families::on_write_ch` meets its contract. Assumes nothing.
use borrow.Author.Tests.{le-leb, ne_eqb}
use Rattle.machine.specs.Plan.{planned}
use Rattle.machine.proofs.families.on_write_ch.Goals as goal

pub returns-then-top-ne-CH : goal.returns-then-top-ne-CH
unfolding planned
returns-then-top-ne-CH c m = rw (le-leb _ _ c.requires.1, ne_eqb _ _ c.if-top-ne-CH.true)
