-- `machine::families::on_jsr_ind` meets its contract. Assumes nothing.
use borrow.Author.Tests.{le-leb, ne_eqb}
use Rattle.machine.specs.Plan.{planned}
use Rattle.machine.proofs.families.on_jsr_ind.Goals as goal

pub returns-then-top-ne-PA : goal.returns-then-top-ne-PA
unfolding planned
returns-then-top-ne-PA c m = rw (le-leb _ _ c.requires.1, ne_eqb _ _ c.if-top-ne-PA.true)
