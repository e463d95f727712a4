-- `machine::families::on_divides` meets its contract. Assumes nothing.
use borrow.Author.Tests.{le-leb, ne_eqb}
use Rattle.machine.specs.Plan.{planned}
use Rattle.machine.proofs.families.on_divides.Goals as goal

pub returns-then-below-ne-INT : goal.returns-then-below-ne-INT
unfolding planned
returns-then-below-ne-INT c m = rw (le-leb _ _ c.requires.1, ne_eqb _ _ c.if-below-ne-INT.true)

pub returns-then-top-ne-INT : goal.returns-then-top-ne-INT
unfolding planned
returns-then-top-ne-INT c m = rw (le-leb _ _ c.requires.1, c.if-below-ne-INT.false, ne_eqb _ _ c.if-top-ne-INT.true)

pub returns-then-top-eq0 : goal.returns-then-top-eq0
unfolding planned
returns-then-top-eq0 c m = rw (le-leb _ _ c.requires.1, c.if-below-ne-INT.false, c.if-top-ne-INT.false, c.if-top-eq0.true)
