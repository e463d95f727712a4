-- `machine::families::on_compare_floats` meets its contract. Assumes nothing.
use mathlib.Core.Path.{sym, ◌∙◌}
use borrow.Author.Tests.{le-leb, ne_eqb}
use Rattle.machine.specs.Plan.{planned}
use Rattle.machine.proofs.families.on_compare_floats.Goals as goal

pub returns-then-below-ne-FLOAT : goal.returns-then-below-ne-FLOAT
unfolding planned
returns-then-below-ne-FLOAT c m = rw (le-leb _ _ c.requires.1, ne_eqb _ _ c.if-below-ne-FLOAT.true)

pub returns-then-top-ne-FLOAT : goal.returns-then-top-ne-FLOAT
unfolding planned
returns-then-top-ne-FLOAT c m = rw (le-leb _ _ c.requires.1, c.if-below-ne-FLOAT.false, ne_eqb _ _ c.if-top-ne-FLOAT.true)

pub returns-then-unordered : goal.returns-then-unordered
unfolding planned
returns-then-unordered c m = rw (le-leb _ _ c.requires.1, c.if-below-ne-FLOAT.false, c.if-top-ne-FLOAT.false, sym c.unordered.ensures ∙ c.if-unordered.true)
