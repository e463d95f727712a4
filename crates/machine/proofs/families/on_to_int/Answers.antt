-- `machine::families::on_to_int` meets its contract. Assumes nothing.
use mathlib.Core.Path.{sym, ◌∙◌}
use borrow.Author.Tests.{le-leb, ne_eqb}
use Rattle.machine.specs.Plan.{planned}
use Rattle.machine.proofs.families.on_to_int.Goals as goal

pub returns-then-top-ne-FLOAT : goal.returns-then-top-ne-FLOAT
unfolding planned
returns-then-top-ne-FLOAT c m = rw (le-leb _ _ c.requires.1, ne_eqb _ _ c.if-top-ne-FLOAT.true)

pub returns-then-not-has_int : goal.returns-then-not-has_int
unfolding planned
returns-then-not-has_int c m = rw (le-leb _ _ c.requires.1, c.if-top-ne-FLOAT.false, sym c.has_int.ensures ∙ c.if-not-has_int.true)
