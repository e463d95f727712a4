-- `machine::families::on_sums` meets its contract. Assumes nothing.
use mathlib.Core.Path.{sym, ◌∙◌}
use borrow.Author.Tests.{le-leb, ne_eqb}
use Rattle.machine.specs.Plan.{planned}
use Rattle.machine.proofs.families.on_sums.Goals as goal

pub returns-then-top-ne-INT : goal.returns-then-top-ne-INT
unfolding planned
returns-then-top-ne-INT c z p q m = rw (le-leb _ _ c.requires.1, ne_eqb _ _ c.if-top-ne-INT.true)

pub returns-then-below-ne-MA : goal.returns-then-below-ne-MA
unfolding planned
returns-then-below-ne-MA c z p q m = rw (le-leb _ _ c.requires.1, c.if-top-ne-INT.false, ne_eqb _ _ c.if-below-eq-INT.false, ne_eqb _ _ c.if-below-ne-MA.true)

pub returns-then-not-in_word : goal.returns-then-not-in_word
unfolding planned
returns-then-not-in_word c z p q m = rw (le-leb _ _ c.requires.1, c.if-top-ne-INT.false, ne_eqb _ _ c.if-below-eq-INT.false, c.if-below-ne-MA.false, sym q ∙ c.if-not-in_word.true)
