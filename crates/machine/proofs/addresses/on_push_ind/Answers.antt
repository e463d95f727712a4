-- `machine::addresses::on_push_ind` meets its contract. Assumes nothing.
use mathlib.Core.Path.{sym, ◌∙◌}
use borrow.Author.Tests.{lt-leb, le-leb, ne_eqb}
use Rattle.machine.specs.Plan.{planned}
use Rattle.machine.proofs.addresses.on_push_ind.Goals as goal

pub returns-then-r-lt1 : goal.returns-then-r-lt1
unfolding planned
returns-then-r-lt1 c m = rw (lt-leb _ _ c.if-r-lt1.true)

pub returns-then-top-ne-MA : goal.returns-then-top-ne-MA
unfolding planned
returns-then-top-ne-MA c m = rw (le-leb _ _ c.if-r-lt1.false, ne_eqb _ _ (rw c.top-top.ensures at c.if-top-ne-MA.true))

pub returns-then-not-inside : goal.returns-then-not-inside
unfolding planned
returns-then-not-inside c m =
    rw (
      le-leb _ _ c.if-r-lt1.false,
      rw c.top-top.ensures at c.if-top-ne-MA.false,
      rw c.top-top.ensures at (sym c.inside.ensures ∙ c.if-not-inside.true),
    )
