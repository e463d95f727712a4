-- `machine::addresses::on_store_ind` meets its contract. Assumes nothing.
use mathlib.Core.Path.{sym, ap, ◌∙◌}
use borrow.Author.Tests.{lt-leb, le-leb, ne_eqb}
use Rattle.rules.specs.declared.Cell.{Cell}
use Rattle.machine.specs.Plan.{planned}
use Rattle.machine.proofs.addresses.on_store_ind.Goals as goal

pub returns-then-r-lt2 : goal.returns-then-r-lt2
unfolding planned
returns-then-r-lt2 c m = rw (lt-leb _ _ c.if-r-lt2.true)

pub returns-then-below-ne-MA : goal.returns-then-below-ne-MA
unfolding planned
returns-then-below-ne-MA c m =
    let below = c.second-below.ensures in
    let tag = sym (ap (λ (z : Cell). z.tag) below) in
    rw (le-leb _ _ c.if-r-lt2.false, tag, ne_eqb _ _ c.if-below-ne-MA.true)

pub returns-then-not-inside : goal.returns-then-not-inside
unfolding planned
returns-then-not-inside c m =
    let below = c.second-below.ensures in
    let tag = sym (ap (λ (z : Cell). z.tag) below) in
    let bits = sym (ap (λ (z : Cell). z.bits) below) in
    rw (le-leb _ _ c.if-r-lt2.false, tag, c.if-below-ne-MA.false, bits, sym c.inside.ensures ∙ c.if-not-inside.true)
