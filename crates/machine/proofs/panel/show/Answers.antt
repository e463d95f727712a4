-- The answers of `machine::panel::show`: 12, or as the commit answers, with the byte behind it. Assumes nothing.
use Rattle.rules.specs.State.{memory}
use Rattle.machine.proofs.Shows.{show_full, show_refused, show_next}
use Rattle.machine.proofs.panel.show.Goals as goal

pub returns-then-output-written : goal.returns-then-output-written
returns-then-output-written c =
    let a = c.args in
    show_full a.r a.sp a.character (memory a.bits.now a.tags.now a.history.now a.output.now) c.if-output-written.true

pub returns-in_default : goal.returns-in_default
returns-in_default c =
    let a = c.args in
    rw c.in_default.is
    (show_refused a.r a.sp a.character (memory a.bits.now a.tags.now a.history.now a.output.now) c.if-output-written.false c.shows.ensures
    c.commit-next.result c.in_default.field-0 c.in_default.is _ _ _ (c.commit-next.ensures a.output.now))

pub returns-in-Next : goal.returns-in-Next
returns-in-Next c =
    let a = c.args in
    rw c.in-Next.is
    (show_next a.r a.sp a.character (memory a.bits.now a.tags.now a.history.now a.output.now) c.if-output-written.false c.shows.ensures
    c.commit-next.result c.in-Next.field-0 c.in-Next.is _ _ _ (c.commit-next.ensures a.output.now))
