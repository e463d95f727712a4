-- The answers of `machine::step::step`: it is a run of one step. Assumes nothing.
use mathlib.Core.Path.{refl, sym, ◌∙◌}
use Rattle.program.specs.Lent.{program_of}
use Rattle.rules.specs.State.{memory}
use Rattle.rules.specs.declared.MachineRefusal.TheVariants.{AlreadyHalted}
use Rattle.machine.proofs.Steps.{judged_halted, step_broken, step_refuses}
use Rattle.machine.proofs.Once.{once_answer}
use Rattle.machine.proofs.step.step.Goals as goal

pub returns-then-not-sound : goal.returns-then-not-sound
returns-then-not-sound c =
    let a = c.args in
    let p = program_of a.p in
    let m = memory a.bits.now a.tags.now a.history.now a.output.now in
    sym (step_broken p a.r m (sym c.is_sound-sound.ensures ∙ c.if-not-sound.true))

pub returns-then-r-ne0 : goal.returns-then-r-ne0
returns-then-r-ne0 c =
    let a = c.args in
    let p = program_of a.p in
    let m = memory a.bits.now a.tags.now a.history.now a.output.now in
    step_refuses p a.r m (sym c.is_sound-sound.ensures ∙ c.if-not-sound.false) _ AlreadyHalted refl (judged_halted p a.r m c.if-r-ne0.true)

pub returns : goal.returns
returns c =
    let a = c.args in
    let p = program_of a.p in
    let m = memory a.bits.now a.tags.now a.history.now a.output.now in
    let good = sym c.is_sound-sound.ensures ∙ c.if-not-sound.false in
    once_answer p a.r m good c.if-r-ne0.false c.run_from.result _ _ _ _ _ c.run_from.ensures.output_after c.only_step.ensures
