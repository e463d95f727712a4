-- The answers of `machine::run::take_step`. Assumes nothing.
use mathlib.Core.Path.{refl, sym, ap, ◌∙◌}
use native.Mathlib.Omega.{arith}
use lib.ListN.{length}
use Rattle.program.specs.Lent.{program_of}
use Rattle.rules.specs.State.{memory}
use Rattle.rules.specs.Step.{in_output, in_history, carried}
use Rattle.rules.specs.Answers.{Decision}
use Rattle.rules.specs.declared.MachineRefusal.TheVariants.{AtEnd}
use Rattle.machine.proofs.Steps.{small, live, placed, coded, fits, judged_end, step_refuses, step_carries}
use Rattle.machine.proofs.run.take_step.Goals as goal

pub returns-then-r-p : goal.returns-then-r-p
returns-then-r-p c =
    let a = c.args in
    let p = program_of a.p in
    let m = memory a.bits.now a.tags.now a.history.now a.output.now in
    step_refuses p a.r m c.requires.output_value _ AtEnd refl (judged_end p a.r m c.requires.halt_value c.if-r-p.true)

pub offset_bounds-p-r : goal.offset_bounds-p-r
offset_bounds-p-r c =
    let a = c.args in
    let s = small (program_of a.p) a.r (memory a.bits.now a.tags.now a.history.now a.output.now) c.requires.output_value in
    omega (arith, s.0)

pub bounds-p-r : goal.bounds-p-r
bounds-p-r c =
    let a = c.args in
    placed (program_of a.p) a.r (memory a.bits.now a.tags.now a.history.now a.output.now) c.requires.output_value c.requires.halt_value c.if-r-p.false

pub decide_at-d-requires : goal.decide_at-d-requires
decide_at-d-requires c =
    let a = c.args in
    let p = program_of a.p in
    let m = memory a.bits.now a.tags.now a.history.now a.output.now in
    let s = c.requires.output_value in
    coded p a.r m s c.requires.halt_value c.if-r-p.false

pub invariant_of-decide_at : goal.invariant_of-decide_at
invariant_of-decide_at c =
    let a = c.args in
    let p = program_of a.p in
    let m = memory a.bits.now a.tags.now a.history.now a.output.now in
    let s = c.requires.output_value in
    record { small = small p a.r m s; live = live p a.r m s }

pub carry-requires : goal.carry-requires
carry-requires c =
    let a = c.args in
    let p = program_of a.p in
    let m = memory a.bits.now a.tags.now a.history.now a.output.now in
    let s = c.requires.output_value in
    record {
      small = (small p a.r m s, live p a.r m s);
      fits = λ e q. fits p a.r m s c.requires.halt_value c.if-r-p.false e (sym c.decide_at-d.ensures ∙ q);
    }

pub returns : goal.returns
returns c =
    let a = c.args in
    let m = memory a.bits.now a.tags.now a.history.now a.output.now in
    c.carry.ensures
    ∙ ap (λ (z : Decision). carried a.r m (in_history a.r (in_output a.r (length a.output.now) z))) c.decide_at-d.ensures
    ∙ sym (step_carries (program_of a.p) a.r m c.requires.output_value c.requires.halt_value c.if-r-p.false)
