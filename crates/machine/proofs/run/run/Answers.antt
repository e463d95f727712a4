-- The answers of `machine::run::run`: too long, broken, or the steps of the run. Assumes nothing.
use Prim.Native.Nat.{zero-le}
use mathlib.Core.Path.{sym, ◌∙◌}
use borrow.Author.Tests.{le-leb, lt-leb}
use Rattle.program.specs.Lent.{program_of}
use Rattle.rules.specs.State.{memory}
use Rattle.rules.proofs.Runs.{run_long, run_broken, run_enter, both}
use Rattle.machine.proofs.run.run.Goals as goal

pub returns-then-limit-gt-MAX_LIMIT : goal.returns-then-limit-gt-MAX_LIMIT
returns-then-limit-gt-MAX_LIMIT c =
    let a = c.args in
    let p = program_of a.p in
    let m = memory a.bits.now a.tags.now a.history.now a.output.now in
    let e = both (sym (run_long p a.limit a.r m (lt-leb _ _ c.if-limit-gt-MAX_LIMIT.true))) in
    rw c.ended.ensures (record { value = e.0; output_after = e.1; steps_le_limit = zero-le })

pub returns-then-not-sound : goal.returns-then-not-sound
returns-then-not-sound c =
    let a = c.args in
    let p = program_of a.p in
    let m = memory a.bits.now a.tags.now a.history.now a.output.now in
    let e = both (sym (run_broken p a.limit a.r m (le-leb _ _ c.if-limit-gt-MAX_LIMIT.false) (sym c.is_sound-sound.ensures ∙ c.if-not-sound.true))) in
    rw c.ended-then-not-sound.ensures (record { value = e.0; output_after = e.1; steps_le_limit = zero-le })

pub returns : goal.returns
returns c =
    let a = c.args in
    let p = program_of a.p in
    let m = memory a.bits.now a.tags.now a.history.now a.output.now in
    let done = c.run_from.ensures in
    let e = both (done.output_after ∙ sym (run_enter p a.limit a.r m (le-leb _ _ c.if-limit-gt-MAX_LIMIT.false) (sym c.is_sound-sound.ensures ∙ c.if-not-sound.false))) in
    record { value = e.0; output_after = e.1; steps_le_limit = done.steps_le_limit }
