-- Each answer by its law. Assumes nothing.
use Rattle.std.proofs.Common.{sym, ◌∙◌, arith}
use Rattle.rules.specs.Table.{Program}
use Rattle.program.specs.Lent.{program_of}
use Rattle.rules.specs.State.{Memory, memory}
use Rattle.rules.proofs.Fair.{Sound}
use Rattle.rules.proofs.FairEffects.{sound_facts}
use Rattle.rules.proofs.SavedState.{save_length, save_broken, save_done}
use Rattle.saved.proofs.save.Goals as goal

pub returns-then-image-ne-STATE_SIZE : goal.returns-then-image-ne-STATE_SIZE
returns-then-image-ne-STATE_SIZE c =
    let a = c.args in
    sym (save_length (program_of a.p) a.r (memory a.bits.now a.tags.now a.history.now a.output.now) a.image.now c.if-image-ne-STATE_SIZE.true)

pub returns-then-not-is_sound : goal.returns-then-not-is_sound
returns-then-not-is_sound c =
    let a = c.args in
    let l = c.if-image-ne-STATE_SIZE.false in
    rw (c.fill.ensures.after (λ y e. e), l)
    (sym (save_broken (program_of a.p) a.r (memory a.bits.now a.tags.now a.history.now a.output.now) a.image.now l (sym c.if-not-is_sound.ensures)))

pub write_state-requires : goal.write_state-requires
write_state-requires c =
    let a = c.args in
    let p : Program = program_of a.p in
    let m : Memory = memory a.bits.now a.tags.now a.history.now a.output.now in
    let f : Sound p a.r m = sound_facts p a.r m (sym c.if-not-is_sound.ensures) in
    (f.tags, f.bits, f.few, f.written, omega (arith, f.written, f.shown), c.fill.ensures.after (λ y e. e) ∙ rw c.if-image-ne-STATE_SIZE.false)

pub returns : goal.returns
returns c =
    let a = c.args in
    let w = c.write_state.ensures in
    rw (w.told, w.bytes)
    (sym
    (save_done (program_of a.p) a.r (memory a.bits.now a.tags.now a.history.now a.output.now) a.image.now c.if-image-ne-STATE_SIZE.false
    (sym c.if-not-is_sound.ensures)))
