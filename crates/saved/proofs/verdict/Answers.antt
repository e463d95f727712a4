-- Each answer by its law. Assumes nothing.
use Rattle.std.proofs.Common.{sym}
use Rattle.std.proofs.lemmas.Result.{err_from_is_err_and}
use Rattle.rules.specs.Table.{Program}
use Rattle.program.specs.Lent.{program_of}
use Rattle.rules.specs.State.{Memory, memory}
use Rattle.rules.proofs.SavedState.{load_entry}
use Rattle.saved.proofs.Verdicts.{taken_bits, taken_tags, not_judged, not_padded, taken, taken_written}
use Rattle.saved.proofs.verdict.Goals as goal

pub returns-in_err-saved : goal.returns-in_err-saved
returns-in_err-saved c =
    let a = c.args in
    let p = err_from_is_err_and c.from_residual.result c.from_residual.ensures.1 in
    rw (p.1, p.2) (load_entry a.image.now (program_of a.p) (memory a.bits.now a.tags.now a.history.now a.output.now) _ (rw c.of.ensures at c.in_err-saved.ensures))

pub returns-then-not-is_sound : goal.returns-then-not-is_sound
returns-then-not-is_sound c =
    let a = c.args in
    let h = rw c.of.ensures at c.in_ok-saved.ensures in
    not_judged a.image.now (program_of a.p) (memory a.bits.now a.tags.now a.history.now a.output.now) h.2 c.in_ok-saved.saved.registers h.1
    (rw h.0 at (sym c.if-not-is_sound.ensures))

pub returns-then-not-is_padded : goal.returns-then-not-is_padded
returns-then-not-is_padded c =
    let a = c.args in
    let h = rw c.of.ensures at c.in_ok-saved.ensures in
    not_padded a.image.now (program_of a.p) (memory a.bits.now a.tags.now a.history.now a.output.now) h.2 c.in_ok-saved.saved.registers h.1
    (rw h.0 at (sym c.if-not-is_sound.ensures)) (rw h.0 at (sym c.if-not-is_padded.ensures))

pub returns : goal.returns
returns c =
    let a = c.args in
    let p : Program = program_of a.p in
    let m : Memory = memory a.bits.now a.tags.now a.history.now a.output.now in
    let r = c.in_ok-saved.saved.registers in
    let h = rw c.of.ensures at c.in_ok-saved.ensures in
    let judged = rw h.0 at (sym c.if-not-is_sound.ensures) in (
      h.0,
      taken_bits a.image.now p m h.2 r h.1,
      taken_tags a.image.now p m h.2 r h.1,
      taken_written a.image.now p m h.2 r h.1 judged,
      taken a.image.now p m h.2 r h.1 judged (rw h.0 at (sym c.if-not-is_padded.ensures)),
    )
