-- The answers of `machine::carry::carry`, plan by plan. Assumes nothing.
use mathlib.Core.Path.{refl, ◌∙◌}
use native.Mathlib.Omega.{arith}
use Rattle.machine.proofs.Carries.{fits_as, carried_by, carried_as, carried_refused}
use Rattle.machine.proofs.carry.carry.Goals as goal

pub pushes-requires : goal.pushes-requires
pushes-requires c =
    let a = c.args in
    let o = fits_as a.r a.d a.bits.now a.tags.now a.history.now c.in-Ok-Push.is (rw c.in-Ok-Push.is at c.in-Ok-Push.field-0-is) refl c.requires.fits in
    (c.requires.small.0, omega (arith, o.block, o.tagged, o.fields.few))

pub commit-requires : goal.commit-requires
commit-requires c = let a = c.args in fits_as a.r a.d a.bits.now a.tags.now a.history.now c.in-Ok-Push.is (rw c.in-Ok-Push.is at c.in-Ok-Push.field-0-is) c.pushes.ensures c.requires.fits

pub returns-in-Ok-Push : goal.returns-in-Ok-Push
returns-in-Ok-Push c =
    let a = c.args in
    carried_as a.r a.d a.bits.now a.tags.now a.history.now a.output.now _ _ _ _ c.in-Ok-Push.is (rw c.in-Ok-Push.is at c.in-Ok-Push.field-0-is) c.pushes.ensures refl (c.commit.ensures a.output.now)

pub commit-requires-in-Ok-Jump : goal.commit-requires-in-Ok-Jump
commit-requires-in-Ok-Jump c = let a = c.args in fits_as a.r a.d a.bits.now a.tags.now a.history.now c.in-Ok-Jump.is (rw c.in-Ok-Jump.is at c.in-Ok-Jump.field-0-is) c.jumps.ensures c.requires.fits

pub returns-in-Ok-Jump : goal.returns-in-Ok-Jump
returns-in-Ok-Jump c =
    let a = c.args in
    carried_as a.r a.d a.bits.now a.tags.now a.history.now a.output.now _ _ _ _ c.in-Ok-Jump.is (rw c.in-Ok-Jump.is at c.in-Ok-Jump.field-0-is) c.jumps.ensures refl (c.commit-in-Ok-Jump.ensures a.output.now)

pub commit-requires-in-Ok-Store : goal.commit-requires-in-Ok-Store
commit-requires-in-Ok-Store c = let a = c.args in fits_as a.r a.d a.bits.now a.tags.now a.history.now c.in-Ok-Store.is (rw c.in-Ok-Store.is at c.in-Ok-Store.field-0-is) c.stores.ensures c.requires.fits

pub returns-in-Ok-Store : goal.returns-in-Ok-Store
returns-in-Ok-Store c =
    let a = c.args in
    carried_as a.r a.d a.bits.now a.tags.now a.history.now a.output.now _ _ _ _ c.in-Ok-Store.is (rw c.in-Ok-Store.is at c.in-Ok-Store.field-0-is) c.stores.ensures refl (c.commit-in-Ok-Store.ensures a.output.now)

pub calls-requires : goal.calls-requires
calls-requires c =
    let a = c.args in
    let o = fits_as a.r a.d a.bits.now a.tags.now a.history.now c.in-Ok-Call.is (rw c.in-Ok-Call.is at c.in-Ok-Call.field-0-is) refl c.requires.fits in
    (c.requires.small.0, omega (arith, o.block, o.tagged, o.fields.few))

pub commit-requires-in-Ok-Call : goal.commit-requires-in-Ok-Call
commit-requires-in-Ok-Call c = let a = c.args in fits_as a.r a.d a.bits.now a.tags.now a.history.now c.in-Ok-Call.is (rw c.in-Ok-Call.is at c.in-Ok-Call.field-0-is) c.calls.ensures c.requires.fits

pub returns-in-Ok-Call : goal.returns-in-Ok-Call
returns-in-Ok-Call c =
    let a = c.args in
    carried_as a.r a.d a.bits.now a.tags.now a.history.now a.output.now _ _ _ _ c.in-Ok-Call.is (rw c.in-Ok-Call.is at c.in-Ok-Call.field-0-is) c.calls.ensures refl (c.commit-in-Ok-Call.ensures a.output.now)

pub commit-requires-in-Ok-Link : goal.commit-requires-in-Ok-Link
commit-requires-in-Ok-Link c = let a = c.args in fits_as a.r a.d a.bits.now a.tags.now a.history.now c.in-Ok-Link.is (rw c.in-Ok-Link.is at c.in-Ok-Link.field-0-is) c.links.ensures c.requires.fits

pub returns-in-Ok-Link : goal.returns-in-Ok-Link
returns-in-Ok-Link c =
    let a = c.args in
    carried_as a.r a.d a.bits.now a.tags.now a.history.now a.output.now _ _ _ _ c.in-Ok-Link.is (rw c.in-Ok-Link.is at c.in-Ok-Link.field-0-is) c.links.ensures refl (c.commit-in-Ok-Link.ensures a.output.now)

pub commit-requires-in-Ok-Move : goal.commit-requires-in-Ok-Move
commit-requires-in-Ok-Move c = let a = c.args in fits_as a.r a.d a.bits.now a.tags.now a.history.now c.in-Ok-Move.is (rw c.in-Ok-Move.is at c.in-Ok-Move.field-0-is) c.moves.ensures c.requires.fits

pub returns-in-Ok-Move : goal.returns-in-Ok-Move
returns-in-Ok-Move c =
    let a = c.args in
    carried_as a.r a.d a.bits.now a.tags.now a.history.now a.output.now _ _ _ _ c.in-Ok-Move.is (rw c.in-Ok-Move.is at c.in-Ok-Move.field-0-is) c.moves.ensures refl (c.commit-in-Ok-Move.ensures a.output.now)

pub commit-requires-in-Ok-Frame : goal.commit-requires-in-Ok-Frame
commit-requires-in-Ok-Frame c = let a = c.args in fits_as a.r a.d a.bits.now a.tags.now a.history.now c.in-Ok-Frame.is (rw c.in-Ok-Frame.is at c.in-Ok-Frame.field-0-is) c.frames.ensures c.requires.fits

pub returns-in-Ok-Frame : goal.returns-in-Ok-Frame
returns-in-Ok-Frame c =
    let a = c.args in
    carried_as a.r a.d a.bits.now a.tags.now a.history.now a.output.now _ _ _ _ c.in-Ok-Frame.is (rw c.in-Ok-Frame.is at c.in-Ok-Frame.field-0-is) c.frames.ensures refl (c.commit-in-Ok-Frame.ensures a.output.now)

pub commit-requires-in-Ok-Halt : goal.commit-requires-in-Ok-Halt
commit-requires-in-Ok-Halt c = let a = c.args in fits_as a.r a.d a.bits.now a.tags.now a.history.now c.in-Ok-Halt.is (rw c.in-Ok-Halt.is at c.in-Ok-Halt.field-0-is) c.halts.ensures c.requires.fits

pub returns-in-Ok-Halt : goal.returns-in-Ok-Halt
returns-in-Ok-Halt c =
    let a = c.args in
    carried_as a.r a.d a.bits.now a.tags.now a.history.now a.output.now _ _ _ _ c.in-Ok-Halt.is (rw c.in-Ok-Halt.is at c.in-Ok-Halt.field-0-is) c.halts.ensures refl (c.commit-in-Ok-Halt.ensures a.output.now)

pub commit-requires-in-Ok-Swap : goal.commit-requires-in-Ok-Swap
commit-requires-in-Ok-Swap c = let a = c.args in fits_as a.r a.d a.bits.now a.tags.now a.history.now c.in-Ok-Swap.is (rw c.in-Ok-Swap.is at c.in-Ok-Swap.field-0-is) c.swaps.ensures c.requires.fits

pub returns-in-Ok-Swap : goal.returns-in-Ok-Swap
returns-in-Ok-Swap c =
    let a = c.args in
    carried_as a.r a.d a.bits.now a.tags.now a.history.now a.output.now _ _ _ _ c.in-Ok-Swap.is (rw c.in-Ok-Swap.is at c.in-Ok-Swap.field-0-is) c.swaps.ensures refl (c.commit-in-Ok-Swap.ensures a.output.now)

pub commit-requires-in-Ok-Fill : goal.commit-requires-in-Ok-Fill
commit-requires-in-Ok-Fill c = let a = c.args in fits_as a.r a.d a.bits.now a.tags.now a.history.now c.in-Ok-Fill.is (rw c.in-Ok-Fill.is at c.in-Ok-Fill.field-0-is) c.fills.ensures c.requires.fits

pub returns-in-Ok-Fill : goal.returns-in-Ok-Fill
returns-in-Ok-Fill c =
    let a = c.args in
    carried_as a.r a.d a.bits.now a.tags.now a.history.now a.output.now _ _ _ _ c.in-Ok-Fill.is (rw c.in-Ok-Fill.is at c.in-Ok-Fill.field-0-is) c.fills.ensures refl (c.commit-in-Ok-Fill.ensures a.output.now)

pub show-requires : goal.show-requires
show-requires c =
    let a = c.args in
    let o = fits_as a.r a.d a.bits.now a.tags.now a.history.now c.in-Ok-Show.is (rw c.in-Ok-Show.is at c.in-Ok-Show.field-0-is) refl c.requires.fits in
    record { small = (c.requires.small.0, o.byte); fits = o }

pub returns-in-Ok-Show : goal.returns-in-Ok-Show
returns-in-Ok-Show c =
    let a = c.args in
    c.show.ensures ∙ carried_by a.r a.d a.bits.now a.tags.now a.history.now a.output.now c.in-Ok-Show.is (rw c.in-Ok-Show.is at c.in-Ok-Show.field-0-is)

pub returns-in-Err : goal.returns-in-Err
returns-in-Err c = let a = c.args in carried_refused a.r a.d a.bits.now a.tags.now a.history.now a.output.now c.in-Err.is
