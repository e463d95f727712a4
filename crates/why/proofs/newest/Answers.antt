-- `why::newest` meets its contract: one place more is looked at, which tells or not. Assumes nothing.
use mathlib.Core.Path.{sym, ◌∙◌}
use native.Mathlib.Omega.{arith}
use Rattle.std.proofs.lemmas.Grind.{common_steps}
use Rattle.why.proofs.Looking.{looking_none, look_step, step_within, look_found, look_cell, look_ended}
use Rattle.why.proofs.newest.Goals as goal

pub loop-place-init : goal.loop-place-init
loop-place-init c = looking_none _ _ _ _ _ _ (grind (arith, common_steps)) c.requires.used_in_bounds c.requires.all_readable

pub loop-place-preserved-then-mark_of-eq-STEP_MARK : goal.loop-place-preserved-then-mark_of-eq-STEP_MARK
loop-place-preserved-then-mark_of-eq-STEP_MARK c =
    look_step _ _ c.loop-place.invariant c.in-Some.ensures.steps (sym c.mark_of.ensures ∙ c.if-mark_of-eq-STEP_MARK.true)

pub named_step-requires : goal.named_step-requires
named_step-requires c =
    step_within _ _ c.loop-place.invariant c.in-Some.ensures.steps (λ m. c.if-mark_of-eq-STEP_MARK.false (c.mark_of.ensures ∙ m))

pub returns-then-cell_address-cell : goal.returns-then-cell_address-cell
returns-then-cell_address-cell c =
    rw c.named_step.ensures
    (look_found _ _ c.loop-place.invariant c.in-Some.ensures.steps (λ m. c.if-mark_of-eq-STEP_MARK.false (c.mark_of.ensures ∙ m))
    (sym c.cell_address.ensures ∙ c.if-cell_address-cell.true))

pub loop-place-preserved : goal.loop-place-preserved
loop-place-preserved c =
    look_cell _ _ c.loop-place.invariant c.in-Some.ensures.steps (λ m. c.if-mark_of-eq-STEP_MARK.false (c.mark_of.ensures ∙ m))
    (λ q. c.if-cell_address-cell.false (c.cell_address.ensures ∙ q))

pub returns : goal.returns
returns c = look_ended c.loop-place.invariant c.in-None.ensures.steps.0
