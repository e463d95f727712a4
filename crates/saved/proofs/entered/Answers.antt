-- The image first, and then the lent sizes. Assumes nothing.
use Rattle.std.proofs.Common.{Err, ap, sym, ◌∙◌}
use Rattle.std.proofs.lemmas.Result.{err_from_is_err_and}
use Rattle.rules.proofs.SavedState.{entry_early}
use Rattle.saved.proofs.Verdicts.{other_sizes, let_in}
use Rattle.saved.proofs.entered.Goals as goal

pub returns-in_err-saved : goal.returns-in_err-saved
returns-in_err-saved c =
    let a = c.args in
    let p = err_from_is_err_and c.from_residual.result c.from_residual.ensures.1 in
    let h = c.in_err-saved.ensures in
    rw (p.1, p.2) (entry_early a.image.now a.lent.bits a.lent.tags a.lent.history a.lent.output h.0 ∙ sym (ap Err h.1))

pub returns-then-not-are_lent_sizes : goal.returns-then-not-are_lent_sizes
returns-then-not-are_lent_sizes c =
    let a = c.args in
    let s = c.in_ok-saved.saved in
    let h = c.in_ok-saved.ensures in
    other_sizes a.image.now a.lent.history s.registers h.1 (rw h.0 at s.whole) a.lent.bits a.lent.tags a.lent.history a.lent.output (sym c.if-not-are_lent_sizes.ensures)

pub returns : goal.returns
returns c =
    let a = c.args in
    let s = c.in_ok-saved.saved in
    let h = c.in_ok-saved.ensures in
    (h.0, h.1, let_in a.image.now a.lent.history s.registers h.1 (rw h.0 at s.whole) a.lent.bits a.lent.tags a.lent.history a.lent.output (sym c.if-not-are_lent_sizes.ensures))
