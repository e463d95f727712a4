-- Refused, or filled from the image. Assumes nothing.
use Rattle.std.proofs.Common.{sym}
use Rattle.std.proofs.lemmas.Result.{err_from_is_err_and}
use Rattle.saved.proofs.load.Goals as goal

pub returns-in_err-saved : goal.returns-in_err-saved
returns-in_err-saved c =
    let p = err_from_is_err_and c.from_residual.result c.from_residual.ensures.1 in
    rw (p.1, p.2) (sym c.in_err-saved.ensures)

pub returns : goal.returns
returns c =
    let h = c.in_ok-saved.ensures in
    rw (c.read_cells.ensures.bits, c.read_cells.ensures.tags, c.fill.ensures.after (λ y e. e), c.read_output.ensures, h.0) (sym h.4)
