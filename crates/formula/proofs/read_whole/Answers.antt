-- `formula::read_whole` meets its contract: the refusal of what is read is that of the formula. Assumes nothing.
use Rattle.std.proofs.lemmas.Result.{err_from_is_err_and}
use Rattle.formula.proofs.Whole.{whole_refused}
use Rattle.formula.proofs.read_whole.Goals as goal

pub returns-in_err-sum : goal.returns-in_err-sum
returns-in_err-sum c =
    let p = err_from_is_err_and c.from_residual.result c.from_residual.ensures.1 in
    rw (p.1, p.2) (whole_refused c.args.formula.now _ c.in_err-sum.ensures)
