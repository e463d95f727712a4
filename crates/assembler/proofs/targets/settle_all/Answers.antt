-- The goals of `assembler::targets::settle_all`, answered. Assumes nothing.
use Rattle.std.proofs.Common.{arith}
use Rattle.std.proofs.lemmas.Result.{err_from_is_err_and}
use Rattle.assembler.proofs.Settle as settled
use Rattle.assembler.proofs.targets.settle_all.Goals as goal

pub loop-item-init : goal.loop-item-init
loop-item-init c = settled.settled_none _ _ _

pub returns-in_err-item : goal.returns-in_err-item
returns-in_err-item c =
    let p = err_from_is_err_and c.from_residual.result c.from_residual.ensures.1 in
    rw (p.1, p.2) (settled.settled_stop _ _ _ _ _ c.loop-item.invariant _ _ (omega arith) c.in_err-item.ensures)

pub loop-item-preserved : goal.loop-item-preserved
loop-item-preserved c = settled.settled_more _ _ _ _ _ c.loop-item.invariant _ (omega arith) c.in_ok-item.ensures

pub returns : goal.returns
returns c = settled.settled_end _ _ _ _ _ c.loop-item.invariant (omega arith)
