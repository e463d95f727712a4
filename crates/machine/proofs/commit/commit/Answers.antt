-- The answers of `machine::commit::commit`: refused as kept, or the history as kept and the cells as put. Assumes nothing.
use Rattle.machine.proofs.Commits.{commit_refused, commit_next}
use Rattle.machine.proofs.commit.commit.Goals as goal

pub returns-in-Refused : goal.returns-in-Refused
returns-in-Refused c o =
    let a = c.args in
    let kept = c.keep-next in
    commit_refused a.r a.e a.bits.now a.tags.now a.history.now _ o kept.result c.in-Refused.refusal c.in-Refused.is kept.ensures.value kept.ensures.history_after

pub returns-in-Next : goal.returns-in-Next
returns-in-Next c o =
    let a = c.args in
    let kept = c.keep-next in
    let put = c.put.ensures in
    commit_next a.r a.e a.bits.now a.tags.now a.history.now _ o kept.result c.in-Next.registers _ _ c.in-Next.is put.bits_after put.tags_after
    kept.ensures.value kept.ensures.history_after
