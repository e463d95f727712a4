-- `forget::forget` meets its contract: the places given up are among those used. Assumes nothing.
use Rattle.std.proofs.Common.{rules}
use Rattle.records.proofs.Judgements.{below_within}
use Rattle.forget.proofs.forget.Goals as goal

pub move_down-requires-clause-free_le_used : goal.move_down-requires-clause-free_le_used
move_down-requires-clause-free_le_used c =
    let r = c.args.r in
    below_within r.n c.args.p.length r.kept c.saturating_sub-stay.result r.used c.args.history.now c.in_ok-free.free (search rules)
