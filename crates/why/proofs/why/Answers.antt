-- `why::why` meets its contract: the records that are looked through can be read. Assumes nothing.
use mathlib.Core.Path.{sym, ◌∙◌}
use Rattle.std.proofs.Common.{rules}
use Rattle.state.proofs.Parts.{held}
use Rattle.records.proofs.Judgements.{judged_formed}
use Rattle.why.proofs.Readable.{formed_readable}
use Rattle.why.proofs.why.Goals as goal

pub newest-requires-clause-all_readable : goal.newest-requires-clause-all_readable
newest-requires-clause-all_readable c =
    let r = c.args.r in
    formed_readable r.n c.args.p.length _ (held _ _ _ (sym c.is_sound.ensures ∙ c.if-not-is_sound.false)).table _
    (judged_formed r.n c.args.p.length r.kept 0 _ c.in_ok-ok_or.field-0 (search rules))
