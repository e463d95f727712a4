-- The goals of `assembler::held::FirstPass::judge_all`, answered. Assumes nothing.
use Rattle.std.proofs.Common.{◌∙◌}
use Rattle.std.proofs.lemmas.Result.{err_from_is_err_and}
use Rattle.assembler.proofs.Whole as whole
use Rattle.assembler.proofs.held.FirstPass.judge_all.Goals as goal

pub loop-token-preserved : goal.loop-token-preserved
loop-token-preserved c =
    let v = c.loop-token.invariant in
    let f = c.in-Some.ensures in
    (f.high, v.1 ∙ whole.judge_next _ _ _ _ _ _ f.first c.in_ok-judge_token.ensures)

pub returns-in_err-judge_token : goal.returns-in_err-judge_token
returns-in_err-judge_token c =
    let p = err_from_is_err_and c.from_residual.result c.from_residual.ensures.1 in
    rw (p.1, p.2) (c.loop-token.invariant.1 ∙ whole.judge_stop _ _ _ _ _ _ _ c.in-Some.ensures.first c.in_err-judge_token.ensures)

pub returns : goal.returns
returns c = c.loop-token.invariant.1 ∙ whole.judge_end _ _ _ c.in_default.ensures
