-- The first point is found by a chain. Assumes nothing.
use mathlib.Core.Path.{sym, ◌∙◌}
use Rattle.std.proofs.Common.{rules, tests}
use Rattle.std.proofs.lemmas.Iterator.{YieldsList-from_slice}
use Rattle.std.proofs.lemmas.Iterator.Search.{position_from_yields_List}
use Rattle.operands.proofs.Points.{is_point, before_is, after_is, no_point}
use Rattle.operands.proofs.decimals.sides.Goals as goal

pub returns-in_err-p : goal.returns-in_err-p
returns-in_err-p c =
    let p = position_from_yields_List is_point _ _ c.position.result c.position.ensures.ran (YieldsList-from_slice _ c.iter.ensures.rest) (λ x b q k. search (rules, tests)) in
    rw c.from_residual.ensures (no_point c.args.ds.now (sym p ∙ c.in_err-p.was))

pub returns : goal.returns
returns c =
    let p = position_from_yields_List is_point _ _ c.position.result c.position.ensures.ran (YieldsList-from_slice _ c.iter.ensures.rest) (λ x b q k. search (rules, tests)) in
    let e = sym p ∙ c.in_ok-p.was in
    (before_is c.args.ds.now c.in_ok-p.p e, after_is c.args.ds.now c.in_ok-p.p e)
