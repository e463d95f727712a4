-- `assembler::translate` meets its contract. The state after the last token is finished: an operand is missing, or the items are settled. Assumes nothing.
use Rattle.std.proofs.Common.{◌≡◌, List, length, take, sym, ap, ◌∙◌, arith}
use Rattle.std.proofs.lemmas.List.{take_at, length-take-le}
use Rattle.std.proofs.lemmas.Result.{err_from_is_err_and}
use Rattle.rules.specs.Assemble.{done, settle, translated}
use Rattle.tokens.specs.Next.{from}
use Rattle.assembler.specs.declared.held.Label.{Label}
use Rattle.assembler.specs.Held.{items_of, labels_of, state_of}
use Rattle.assembler.proofs.Whole as whole
use Rattle.assembler.proofs.translate.Goals as goal
use Rattle.assembler.proofs.translate.Goals.{After-labels}

-- no operand is missing: what the source gives is what its items give, once they are settled
settling : (c : After-labels) → translated c.args.source.now ≡ settle (length (take c.judge_all.new.self.items c.judge_all.new.table)) (labels_of c.args.source.now c.labels.result.now) (items_of c.args.source.now (take c.judge_all.new.self.items c.judge_all.new.table))
unfolding translated state_of items_of labels_of from
settling c =
    let s = c.args.source.now in
    let t = c.judge_all.new.table in
    let p = c.judge_all.new.self in
    c.in_ok-judge_all.ensures
    ∙ whole.finish_all s t p (sym c.is_some.ensures ∙ c.if-is_some.false)
    ∙ ap (λ (ls : List Label). settle (length (take p.items t)) (labels_of s ls) (items_of s (take p.items t))) (sym c.labels.ensures)

pub returns-in_err-judge_all : goal.returns-in_err-judge_all
unfolding translated state_of items_of labels_of from
returns-in_err-judge_all c =
    let p = err_from_is_err_and c.from_residual.result c.from_residual.ensures.1 in
    rw (p.1, p.2) c.in_err-judge_all.ensures

pub returns-then-is_some : goal.returns-then-is_some
unfolding translated state_of items_of labels_of from
returns-then-is_some c =
    c.in_ok-judge_all.ensures ∙ whole.finish_missing c.args.source.now c.judge_all.new.table c.judge_all.new.self (sym c.is_some.ensures ∙ c.if-is_some.true)

pub returns-in_err-settle_all : goal.returns-in_err-settle_all
returns-in_err-settle_all c =
    let p = err_from_is_err_and c.from_residual-in_err-settle_all.result c.from_residual-in_err-settle_all.ensures.1 in
    rw (p.1, p.2) (settling (goal.at.returns-in_err-settle_all c).After-labels ∙ c.in_err-settle_all.ensures)

pub returns : goal.returns
returns c =
    let n = c.judge_all.new.self.items in
    let few = c.judge_all.new.self.few_items in
    let fits : length c.settle_all.new.items ≡ n = c.settle_all.auto.items ∙ length-take-le n c.judge_all.new.table (omega arith) in
    (few, settling (goal.at.returns c).After-labels ∙ c.in_ok-settle_all.ensures ∙ ap done (sym (take_at c.settle_all.new.items _ n fits)))
