-- The functions of the cycle of calls {chain, operand, side} meet their contracts: each goal is a lemma of `Chains` or of `Operands`. Assumes nothing.
use Rattle.std.proofs.Common.{sym, ◌∙◌, arith}
use Rattle.std.proofs.lemmas.Result.{err_from_is_err_and}
use Rattle.formula.proofs.Operands.{minus_refused, bracket_refused, read_room}
use Rattle.formula.proofs.Chains.{turning_ends, turning_dear, turning_refused, turning_less}
use Rattle.formula.proofs.reading.+chain_operand_side.Goals as goal

pub chain-returns-in_err-owing : goal.chain-returns-in_err-owing
chain-returns-in_err-owing t c =
    let p = err_from_is_err_and c.from_residual-in_err-owing.result c.from_residual-in_err-owing.ensures.1 in
    let o = c.in-Sign in
    rw (p.1, p.2) (turning_dear c.loop-operator.invariant.1 o.operator o.end o.ensures (sym c.has.ensures ∙ c.if-has.true) c.in_err-owing.ensures)

pub chain-returns-in_err-right : goal.chain-returns-in_err-right
chain-returns-in_err-right t c =
    let p = err_from_is_err_and c.from_residual-in_err-right.result c.from_residual-in_err-right.ensures.1 in
    let o = c.in-Sign in
    rw (p.1, p.2)
    (turning_refused c.loop-operator.invariant.1 o.operator o.end o.ensures (sym c.has.ensures ∙ c.if-has.true) c.in_ok-owing.ensures c.in_err-right.ensures)

pub chain-loop-operator-smaller : goal.chain-loop-operator-smaller
chain-loop-operator-smaller t c =
    let o = c.in-Sign in
    rw c.join-left.ensures.0
    (turning_less c.loop-operator.invariant.1 o.operator o.end o.ensures (sym c.has.ensures ∙ c.if-has.true) c.in_ok-owing.ensures c.in_ok-right.ensures)

-- ---- operand

pub operand-returns-in_err-negated-in-Sign-Subtract-default : goal.operand-returns-in_err-negated-in-Sign-Subtract-default
operand-returns-in_err-negated-in-Sign-Subtract-default t c = grind (arith, minus_refused)

pub operand-negate-requires : goal.operand-negate-requires
operand-negate-requires t c = grind (arith, read_room)

pub operand-returns-in_err-sum-in-Opening : goal.operand-returns-in_err-sum-in-Opening
operand-returns-in_err-sum-in-Opening t c = grind (arith, bracket_refused)

pub chain-returns-in-loop-operator : goal.chain-returns-in-loop-operator
chain-returns-in-loop-operator t c = grind (arith, turning_ends)
