-- `machine::decide::decide_at` meets its contract. Assumes nothing.
use Rattle.rules.specs.Step.{decide_at}
use Rattle.machine.proofs.decide.decide_at.Goals as goal

pub returns : goal.returns
unfolding decide_at
returns c = rw (c.by_code.ensures, c.operand_of-n.ensures, c.code_of-code.ensures)
