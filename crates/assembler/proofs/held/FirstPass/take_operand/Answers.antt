-- `assembler::held::FirstPass::take_operand` meets its contract. Assumes nothing.
use Rattle.std.proofs.Common.{ap, ◌∙◌, arith}
use Rattle.rules.specs.Assemble.{new_operand}
use Rattle.assembler.specs.Held.{state_of}
use Rattle.assembler.proofs.Items.{items_more}
use Rattle.assembler.proofs.held.FirstPass.take_operand.Goals as goal

pub returns : goal.returns
unfolding state_of
returns c = λ source e.
    let a = c.args in
    ap (new_operand (state_of source a.table.now a.self.now) a.start) (c.in_ok-table.ensures source e)
    ∙ rw (items_more source a.table.now a.self.now.items _ (omega arith))
