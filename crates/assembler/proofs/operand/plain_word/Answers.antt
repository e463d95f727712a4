-- `assembler::operand::plain_word` meets its contract. Assumes nothing.
use Rattle.std.proofs.Common.{refl, sym, ap, ◌∙◌}
use Rattle.rules.specs.Assemble.{plain_number, item}
use Rattle.assembler.proofs.Items.{item_finished}
use Rattle.assembler.proofs.operand.plain_word.Goals as goal

pub returns-in-Ok : goal.returns-in-Ok
returns-in-Ok c = λ source.
    let a = c.args in
    ap (plain_number a.code) c.in-Ok.is
    ∙ ap item (sym (item_finished source _ _ _ _ _ c.word_of.ensures refl refl))
