-- `assembler::operand::target_word` meets its contract. Assumes nothing.
use Rattle.std.proofs.Common.{◌≡◌, refl, sym, ap, ◌∙◌, rules}
use Rattle.rules.specs.Assemble.{target_number, item, beyond}
use Rattle.assembler.proofs.Items.{item_number, item_beyond}
use Rattle.assembler.proofs.operand.target_word.Goals as goal

pub returns-in-Ok : goal.returns-in-Ok
returns-in-Ok c = λ source.
    let a = c.args in
    ap (target_number a.code a.start) c.in-Ok.is
    ∙ ap item (sym (item_number source _ _ _ _ _ c.word_of.ensures refl))

pub returns-in-Err-OutOfRange : goal.returns-in-Err-OutOfRange
returns-in-Err-OutOfRange c = λ source.
    let a = c.args in
    let e : target_number a.code a.start a.number ≡ item (beyond a.start) = search rules in
    e ∙ ap item (sym (item_beyond source _ _ _ _ _ c.word_of-in-Err-OutOfRange.ensures refl))
