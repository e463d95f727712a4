-- `assembler::operand::name_word` meets its contract. Assumes nothing.
use Rattle.std.proofs.Common.{length, refl}
use Rattle.std.proofs.lemmas.Bool.{le-leb, lt-leb}
use Rattle.rules.specs.Sizes.{max_label}
use Rattle.rules.specs.Assemble.{target_label}
use Rattle.assembler.proofs.Items.{item_label}
use Rattle.assembler.proofs.operand.name_word.Goals as goal

pub returns-then-name-gt-MAX_LABEL : goal.returns-then-name-gt-MAX_LABEL
unfolding target_label
returns-then-name-gt-MAX_LABEL c = λ source e. rw (lt-leb (length c.args.name.now) max_label c.if-name-gt-MAX_LABEL.true)

pub returns : goal.returns
unfolding target_label
returns c = λ source e.
    let a = c.args in
    rw (le-leb (length a.name.now) max_label c.if-name-gt-MAX_LABEL.false, item_label source _ _ _ _ _ c.word_of.ensures refl, e)
