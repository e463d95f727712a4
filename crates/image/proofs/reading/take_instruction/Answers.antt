-- Each answer by its law. Assumes nothing.
use Rattle.std.proofs.Common.{ℕ, List, Err, drop, ◌∙◌, sym, ap, ap₂, arith}
use lib.Seq.{drop-drop}
use Rattle.std.proofs.lemmas.Result.{err_from_is_err_and}
use Rattle.rules.specs.Fields.{bits_of}
use Rattle.rules.specs.Image.{take_operand}
use Rattle.rules.proofs.Bits.{rest_length}
use Rattle.rules.proofs.Unpacking.{one_short, one_code, one_operand}
use Rattle.image.proofs.reading.take_instruction.Goals as goal

pub returns-in_err-code : goal.returns-in_err-code
returns-in_err-code c =
    let a = c.args in
    let p = err_from_is_err_and c.from_residual.result c.from_residual.ensures.1 in
    let h = c.in_err-code.ensures.told in
    rw (p.1, p.2) (ap Err h.1 ∙ sym (one_short a.count (drop a.at (bits_of a.image.now)) (omega (arith, rest_length a.image.now a.at, h.0))))

pub returns-then-code-ge-COUNT : goal.returns-then-code-ge-COUNT
returns-then-code-ge-COUNT c =
    let h = c.in_ok-code.ensures.told in
    sym (one_code c.args.count _ h.0 (omega (arith, h.1)))

pub take_operand-requires : goal.take_operand-requires
take_operand-requires c = (omega (arith, rest_length c.args.image.now c.args.at, c.in_ok-code.ensures.told.0), omega arith)

pub returns : goal.returns
returns c =
    let a = c.args in
    let bits : List ℕ = drop a.at (bits_of a.image.now) in
    let h = c.in_ok-code.ensures.told in
    c.take_operand.ensures ∙ ap₂ (take_operand a.count) h.1 (sym (drop-drop 6 a.at (bits_of a.image.now))) ∙ sym (one_operand a.count bits h.0 (omega (arith, h.1)))
