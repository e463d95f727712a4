-- One field, inside the image. Assumes nothing.
use Rattle.std.proofs.Common.{◌≡◌, ◌+◌, ◌*◌, ◌%◌, ◌^◌, ◌≤◌, rules, ℕ, length, ◌∙◌, ap, sym, arith}
use Rattle.rules.specs.Lists.{splice}
use Rattle.rules.specs.Fields.{field, bits_of}
use Rattle.rules.specs.Image.{instruction_bits}
use Rattle.rules.proofs.Fields.{bits_of_length, field_length}
use Rattle.rules.proofs.Packing.{width_most}
use Rattle.fields.proofs.Within.{written_inside}
use Rattle.image.proofs.Instructions.{joined_bits}
use Rattle.image.proofs.writing.put_instruction.Goals as goal

pub returns : goal.returns
unfolding instruction_bits
returns c =
    let a = c.args in
    let code : ℕ = c.code_of-code.result in
    let width : ℕ = c.width_of-width.result in
    let span : ℕ = c.span_of-span.result in
    let v : ℕ = code * span + c.operand_of.result % span in
    let narrow : width ≤ 32 = omega (arith, c.width_of-width.ensures, width_most c.kind_of-kind.result) in
    let e : field (6 + width) v ≡ instruction_bits a.place =
    joined_bits width code c.operand_of.result {span = span} (c.span_of-span.ensures ∙ ap (λ (w : ℕ). 2 ^ w) (sym c.width_of-width.ensures))
    ∙ rw (c.width_of-width.ensures, c.kind_of-kind.ensures, c.code_of-code.ensures, c.operand_of.ensures) in
    record {
      bits = c.put.ensures ∙ written_inside (bits_of a.image.now) a.at (6 + width) v (omega arith) (omega (arith, bits_of_length a.image.now)) ∙ ap (splice (bits_of a.image.now) a.at) e;
      next = omega (arith, field_length (6 + width) v, ap length e);
    }
