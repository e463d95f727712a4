-- The bits are there, and are read. Assumes nothing.
use Rattle.std.proofs.Common.{◌+◌, ◌*◌, ◌^◌, ◌≤◌, ◌<◌, ℕ, length, ◌∙◌, sym, subst, arith}
use borrow.Author.Tests.{leb-true}
use Rattle.rules.specs.Fields.{bits_of}
use Rattle.rules.proofs.Fields.{bits_of_length}
use Rattle.rules.proofs.Bits.{rest_length}
use Rattle.fields.proofs.Within.{read_inside, read_most}
use Rattle.image.proofs.reading.take_number.Goals as goal

pub returns : goal.returns
returns c =
    let a = c.args in
    let h : a.at + a.width ≤ length a.image.now * 8 = leb-true _ _ (sym c.has_bits.ensures ∙ c.if-not-has_bits.false) in
    record {
      small = subst (λ (n : ℕ). n < 2 ^ a.width) (sym c.get.ensures) (read_most a.image.now a.at a.width);
      told = (omega (arith, rest_length a.image.now a.at), c.get.ensures ∙ read_inside (bits_of a.image.now) a.at a.width c.requires (omega (arith, bits_of_length a.image.now)));
    }
