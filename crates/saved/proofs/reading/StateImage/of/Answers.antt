-- The head is read as one number, and says what there is behind it. Assumes nothing.
use Rattle.std.proofs.Common.{◌≡◌, ◌+◌, ◌*◌, ◌≤◌, ◌<◌, ℕ, List, true, length, sym, ap, ◌∙◌, subst, arith, refl}
use lib.Dec.{lit≤, leb}
use borrow.Author.Tests.{leb-true, leb-false}
use Rattle.rules.specs.Fields.{field, bits_of}
use Rattle.rules.specs.SavedState.{head_width, registers_in}
use Rattle.rules.specs.declared.Registers.{Registers}
use Rattle.rules.proofs.Fields.{bits_of_length}
use Rattle.rules.proofs.Bits.{bits_bytes}
use Rattle.fields.specs.Within.{read_at}
use Rattle.fields.proofs.Within.{read_inside}
use Rattle.saved.specs.Reach.{most_cells, most_bytes}
use Rattle.saved.proofs.OneNumber.{head_read, head_small, head_announces}
use Rattle.saved.proofs.reading.StateImage.of.Goals as goal

-- the registers of the image
registers_read : (image : List ℕ) (h v : ℕ) (r : Registers) → true ≡ leb (0 + head_width) (length image * 8) → v ≡ read_at (bits_of image) 0 head_width → r ≡ registers_in h (field head_width v)
    → r ≡ registers_in h (bits_of image)
registers_read image h v r there ev er =
    let g : 0 + head_width ≤ length image * 8 = leb-true _ _ (sym there) in
    let long : head_width ≤ length (bits_of image) = omega (arith, bits_of_length image) in
    er ∙ ap (λ (v : ℕ). registers_in h (field head_width v)) (ev ∙ read_inside (bits_of image) 0 head_width (lit≤ tt) long)
    ∙ head_read h (bits_of image) (bits_bytes image) long

pub returns-then-not-has_bits : goal.returns-then-not-has_bits
returns-then-not-has_bits c = let h : length c.args.image.now * 8 < 0 + head_width = leb-false _ _ (sym c.if-not-has_bits.ensures) in (omega arith, refl)

pub announced-requires : goal.announced-requires
announced-requires c =
    let a = c.args in
    let e = registers_read a.image.now a.h _ _ c.if-not-has_bits.ensures c.get.ensures c.registers_of-registers.ensures in
    subst (λ (r : Registers). (r.n ≤ most_cells) × (r.written ≤ most_bytes)) (sym e) (head_small a.h (bits_of a.image.now) (bits_bytes a.image.now))

pub returns-then-not-has_bits-2 : goal.returns-then-not-has_bits-2
returns-then-not-has_bits-2 c =
    let a = c.args in
    let e = registers_read a.image.now a.h _ _ c.if-not-has_bits.ensures c.get.ensures c.registers_of-registers.ensures in
    let h = leb-false _ _ (sym c.if-not-has_bits-2.ensures) in
    (omega (arith, h, c.announced.ensures, head_announces a.h (bits_of a.image.now) _ e), refl)

pub invariant_of-result : goal.invariant_of-result
invariant_of-result c =
    let a = c.args in
    let l : List ℕ = bits_of a.image.now in
    let e = registers_read a.image.now a.h _ _ c.if-not-has_bits.ensures c.get.ensures c.registers_of-registers.ensures in
    let small = subst (λ (r : Registers). (r.n ≤ most_cells) × (r.written ≤ most_bytes)) (sym e) (head_small a.h l (bits_bytes a.image.now)) in
    record {
      whole = omega (arith, leb-true _ _ (sym c.if-not-has_bits-2.ensures), c.announced.ensures);
      few_cells = small.0;
      few_bytes = small.1;
    }

pub returns : goal.returns
returns c = (refl, registers_read c.args.image.now c.args.h _ _ c.if-not-has_bits.ensures c.get.ensures c.registers_of-registers.ensures)
