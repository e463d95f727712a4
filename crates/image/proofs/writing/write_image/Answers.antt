-- The count and the first i instructions stand over the zeros, up to bit `at`. Assumes nothing.
use Rattle.std.proofs.Common.{◌≡◌, ◌+◌, ◌*◌, ◌<◌, ℕ, List, length, get_or, take, replicate, sym, ap, ap₂, ◌∙◌, arith, length-append}
use Rattle.std.proofs.lemmas.List.{length-replicate, length-take-le, get_or-take}
use Rattle.rules.specs.Lists.{splice}
use Rattle.rules.specs.Sizes.{image_size}
use Rattle.rules.specs.Fields.{bits_of}
use Rattle.program.specs.Lent.{program_of}
use Rattle.rules.specs.Image.{instruction_bits, image_bits, image_length}
use Rattle.rules.proofs.Fields.{bits_of_length, field_length}
use Rattle.rules.proofs.Bits.{packed_is}
use Rattle.rules.proofs.Packing.{front, front_none, front_all, front_more, front_written}
use Rattle.fields.proofs.Within.{written_inside}
use Rattle.image.proofs.Instructions.{written_most}
use Rattle.image.proofs.writing.write_image.Goals as goal

pub loop-place-init : goal.loop-place-init
loop-place-init c =
    let a = c.args in
    let e : length a.image.now ≡ image_size = ap length c.requires.2 ∙ length-replicate {A = ℕ} image_size 0 in record {
      near = omega arith;
      at_end = sym (ap length (front_none a.p.table.now a.p.length) ∙ field_length 11 a.p.length);
      written = c.put.ensures ∙ written_inside (bits_of a.image.now) 0 11 a.p.length (omega arith) (omega (arith, bits_of_length a.image.now))
          ∙ ap₂ (λ (l f : List ℕ). splice (bits_of l) 0 f) c.requires.2 (sym (front_none a.p.table.now a.p.length));
      bytes = λ k. (c.type_inv.image k).fits;
    }

pub loop-place-preserved : goal.loop-place-preserved
loop-place-preserved c =
    let a = c.args in
    let t = c.loop-place in
    let i : ℕ = t.place-index in
    let place : ℕ = get_or a.p.table.now i 0 in
    let q = c.put_instruction-at.ensures in
    let n : length (take a.p.length a.p.table.now) ≡ a.p.length = length-take-le a.p.length a.p.table.now c.requires.1 in
    let h : i < length a.p.table.now = omega arith in
    let e : get_or (take a.p.length a.p.table.now) i 0 ≡ place = get_or-take a.p.length a.p.table.now i 0 (omega arith) in
    let next : c.put_instruction-at.result ≡ t.at + length (instruction_bits place) = q.next ∙ rw e in
    let z : List ℕ = bits_of (replicate image_size 0) in
    let lz : length z ≡ image_size * 8 = bits_of_length (replicate image_size 0) ∙ ap (λ (k : ℕ). k * 8) (length-replicate {A = ℕ} image_size 0) in record {
      near = omega (arith, next, written_most place);
      at_end = omega (arith, next, ap length (front_more a.p.table.now a.p.length i h) ∙ length-append (front a.p.table.now a.p.length i) _);
      written = front_written z (bits_of t.image) _ a.p.table.now a.p.length i t.at h t.invariant.at_end (omega arith) t.invariant.written (q.bits ∙ rw e);
      bytes = λ k. (c.type_inv.image k).fits;
    }

pub returns : goal.returns
unfolding image_length
returns c =
    let a = c.args in
    let t = c.loop-place in
    let i : t.place-index ≡ a.p.length = omega (arith, length-take-le a.p.length a.p.table.now c.requires.1) in
    let e : front a.p.table.now a.p.length t.place-index ≡ image_bits (program_of a.p) =
    ap (front a.p.table.now a.p.length) i ∙ front_all a.p.table.now a.p.length in
    let long : length t.image ≡ image_size = omega (arith, ap length c.requires.2 ∙ length-replicate {A = ℕ} image_size 0) in
    record {
      bytes = packed_is image_size t.image (image_bits (program_of a.p)) long t.invariant.bytes
          (t.invariant.written ∙ ap (splice (bits_of (replicate image_size 0)) 0) e);
      told = omega (arith, c.div_ceil.ensures, t.invariant.at_end ∙ ap length e);
    }
