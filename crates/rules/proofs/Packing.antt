-- The laws of the packer's definitions: the bits of a program, instruction after instruction, and the three answers. Assumes nothing.
use Rattle.std.specs.Prelude.{Ok, Err}
use Prim.Native.Nat.{ℕ, ◌+◌, ◌*◌, ◌≤◌, ◌<◌}
use mathlib.Core.Path.{◌≡◌, refl, sym, ap, ap₂, ◌∙◌}
use mathlib.Core.Bool.{true, false}
use mathlib.Core.List.{List, [], ◌∷◌, ◌++◌, append_assoc, append-nil}
use native.Mathlib.Numerals.{add-one}
use native.Mathlib.Omega.{arith}
use borrow.Author.Tests.{eq-eqb, ne_eqb}
use lib.ListN.{length, take, get_or, replicate, length-append}
use lib.Seq.{take-suc}
use Rattle.rules.specs.Lists.{splice}
use Rattle.rules.specs.Sizes.{image_size}
use Rattle.rules.specs.Fields.{field, packed_to}
use Rattle.rules.specs.Instructions.{kind_of}
use Rattle.rules.specs.Table.{Program, program, code_of, operand_of, sound_table}
use Rattle.rules.specs.Image.{count_width, code_width, width_of, instruction_bits, program_bits, image_bits, image_length, Filed, pack}
use Rattle.rules.specs.declared.Kind.{Kind}
use Rattle.rules.specs.declared.Kind.TheVariants.{Bare, Immediate, Pattern, Offset, Target, Character}
use Rattle.rules.specs.declared.ImageRefusal.TheVariants.{TableBroken, OutputLength}
use Rattle.rules.proofs.Fields.{field_length}
use Rattle.rules.proofs.Splice.{splice_beside}
use Rattle.rules.proofs.Table.{table_short, used_count}
use Rattle.rules.proofs.Bits.{Bits, bits_append, bits_field}

-- ---- one instruction

pub width_most : (k : Kind) → width_of k ≤ 32
width_most Bare = omega arith
width_most Immediate = omega arith
width_most Pattern = omega arith
width_most Offset = omega arith
width_most Target = omega arith
width_most Character = omega arith

pub instruction_length : (p : ℕ) → length (instruction_bits p) ≡ code_width + width_of (kind_of (code_of p))
unfolding instruction_bits
instruction_length p = length-append (field code_width (code_of p)) _ ∙ ap₂ (λ (n m : ℕ). n + m) (field_length code_width (code_of p)) (field_length _ (operand_of p))

-- ---- instruction after instruction

program_append : (ps qs : List ℕ) → program_bits (ps ++ qs) ≡ program_bits ps ++ program_bits qs
unfolding program_bits
program_append [] qs = refl
program_append (p ∷ ps) qs =
    ap (λ (l : List ℕ). instruction_bits p ++ l) (program_append ps qs) ∙ sym (append_assoc (instruction_bits p) (program_bits ps) (program_bits qs))

program_more : (t : List ℕ) (i : ℕ) → i < length t → program_bits (take (i + 1) t) ≡ program_bits (take i t) ++ instruction_bits (get_or t i 0)
unfolding program_bits
program_more t i h =
    ap (λ (k : ℕ). program_bits (take k t)) (add-one i) ∙ ap program_bits (take-suc t i 0 h)
    ∙ program_append (take i t) (get_or t i 0 ∷ [])
    ∙ ap (λ (l : List ℕ). program_bits (take i t) ++ l) (append-nil (instruction_bits (get_or t i 0)))

-- the count, and the first i instructions
unfoldable pub front : List ℕ → ℕ → ℕ → List ℕ
front t n i = field count_width n ++ program_bits (take i t)

pub front_none : (t : List ℕ) (n : ℕ) → front t n 0 ≡ field count_width n
unfolding front program_bits
front_none t n = append-nil (field count_width n)

pub front_all : (t : List ℕ) (n : ℕ) → front t n n ≡ image_bits (program t n)
unfolding front image_bits
front_all t n = refl

pub front_more : (t : List ℕ) (n i : ℕ) → i < length t → front t n (i + 1) ≡ front t n i ++ instruction_bits (get_or t i 0)
unfolding front
front_more t n i h =
    ap (λ (l : List ℕ). field count_width n ++ l) (program_more t i h) ∙ sym (append_assoc (field count_width n) (program_bits (take i t)) (instruction_bits (get_or t i 0)))

pub front_written : (z x y t : List ℕ) (n i at : ℕ) → i < length t → at ≡ length (front t n i) → at ≤ length z
    → x ≡ splice z 0 (front t n i) → y ≡ splice x at (instruction_bits (get_or t i 0)) → y ≡ splice z 0 (front t n (i + 1))
front_written z x y t n i at h ea hz ex ey =
    let f : List ℕ = front t n i in
    let g : List ℕ = instruction_bits (get_or t i 0) in
    let le : at ≡ 0 + length f = omega arith in
    ey ∙ ap₂ (λ (l : List ℕ) (k : ℕ). splice l k g) ex le ∙ splice_beside z 0 f g (omega arith) ∙ ap (splice z 0) (sym (front_more t n i h))

-- ---- the whole image

bits_program : (ps : List ℕ) → Bits (program_bits ps)
unfolding program_bits instruction_bits
bits_program [] = tt
bits_program (p ∷ ps) =
    bits_append (instruction_bits p) (program_bits ps)
    (bits_append (field code_width (code_of p)) (field (width_of (kind_of (code_of p))) (operand_of p)) (bits_field code_width (code_of p)) (bits_field _ (operand_of p)))
    (bits_program ps)

pub bits_image : (p : Program) → Bits (image_bits p)
unfolding image_bits
bits_image p =
    bits_append (field count_width p.count) (program_bits (take p.count p.places)) (bits_field count_width p.count) (bits_program (take p.count p.places))

program_most : (ps : List ℕ) → length (program_bits ps) ≤ 38 * length ps
unfolding program_bits
program_most [] = omega arith
program_most (p ∷ ps) =
    omega (arith, length-append (instruction_bits p) (program_bits ps), instruction_length p, width_most (kind_of (code_of p)), program_most ps)

-- the image of a sound program fits 4,866 bytes
pub image_fits : (p : Program) → sound_table p ≡ true → image_length p ≤ image_size
unfolding image_length image_bits
image_fits p s =
    let ps : List ℕ = take p.count p.places in
    omega (arith, table_short p s, used_count p s, program_most ps, length-append (field count_width p.count) (program_bits ps), field_length count_width p.count)

-- ---- the three answers
module _ (p : Program) (out : List ℕ) where
  abbrev accepted : Filed
  accepted = record { answer = Ok (image_length p); output = packed_to image_size (image_bits p) }

  -- 31
  pub pack_length : (length out ≡ image_size → ⊥) → pack p out ≡ record { answer = Err OutputLength; output = out }
  unfolding pack
  pack_length h = rw (ne_eqb (length out) image_size h)

  -- 10
  pub pack_broken : length out ≡ image_size → sound_table p ≡ false → pack p out ≡ record { answer = Err TableBroken; output = replicate image_size 0 }
  unfolding pack
  pack_broken h e = rw (eq-eqb (length out) image_size h, e)

  pub pack_done : length out ≡ image_size → sound_table p ≡ true → pack p out ≡ accepted
  unfolding pack
  pack_done h e = rw (eq-eqb (length out) image_size h, e)
