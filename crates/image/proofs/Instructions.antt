-- An instruction in an image: as one number, and no longer than the longest. Assumes nothing.
use Rattle.std.specs.Prelude.{Ok, Err}
use Prim.Native.Nat.{ℕ, ◌+◌, ◌*◌, ◌%◌, ◌^◌, ◌≤◌, ◌<◌}
use mathlib.Core.Path.{◌≡◌, ap, ◌∙◌}
use mathlib.Core.List.{List, ◌++◌}
use native.Mathlib.Nat.{mod-lt, lt_of_lt_of_le}
use native.Mathlib.Omega.{arith}
use lib.Arith.{digits_lt}
use lib.Dec.{leb, ltb}
use lib.ListN.{length, take, drop}
use lib.Pow.{pow_pos, pow-add, pow_mono}
use Rattle.rules.specs.Fields.{field, value}
use Rattle.rules.specs.Instructions.{codes, kind_of}
use Rattle.rules.specs.Table.{code_of, within}
use Rattle.rules.specs.Image.{code_width, width_of, instruction_bits, take_operand, take_one, bits_taken}
use Rattle.rules.specs.Answers.{Decoded}
use Rattle.rules.specs.declared.Kind.{Kind}
use Rattle.rules.specs.declared.ImageRefusal.{ImageRefusal}
use Rattle.rules.specs.declared.ImageRefusal.TheVariants.{EndsEarly, CodeTooHigh, OperandOutside}
use Rattle.rules.proofs.Fields.{field_join, field_mod}
use Rattle.rules.proofs.Tests.{either}
use Rattle.rules.proofs.Packing.{width_most, instruction_length}
use Rattle.rules.proofs.Unpacking.{operand_at}
use Rattle.image.specs.Longest.{longest}

-- ---- a code, and the low w bits of an operand, side by side
module _ (w code operand : ℕ) {span : ℕ} (es : span ≡ 2 ^ w) where
  pub joined_bits : field (code_width + w) (code * span + operand % span) ≡ field code_width code ++ field w operand
  joined_bits =
      rw es
      (field_join code_width w code (operand % 2 ^ w) (mod-lt operand (pow_pos w)) ∙ ap (λ (l : List ℕ). field code_width code ++ l) (field_mod w operand))

  pub joined_fits : code < 2 ^ 32 → w ≤ 32 → code * span + operand % span < 2 ^ 64
  joined_fits hc hw =
      let m : code * span + operand % span < 2 ^ (32 + w) = rw (es, pow-add 2 32 w) (digits_lt hc (mod-lt operand (pow_pos w))) in
      lt_of_lt_of_le m (pow_mono {j = 64} (omega arith))

-- ---- no longer than the longest, written or read

pub written_most : (p : ℕ) → length (instruction_bits p) ≤ longest
written_most p = omega (arith, instruction_length p, width_most (kind_of (code_of p)))

unfoldable Most : Decoded → Type 0
Most t = bits_taken t ≤ longest

none : (e : ImageRefusal) → Most (Err e)
unfolding Most
none e = omega arith

some : (p : ℕ) (k : Kind) → Most (Ok (record { place = p; width = code_width + width_of k }))
unfolding Most
some p k = omega (arith, width_most k)

operand_most : (count code : ℕ) (bits : List ℕ) → Most (take_operand count code bits)
unfolding take_operand
operand_most count code bits =
    either Most (ltb (length bits) (width_of (kind_of code))) (none EndsEarly)
    (either Most (within (kind_of code) count (operand_at count code bits)) (some _ (kind_of code)) (none OperandOutside))

pub taken_most : (count : ℕ) (bits : List ℕ) → bits_taken (take_one count bits) ≤ longest
unfolding Most take_one
taken_most count bits =
    let code : ℕ = value (take code_width bits) in
    either Most (ltb (length bits) code_width) (none EndsEarly) (either Most (leb codes code) (none CodeTooHigh) (operand_most count code (drop code_width bits)))
