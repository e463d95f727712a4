-- Each answer by its law. Assumes nothing.
use Rattle.std.proofs.Common.{◌≡◌, ◌≤◌, ◌<◌, ℕ, List, Err, true, false, length, take, drop, ◌∙◌, sym, ap, ap₂, arith}
use native.Mathlib.Nat.{lt_of_lt_of_le}
use lib.Pow.{pow_mono}
use Rattle.std.proofs.lemmas.Result.{err_from_is_err_and}
use Rattle.rules.specs.Fields.{value, bits_of}
use Rattle.rules.specs.Instructions.{kind_of}
use Rattle.rules.specs.Table.{within}
use Rattle.rules.specs.Image.{width_of, extended}
use Rattle.rules.specs.declared.Kind.{Kind}
use Rattle.rules.proofs.Packing.{width_most}
use Rattle.rules.proofs.Bits.{rest_length}
use Rattle.rules.proofs.Unpacking.{operand_at, operand_short, operand_outside, operand_taken}
use Rattle.image.proofs.reading.take_operand.Goals as goal

-- the bits are there, and make the 32 bits of the table
read : (bits : List ℕ) (count code w : ℕ) {k : Kind} {n o : ℕ} → k ≡ kind_of code → w ≡ width_of k → (w ≤ length bits) × (n ≡ value (take w bits)) → o ≡ extended k n
    → (width_of (kind_of code) ≤ length bits) × (o ≡ operand_at count code bits)
read bits count code w ek ew h eo =
    let e : w ≡ width_of (kind_of code) = ew ∙ ap width_of ek in
    (omega (arith, h.0, e), eo ∙ ap₂ extended ek (h.1 ∙ ap (λ (m : ℕ). value (take m bits)) e))

pub returns-in_err-take_number : goal.returns-in_err-take_number
returns-in_err-take_number c =
    let a = c.args in
    let p = err_from_is_err_and c.from_residual.result c.from_residual.ensures.1 in
    let h = c.in_err-take_number.ensures.told in
    let short : length (drop a.at (bits_of a.image.now)) < width_of (kind_of a.code) = omega (arith, rest_length a.image.now a.at, c.width_of-width.ensures ∙ ap width_of c.kind_of-kind.ensures, h.0) in
    rw (p.1, p.2) (ap Err h.1 ∙ sym (operand_short a.count a.code (drop a.at (bits_of a.image.now)) short))

pub overflow_cast-branch : goal.overflow_cast-branch
overflow_cast-branch c =
    let w = c.width_of-width in
    record { fits = lt_of_lt_of_le c.in_ok-take_number.ensures.small (pow_mono {j = 32} (omega (arith, w.ensures, width_most c.kind_of-kind.result))) }

pub table_bits-operand-requires : goal.table_bits-operand-requires
table_bits-operand-requires c = rw (← c.width_of-width.ensures) c.in_ok-take_number.ensures.small

pub returns-then-not-is_within : goal.returns-then-not-is_within
returns-then-not-is_within c =
    let a = c.args in
    let ek = c.kind_of-kind.ensures in
    let r = read (drop a.at (bits_of a.image.now)) a.count a.code _ ek c.width_of-width.ensures c.in_ok-take_number.ensures.told c.table_bits-operand.ensures in
    let out : within (kind_of a.code) a.count (operand_at a.count a.code (drop a.at (bits_of a.image.now))) ≡ false = rw (← r.1, ← ek) (sym c.is_within.ensures ∙ c.if-not-is_within.true) in
    sym (operand_outside a.count a.code _ r.0 out)

pub returns : goal.returns
returns c =
    let a = c.args in
    let ek = c.kind_of-kind.ensures in
    let r = read (drop a.at (bits_of a.image.now)) a.count a.code _ ek c.width_of-width.ensures c.in_ok-take_number.ensures.told c.table_bits-operand.ensures in
    let out : within (kind_of a.code) a.count (operand_at a.count a.code (drop a.at (bits_of a.image.now))) ≡ true = rw (← r.1, ← ek) (sym c.is_within.ensures ∙ c.if-not-is_within.false) in
    rw (r.1, c.width_of-width.ensures, ek) (sym (operand_taken a.count a.code _ r.0 out))
