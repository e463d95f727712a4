-- A line of a listing, written part by part. Assumes nothing.
use Prim.Native.Nat.{ℕ, ◌+◌, ◌<◌, ◌≤◌}
use mathlib.Core.Path.{◌≡◌, refl, sym}
use mathlib.Core.List.{List, [], ◌∷◌}
use native.Mathlib.Omega.{arith}
use lib.ListN.{length, set}
use Rattle.rules.specs.Bytes.{space, LF}
use Rattle.rules.specs.Instructions.{name_of, kind_of}
use Rattle.rules.specs.Table.{code_of, operand_of}
use Rattle.rules.specs.Listing.{decimal, signed_text, operand_text, spaced, line_of}
use Rattle.rules.specs.declared.Kind.{Kind}
use Rattle.rules.specs.declared.Kind.TheVariants.{Bare, Immediate, Pattern, Offset, Target, Character}
use Rattle.rules.proofs.Lines.{line_parts, line_length, wordlike_signed}
use Rattle.rules.proofs.Texts.{length_signed, length_decimal, length_hex, decimal_some}
use Rattle.digits.specs.Put.{Put}
use Rattle.digits.proofs.Laws.{put_append, put_last}

spaced_some : (t : List ℕ) → 0 < length t → spaced t ≡ space ∷ t
spaced_some [] h = absurd (omega arith)
spaced_some (b ∷ t) h = refl

-- an operand that is there has a space in front
pub spaced_operand : (kind : Kind) (v : ℕ) → (kind ≡ Bare → ⊥) → spaced (operand_text kind v) ≡ space ∷ operand_text kind v
spaced_operand Bare v h = absurd (h refl)
spaced_operand Immediate v h = spaced_some (signed_text v) (wordlike_signed v).some
spaced_operand Pattern v h = refl
spaced_operand Offset v h = spaced_some (signed_text v) (wordlike_signed v).some
spaced_operand Target v h = spaced_some (decimal 9 v) (decimal_some 9 v)
spaced_operand Character v h = spaced_some (decimal 9 v) (decimal_some 9 v)

-- an operand is short, with the space too
pub operand_short : (kind : Kind) (v : ℕ) → length (operand_text kind v) ≤ 11
operand_short Bare v = omega arith
operand_short Immediate v = length_signed v
operand_short Pattern v = omega (arith, length_hex 8 v)
operand_short Offset v = length_signed v
operand_short Target v = omega (arith, length_decimal 9 v)
operand_short Character v = omega (arith, length_decimal 9 v)

pub spaced_short : (kind : Kind) (v : ℕ) → length (spaced (operand_text kind v)) ≤ 12
spaced_short kind v = go (operand_text kind v) (operand_short kind v)
  where
    go : (t : List ℕ) → length t ≤ 11 → length (spaced t) ≤ 12
    go [] h = omega arith
    go (b ∷ t) h = omega arith

-- and so is the name in a short line
pub name_short : (place code : ℕ) → code ≡ code_of place → length (line_of place) ≤ 20 → length (name_of code) ≤ 19
name_short place code e h = rw e (omega (arith, line_length place))

-- a name, what follows it and a LF: a line
pub put_parts : (place : ℕ) {code v : ℕ} {kind : Kind} {old m₁ m₂ new : List ℕ} {at n m : ℕ} → code ≡ code_of place → kind ≡ kind_of code → v ≡ operand_of place
    → Put old m₁ at (name_of code) n → Put m₁ m₂ (at + n) (spaced (operand_text kind v)) m → new ≡ set m₂ (at + (n + m)) LF → Put old new at (line_of place) (n + m + 1)
put_parts place ec ek ev p q e = rw (line_parts place, sym ec, sym ek, sym ev) (put_last LF (put_append p q) e)
