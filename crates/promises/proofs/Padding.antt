-- What a packer tells of, an image's or a saved state's: its bits, and zeros to a byte, which are padding. Assumes nothing.
use Prim.Native.Nat.{ℕ, ◌-◌, ◌*◌, ◌≤◌}
use mathlib.Core.Path.{◌≡◌, ◌∙◌}
use mathlib.Core.Bool.{true}
use mathlib.Core.List.{List, ◌++◌}
use native.Mathlib.Omega.{arith}
use borrow.Author.Tests.{eq-eqb}
use lib.ListN.{length, take, replicate, length-replicate}
use lib.Seq.{length-take-le}
use Rattle.rules.specs.Fields.{bits_of, packed_to, bytes_for, padded}
use Rattle.rules.proofs.Bits.{Bits, value_zeros, packed_length, packed_bits, padded_short}

abbrev pub padding_of : List ℕ → List ℕ
padding_of l = replicate (bytes_for (length l) * 8 - length l) 0

pub padding_padded : (l : List ℕ) → padded (padding_of l) ≡ true
padding_padded l =
    let n : ℕ = bytes_for (length l) * 8 - length l in
    padded_short (replicate n 0) (omega (arith, length-replicate {A = ℕ} n 0)) ∙ eq-eqb _ _ (value_zeros n)

module _ (n : ℕ) (l : List ℕ) (fits : bytes_for (length l) ≤ n) where
  pub told_length : length (take (bytes_for (length l)) (packed_to n l)) ≡ bytes_for (length l)
  told_length = length-take-le (bytes_for (length l)) (packed_to n l) (rw (packed_length n l) fits)

  pub told_bits : Bits l → bits_of (take (bytes_for (length l)) (packed_to n l)) ≡ l ++ padding_of l
  told_bits x = packed_bits (bytes_for (length l)) n l x fits (omega arith)
