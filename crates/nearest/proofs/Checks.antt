-- The definitions at bits that everyone knows, computed: the smallest value, 1, -2.5, the largest, what the midpoint is halfway between, and for EQUAL
-- both zeros, an infinity and a NaN. And a decimal and an INT rounded by the theorem: 0.1, and 2 ^ 24 + 1, which is a tie. Assumes nothing.
use mathlib.Core.Path.{◌≡◌, refl}
use Prim.Native.Nat.{◌+◌, ◌-◌, ◌*◌, ◌^◌}
use lib.IntN.{pos, neg_ℤ, ◌*ℤ◌}
use mathlib.Core.Bool.{true, false}
use lib.Dec.{lit<}
use lib.Ieee.{round, to_bits}
use Rattle.rules.specs.Exact.{scale, magnitude, exact}
use Rattle.nearest.specs.Nearest.{midpoint, Rounded}
use Rattle.nearest.specs.Equal.{same_float}
use Rattle.nearest.proofs.Unique.{round_rounded}

smallest : magnitude 0x0000_0001 ≡ 1
unfolding magnitude
smallest = refl

one : magnitude 0x3f80_0000 ≡ 1 * scale
unfolding magnitude
one = refl

minus_two_and_a_half : exact 0xc020_0000 *ℤ pos 2 ≡ neg_ℤ (pos (5 * scale))
unfolding magnitude
minus_two_and_a_half = refl

largest : magnitude 0x7f7f_ffff ≡ (2 ^ 24 - 1) * 2 ^ 104 * scale
unfolding magnitude
largest = refl

halfway : midpoint + midpoint ≡ (2 ^ 24 - 1) * 2 ^ 104 + 2 ^ 128
halfway = refl

both_zeros : same_float 0x0000_0000 0x8000_0000 ≡ true
both_zeros = refl

infinity_itself : same_float 0x7f80_0000 0x7f80_0000 ≡ true
infinity_itself = refl

not_a_number : same_float 0x7fc0_0000 0x7fc0_0000 ≡ false
not_a_number = refl

tenth : Rounded false 1 10 0x3dcc_cccd
unfolding round to_bits
tenth = round_rounded false 1 10 (lit< tt)

tie : Rounded false (2 ^ 24 + 1) 1 0x4b80_0000
unfolding round to_bits
tie = round_rounded false (2 ^ 24 + 1) 1 (lit< tt)
