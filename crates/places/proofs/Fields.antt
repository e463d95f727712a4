-- Each field of a place as the code reads it, by its weight and its span. Assumes nothing.
use Prim.Native.Nat.{ℕ, ◌/◌, ◌%◌}
use mathlib.Core.Path.{◌≡◌, refl}
use native.Mathlib.Omega.{arith}
use Rattle.rules.specs.Places.{cell_layout, step_layout, mark, cell_address, cell_tag, cell_bits, cell_zeros, step_pc, step_sp, step_fbr, step_count, step_zeros}
use Rattle.rules.proofs.Places as rules

module _ (p : ℕ) where
  pub mark_is : mark p ≡ p / 0x8000_0000_0000_0000 % 2
  unfolding mark
  mark_is = rules.field_is cell_layout 0 p refl

  pub address_is : cell_address p ≡ p / 0x0020_0000_0000_0000 % 0x400
  address_is = rules.cell_address_is p

  pub tag_is : cell_tag p ≡ p / 0x0004_0000_0000_0000 % 8
  unfolding cell_tag
  tag_is = rules.field_is cell_layout 2 p refl

  pub bits_is : cell_bits p ≡ p / 0x0004_0000 % 0x1_0000_0000
  unfolding cell_bits
  bits_is = rules.field_is cell_layout 3 p refl

  pub cell_zeros_is : cell_zeros p ≡ p % 0x0004_0000
  cell_zeros_is = omega (arith, rules.cell_zeros_is p)

  pub pc_is : step_pc p ≡ p / 0x0010_0000_0000_0000 % 0x800
  unfolding step_pc
  pc_is = rules.field_is step_layout 1 p refl

  pub sp_is : step_sp p ≡ p / 0x0400_0000_0000 % 0x400
  unfolding step_sp
  sp_is = rules.field_is step_layout 2 p refl

  pub fbr_is : step_fbr p ≡ p / 0x0001_0000_0000 % 0x400
  unfolding step_fbr
  fbr_is = rules.field_is step_layout 3 p refl

  pub count_is : step_count p ≡ p / 0x0040_0000 % 0x400
  unfolding step_count
  count_is = rules.field_is step_layout 4 p refl

  pub step_zeros_is : step_zeros p ≡ p % 0x0040_0000
  step_zeros_is = omega (arith, rules.step_zeros_is p)

pub ruleset fields = (mark_is, address_is, tag_is, bits_is, cell_zeros_is, pc_is, sp_is, fbr_is, count_is, step_zeros_is)
