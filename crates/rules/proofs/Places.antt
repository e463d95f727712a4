-- The history places: one field of a place as a quotient and a remainder, and what is packed is read back, for any layout of 64 bits. Then the two places.
-- Assumes nothing.
use Prim.Native.Nat.{ℕ, suc, ◌+◌, ◌*◌, ◌/◌, ◌%◌, ◌^◌, ◌<◌}
use mathlib.Core.Path.{◌≡◌, refl, sym, ap, ◌∙◌}
use mathlib.Core.List.{List, [], ◌∷◌}
use native.Mathlib.Nat.{mod-eq_of_lt}
use native.Mathlib.Omega.{arith}
use lib.ListN.{get_or, take, drop}
use Rattle.rules.specs.Fields.{field, total, field_in}
use Rattle.rules.specs.Places.{place_width, packed, field_of, cell_layout, step_layout, cell_place, step_place, mark, cell_address, cell_tag, cell_bits, cell_zeros, step_pc, step_sp, step_fbr, step_count, step_zeros}
use Rattle.rules.proofs.Layouts.{side_read, side_value, laid_out, field_in_lem}

-- ---- any place

-- what is packed is read back, of a number that does not fit its low bits
read_back : (ws vs : List ℕ) (i : ℕ) → total ws ≡ place_width → field_of ws i (packed ws vs) ≡ get_or vs i 0 % 2 ^ get_or ws i 0
read_back ws vs i e =
    ap (field_in ws i) (ap (λ (n : ℕ). field n (packed ws vs)) (sym e) ∙ laid_out ws vs) ∙ side_read ws vs i

reads : (ws vs : List ℕ) (i : ℕ) → total ws ≡ place_width → get_or vs i 0 < 2 ^ get_or ws i 0 → field_of ws i (packed ws vs) ≡ get_or vs i 0
reads ws vs i e h = read_back ws vs i e ∙ mod-eq_of_lt h

-- field i of any place, with those behind it
pub field_is : (ws : List ℕ) (i p : ℕ) → total (take i ws) + get_or ws i 0 + total (drop (suc i) ws) ≡ place_width
    → field_of ws i p ≡ p / 2 ^ total (drop (suc i) ws) % 2 ^ get_or ws i 0
field_is ws i p e = field_in_lem ws i place_width p e

-- ---- the fields of the two places that are asked for as numbers

pub cell_address_is : (p : ℕ) → cell_address p ≡ p / 2 ^ 53 % 2 ^ 10
unfolding cell_address
cell_address_is p = field_is cell_layout 1 p refl

pub cell_zeros_is : (p : ℕ) → cell_zeros p ≡ p / 2 ^ 0 % 2 ^ 18
unfolding cell_zeros
cell_zeros_is p = field_is cell_layout 4 p refl

pub step_zeros_is : (p : ℕ) → step_zeros p ≡ p / 2 ^ 0 % 2 ^ 22
unfolding step_zeros
step_zeros_is p = field_is step_layout 5 p refl

-- ---- the two places: of a number that does not fit, its low bits

pub cell_place_low : (a t b : ℕ) → cell_place a t b ≡ a % 2 ^ 10 * 2 ^ 53 + t % 2 ^ 3 * 2 ^ 50 + b % 2 ^ 32 * 2 ^ 18
unfolding cell_place
cell_place_low a t b = side_value cell_layout (0 ∷ a ∷ t ∷ b ∷ []) ∙ omega arith

pub step_place_low : (pc sp fbr k : ℕ)
    → step_place pc sp fbr k ≡ 2 ^ 63 + pc % 2 ^ 11 * 2 ^ 52 + sp % 2 ^ 10 * 2 ^ 42 + fbr % 2 ^ 10 * 2 ^ 32 + k % 2 ^ 10 * 2 ^ 22
unfolding step_place
step_place_low pc sp fbr k = side_value step_layout (1 ∷ pc ∷ sp ∷ fbr ∷ k ∷ []) ∙ omega arith

-- their marks, so that the one kind is never taken for the other
pub cell_mark_of : (a t b : ℕ) → mark (cell_place a t b) ≡ 0
unfolding mark cell_place
cell_mark_of a t b = read_back cell_layout (0 ∷ a ∷ t ∷ b ∷ []) 0 refl

pub step_mark_of : (pc sp fbr k : ℕ) → mark (step_place pc sp fbr k) ≡ 1
unfolding mark step_place
step_mark_of pc sp fbr k = read_back step_layout (1 ∷ pc ∷ sp ∷ fbr ∷ k ∷ []) 0 refl

module _ (a t b : ℕ) (ha : a < 2 ^ 10) (ht : t < 2 ^ 3) (hb : b < 2 ^ 32) where
  pub cell_address_of : cell_address (cell_place a t b) ≡ a
  unfolding cell_address cell_place
  cell_address_of = reads cell_layout (0 ∷ a ∷ t ∷ b ∷ []) 1 refl ha

  pub cell_tag_of : cell_tag (cell_place a t b) ≡ t
  unfolding cell_tag cell_place
  cell_tag_of = reads cell_layout (0 ∷ a ∷ t ∷ b ∷ []) 2 refl ht

  pub cell_bits_of : cell_bits (cell_place a t b) ≡ b
  unfolding cell_bits cell_place
  cell_bits_of = reads cell_layout (0 ∷ a ∷ t ∷ b ∷ []) 3 refl hb

  pub cell_zeros_of : cell_zeros (cell_place a t b) ≡ 0
  unfolding cell_zeros cell_place
  cell_zeros_of = read_back cell_layout (0 ∷ a ∷ t ∷ b ∷ []) 4 refl

module _ (pc sp fbr k : ℕ) (hp : pc < 2 ^ 11) (hs : sp < 2 ^ 10) (hf : fbr < 2 ^ 10) (hk : k < 2 ^ 10) where
  pub step_pc_of : step_pc (step_place pc sp fbr k) ≡ pc
  unfolding step_pc step_place
  step_pc_of = reads step_layout (1 ∷ pc ∷ sp ∷ fbr ∷ k ∷ []) 1 refl hp

  pub step_sp_of : step_sp (step_place pc sp fbr k) ≡ sp
  unfolding step_sp step_place
  step_sp_of = reads step_layout (1 ∷ pc ∷ sp ∷ fbr ∷ k ∷ []) 2 refl hs

  pub step_fbr_of : step_fbr (step_place pc sp fbr k) ≡ fbr
  unfolding step_fbr step_place
  step_fbr_of = reads step_layout (1 ∷ pc ∷ sp ∷ fbr ∷ k ∷ []) 3 refl hf

  pub step_count_of : step_count (step_place pc sp fbr k) ≡ k
  unfolding step_count step_place
  step_count_of = reads step_layout (1 ∷ pc ∷ sp ∷ fbr ∷ k ∷ []) 4 refl hk

  pub step_zeros_of : step_zeros (step_place pc sp fbr k) ≡ 0
  unfolding step_zeros step_place
  step_zeros_of = read_back step_layout (1 ∷ pc ∷ sp ∷ fbr ∷ k ∷ []) 5 refl
