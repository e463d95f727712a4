-- Where an offset leads, and what the instructions with offsets decide there. Assumes nothing.
use Rattle.std.specs.Prelude.{Option, Some, None, Ok, Err}
use Prim.Native.Nat.{ℕ, suc, ◌+◌, ◌-◌, ◌^◌, ◌≤◌, ◌<◌}
use mathlib.Core.Path.{◌≡◌, refl, ap}
use mathlib.Core.Bool.{true, false}
use native.Mathlib.Omega.{arith}
use lib.IntN.{ℤ, pos, negsuc, nat_abs, ◌+ℤ◌}
use lib.Dec.{ltb}
use borrow.Author.Tests.{lt-ltb, le-ltb, le-leb, lt-leb, ltb-true, ltb-false}
use Rattle.rules.proofs.Tests.{by_test}
use Rattle.rules.proofs.Readings.{signed_plus, signed_minus}
use Rattle.rules.specs.Words.{signed}
use Rattle.rules.specs.Tags.{int}
use Rattle.rules.specs.Effects.{memory_address, moved}
use Rattle.rules.specs.Decide.{enough}
use Rattle.rules.specs.Actions.{frame, inside, taken, add_sp}
use Rattle.machine.specs.Families.{on_operand}
use Rattle.rules.specs.declared.MemoryAddress.{MemoryAddress}
use Rattle.rules.specs.declared.Registers.{Registers}
use Rattle.rules.specs.declared.MachineRefusal.TheVariants.{TooFewValues}
use Rattle.machine.specs.Reach.{reach_of}

-- ---- what that says of the number

reached : (z : ℤ) (a : MemoryAddress) → Some a ≡ reach_of z → z ≡ pos a.0
reached (pos n) a e = cc
reached (negsuc n) a e = cc

beneath : (z : ℤ) → None ≡ reach_of z → z ≡ negsuc (nat_abs z - 1)
beneath (pos n) e = cc
beneath (negsuc n) e = ap negsuc (omega arith)

-- ---- as many values as are taken away

few_taken : (s : ℕ) (z : ℤ) → None ≡ reach_of (pos s +ℤ z) → enough (taken z) s ≡ false
few_taken s (pos k) e = absurd (let y : ◌≡◌ {A = ℕ} 0 1 = cc in let x : ⊥ = omega arith in x)
few_taken s (negsuc k) e =
    by_test (ltb s (suc k))
    (λ h. lt-leb (suc k) s (ltb-true s (suc k) h))
    (λ h. absurd (let z : ◌≡◌ {A = Option MemoryAddress} None (Some (record { 0 = s - suc k })) = rw h at e in let y : ◌≡◌ {A = ℕ} 0 1 = cc in let x : ⊥ = omega arith in x))

module _ (r : Registers) (n : ℕ) where
  -- ---- ADDSP
  pub add_below : None ≡ reach_of (pos r.sp +ℤ signed n) → on_operand add_sp r n (int 0) ≡ Err TooFewValues
  add_below e = rw (few_taken r.sp (signed n) e) refl

  -- ---- an address from FBR
  module _ (limit : ℕ) where
    pub frame_out : (a : MemoryAddress) → Some a ≡ reach_of (pos r.fbr +ℤ signed n) → limit ≤ a.0 → inside (frame r n) limit ≡ false
    frame_out a e h = rw (reached (pos r.fbr +ℤ signed n) a e) (le-ltb a.0 limit h)

    pub frame_below : None ≡ reach_of (pos r.fbr +ℤ signed n) → inside (frame r n) limit ≡ false
    frame_below e = ap (λ (z : ℤ). inside z limit) (beneath (pos r.fbr +ℤ signed n) e)
