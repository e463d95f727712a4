-- A record whose step place is place i is not well formed where the history has no such place. Assumes nothing.
use Prim.Native.Nat.{ℕ, ◌≤◌, ◌<◌}
use mathlib.Core.Path.{◌≡◌, refl, sym, ap, ◌∙◌}
use mathlib.Core.Bool.{Bool, true, false, ◌&&◌, false≢true}
use mathlib.Core.List.{List}
use native.Mathlib.Omega.{arith}
use lib.ListN.{length, get_or, get_or-eq_default}
use lib.Dec.{eqb}
use Rattle.rules.specs.Places.{cell_layout, mark}
use Rattle.rules.specs.Records.{record_at, formed_cells, step_tests, formed_record}
use Rattle.rules.proofs.Places.{field_is}
use Rattle.rules.proofs.Tests.{every_false}

module _ (n count i : ℕ) (history : List ℕ) where
  -- what is read behind the last place has no mark
  zero_unmarked : mark 0 ≡ 0
  unfolding mark
  zero_unmarked = field_is cell_layout 0 0 refl

  pub record_outside : length history ≤ i → formed_record n count (record_at i history) ≡ false
  record_outside h =
      let none : get_or history i 0 ≡ 0 = get_or-eq_default history 0 h in
      let unmarked : mark (get_or history i 0) ≡ 0 = ap mark none ∙ zero_unmarked in
      ap (λ (b : Bool). b && formed_cells n count 0 (record_at i history).cells)
      (every_false (step_tests n count i (get_or history i 0)) 0 (ap (λ (k : ℕ). eqb k 1) unmarked))

  pub record_inside : formed_record n count (record_at i history) ≡ true → i < length history
  record_inside formed =
      let inside : length history ≤ i → ⊥ = λ h. false≢true (sym (record_outside h) ∙ formed) in omega arith
