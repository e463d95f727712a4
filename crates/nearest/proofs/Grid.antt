-- What `round` makes of a fraction n / c in units of a format's smallest value, the kept digits times 2 ^ the number of those dropped: of all the
-- numbers q * 2 ^ j with q of at most p digits none is nearer, and one that is as near is the same number, or the kept digits are even. Assumes nothing.
use mathlib.Core.Path.{◌≡◌, sym, ap, ◌∙◌, subst}
use mathlib.Core.Logic.{◌⊎◌, inl, inr}
use Prim.Native.Nat.{ℕ, ◌+◌, ◌-◌, ◌*◌, ◌/◌, ◌%◌, ◌^◌, ◌≤◌, ◌<◌}
use native.Mathlib.Nat.{le_trans, lt_of_lt_of_le, le_of_eq, mul_assoc, mul_comm, mul-pos, mul-lt-mul_of_pos_right, le-div_iff_mul-le}
use native.Mathlib.Omega.{arith}
use lib.Pow.{pow-add, pow_pos, pow_mono}
use lib.Ieee.{size}
use lib.Ieee.Digits.{size_reaches, back}
use lib.Ieee.Order.{drop, kept}
use Rattle.nearest.specs.Nearest.{apart}
use Rattle.nearest.proofs.Order.{either_way}
use Rattle.nearest.proofs.Closest.{closest_beats, closest_tie}

in_use : (z p : ℕ) → 0 < p → 0 < z - p → p - 1 + (z - p) < z
in_use z p P h = omega arith

room : (p j k : ℕ) → 0 < p → j < k → p + j ≤ p - 1 + k
room p j k P h = omega arith

module _ (p n c : ℕ) (P : 0 < p) (C : 0 < c) where
  dropped : ℕ
  dropped = drop p n c

  -- the result is a multiple of `step`, in units of 1 / c
  step : ℕ
  unfolding dropped
  step = c * 2 ^ dropped

  digits : ℕ
  unfolding step
  digits = kept p n c

  step_pos : 0 < step
  unfolding step
  step_pos = mul-pos C (pow_pos dropped)

  in_steps : (x : ℕ) → x * 2 ^ dropped * c ≡ x * step
  unfolding step
  in_steps x = mul_assoc x (2 ^ dropped) c ∙ ap (λ (y : ℕ). x * y) (mul_comm (2 ^ dropped) c)

  module _ (q j : ℕ) (few : q < 2 ^ p) where
    -- with j at least `dropped` it is a multiple of a step
    raised : dropped ≤ j → q * 2 ^ (j - dropped) * 2 ^ dropped ≡ q * 2 ^ j
    raised h =
        mul_assoc q (2 ^ (j - dropped)) (2 ^ dropped)
        ∙ ap (λ (x : ℕ). q * x) (sym (pow-add 2 (j - dropped) dropped) ∙ ap (λ (x : ℕ). 2 ^ x) (back j dropped h))

    raised_steps : dropped ≤ j → q * 2 ^ (j - dropped) * step ≡ q * 2 ^ j * c
    raised_steps h = sym (in_steps (q * 2 ^ (j - dropped))) ∙ ap (λ (x : ℕ). x * c) (raised h)

    -- with j below it it is less than 2 ^ (p - 1) steps, which are no more than n
    lower : j < dropped → q * 2 ^ j * c < 2 ^ (p - 1) * 2 ^ dropped * c
    lower h =
        mul-lt-mul_of_pos_right
        (lt_of_lt_of_le (mul-lt-mul_of_pos_right few (pow_pos j))
        (le_trans (le_of_eq (sym (pow-add 2 p j))) (le_trans (pow_mono (room p j dropped P h)) (le_of_eq (pow-add 2 (p - 1) dropped)))))
        C

    reached : j < dropped → 2 ^ (p - 1) * 2 ^ dropped * c ≤ n
    unfolding dropped
    reached h =
        (le-div_iff_mul-le C).0
        (le_trans (le_of_eq (sym (pow-add 2 (p - 1) dropped))) (size_reaches (n / c) (p - 1 + dropped) (in_use (size (n / c)) p P (omega arith))))

    further : j < dropped → apart (digits * step) n < apart (q * 2 ^ j * c) n
    unfolding digits
    further h =
        let a : q * 2 ^ j * c < 2 ^ (p - 1) * step = subst (λ (x : ℕ). q * 2 ^ j * c < x) (in_steps (2 ^ (p - 1))) (lower h) in
        let b : 2 ^ (p - 1) * step ≤ n = subst (λ (x : ℕ). x ≤ n) (in_steps (2 ^ (p - 1))) (reached h) in
        let d : apart (digits * step) n ≤ apart (2 ^ (p - 1) * step) n = closest_beats n step (2 ^ (p - 1)) step_pos in
        omega arith

    beats : apart (digits * 2 ^ dropped * c) n ≤ apart (q * 2 ^ j * c) n
    unfolding digits
    beats = rw (in_steps digits) (go (either_way dropped j))
      where
        go : (dropped ≤ j) ⊎ (j < dropped) → apart (digits * step) n ≤ apart (q * 2 ^ j * c) n
        go (inl h) = subst (λ (x : ℕ). apart (digits * step) n ≤ apart x n) (raised_steps h) (closest_beats n step (q * 2 ^ (j - dropped)) step_pos)
        go (inr h) = let f : apart (digits * step) n < apart (q * 2 ^ j * c) n = further h in omega arith

    tie : apart (q * 2 ^ j * c) n ≤ apart (digits * 2 ^ dropped * c) n → (q * 2 ^ j ≡ digits * 2 ^ dropped) ⊎ (digits % 2 ≡ 0)
    unfolding digits
    tie t = go (either_way dropped j) (rw (in_steps digits) at t)
      where
        pick : dropped ≤ j → (q * 2 ^ (j - dropped) ≡ digits) ⊎ (digits % 2 ≡ 0) → (q * 2 ^ j ≡ digits * 2 ^ dropped) ⊎ (digits % 2 ≡ 0)
        pick h (inl e) = inl (sym (raised h) ∙ ap (λ (x : ℕ). x * 2 ^ dropped) e)
        pick h (inr e) = inr e

        go : (dropped ≤ j) ⊎ (j < dropped) → apart (q * 2 ^ j * c) n ≤ apart (digits * step) n → (q * 2 ^ j ≡ digits * 2 ^ dropped) ⊎ (digits % 2 ≡ 0)
        go (inl h) t =
            pick h (closest_tie n step (q * 2 ^ (j - dropped)) step_pos
            (subst (λ (x : ℕ). apart x n ≤ apart (digits * step) n) (sym (raised_steps h)) t))
        go (inr h) t = let f : apart (digits * step) n < apart (q * 2 ^ j * c) n = further h in absurd (omega arith)

pub grid_beats : (p n c q j : ℕ) → 0 < p → 0 < c → q < 2 ^ p → apart (kept p n c * 2 ^ drop p n c * c) n ≤ apart (q * 2 ^ j * c) n
unfolding dropped step digits
grid_beats p n c q j P C few = beats p n c P C q j few

pub grid_tie : (p n c q j : ℕ) → 0 < p → 0 < c → q < 2 ^ p → apart (q * 2 ^ j * c) n ≤ apart (kept p n c * 2 ^ drop p n c * c) n
    → (q * 2 ^ j ≡ kept p n c * 2 ^ drop p n c) ⊎ (kept p n c % 2 ≡ 0)
unfolding dropped step digits
grid_tie p n c q j P C few = tie p n c P C q j few
