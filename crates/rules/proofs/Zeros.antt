-- The laws of a list of zeros: its places, its first ones, and the rest. Assumes nothing.
use Prim.Native.Nat.{ℕ, zero, suc, ◌+◌, ◌-◌, ◌≤◌, ◌<◌}
use mathlib.Core.Path.{◌≡◌, refl, sym, ap, ◌∙◌}
use mathlib.Core.List.{List, ◌∷◌}
use native.Mathlib.Nat.{sub-zero, zero-sub, suc-sub-suc, le_of_suc-le-suc, not-suc-le-zero}
use native.Mathlib.Omega.{arith}
use lib.ListN.{get_or, take, drop, set, replicate}
use lib.Seq.{drop-drop, drop-set-lt}

pub zeros_at_lem : (n k : ℕ) → ◌≡◌ {A = ℕ} (get_or (replicate n 0) k 0) 0
zeros_at_lem zero k = refl
zeros_at_lem (suc n) zero = refl
zeros_at_lem (suc n) (suc k) = zeros_at_lem n k

pub take_zeros : (k n : ℕ) → k ≤ n → take {A = ℕ} k (replicate n 0) ≡ replicate k 0
take_zeros zero n h = refl
take_zeros (suc k) zero h = absurd (not-suc-le-zero h)
take_zeros (suc k) (suc n) h = ap (λ (r : List ℕ). 0 ∷ r) (take_zeros k n (le_of_suc-le-suc h))

pub drop_zeros : (k n : ℕ) → drop {A = ℕ} k (replicate n 0) ≡ replicate (n - k) 0
drop_zeros zero n = ap (λ (m : ℕ). replicate m 0) (sym (sub-zero n))
drop_zeros (suc k) zero = ap (λ (m : ℕ). replicate m 0) (sym (zero-sub (suc k)))
drop_zeros (suc k) (suc n) = drop_zeros k n ∙ ap (λ (m : ℕ). replicate m 0) (sym (suc-sub-suc n k))

-- zeros from place i on, of which the first is written
pub rest_set : (n : ℕ) (l : List ℕ) (i v : ℕ) → i < n → drop i l ≡ replicate (n - i) 0 → drop (i + 1) (set l i v) ≡ replicate (n - (i + 1)) 0
rest_set n l i v h e =
    let f : n - i - 1 ≡ n - (i + 1) = omega arith in
    drop-set-lt (i + 1) l i v (omega arith) ∙ sym (drop-drop 1 i l) ∙ ap (drop 1) e ∙ drop_zeros 1 (n - i) ∙ ap (λ (k : ℕ). replicate k 0) f
