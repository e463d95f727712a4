-- lib.Ieee's `sum` of two fractions over one number, each with its sign, is `round` of the sum of the two whole numbers with their signs. Assumes nothing.
use mathlib.Core.Path.{◌≡◌, refl, sym, ap, ap₂, ◌∙◌}
use mathlib.Core.Bool.{Bool, true, false, ◌&&◌, cond}
use Prim.Native.Nat.{ℕ, zero, suc, ◌+◌, ◌-◌, ◌≤◌, ◌<◌}
use native.Mathlib.Omega.{arith}
use lib.Dec.{ltb}
use lib.IntN.{ℤ, pos, negsuc, neg_ℤ, nat_abs, sub_ℕ, ◌+ℤ◌, +ℤ_comm, neg_ℤ-+ℤ}
use borrow.Author.Tests.{le-ltb, ltb-true, ltb-false}
use lib.Ieee.{Float, Format, round, sum}
use Rattle.rules.specs.Exact.{with_sign}
use Rattle.nearest.specs.Nearest.{sign_or}

-- round of z / l, where z is a whole number with a sign, and zero has the sign s
abbrev pub round_of : Format → Bool → ℤ → ℕ → Float
round_of f s z l = round f (sign_or s z) (nat_abs z) l

plus_sign : (n : ℕ) → sign_or false (pos n) ≡ false
plus_sign zero = refl
plus_sign (suc n) = refl

minus_sign_lem : (n : ℕ) → sign_or true (neg_ℤ (pos n)) ≡ true
minus_sign_lem zero = refl
minus_sign_lem (suc n) = refl

minus_size : (n : ℕ) → nat_abs (neg_ℤ (pos n)) ≡ n
minus_size zero = refl
minus_size (suc n) = refl

-- m - n, with its sign, rounded
add_minus : (m n : ℕ) → pos m +ℤ neg_ℤ (pos n) ≡ sub_ℕ m n
add_minus m zero = rw (le-ltb m 0 (omega arith)) (ap pos (omega arith))
add_minus m (suc n) = refl

difference : (f : Format) (m n l : ℕ) → round_of f false (sub_ℕ m n) l ≡ cond (ltb m n) (round f true (n - m) l) (round f false (m - n) l)
difference f m n l = go (ltb m n) (ltb-true m n)
  where
    go : (b : Bool) → (b ≡ true → m < n)
        → round_of f false (cond b (negsuc (n - suc m)) (pos (m - n))) l ≡ cond b (round f true (n - m) l) (round f false (m - n) l)
    go true h = let k : m < n = h refl in ap (λ (x : ℕ). round f true x l) {x = suc (n - suc m)} {y = n - m} (omega arith)
    go false h = ap (λ (t : Bool). round f t (m - n) l) (plus_sign (m - n))

-- the tests that `sum` makes where the first is negative come to n - m rounded
crossed : (f : Format) (m n l : ℕ)
    → cond (ltb m n) (round f false (n - m) l) (round f (ltb n m) (m - n) l) ≡ cond (ltb n m) (round f true (m - n) l) (round f false (n - m) l)
crossed f m n l = go (ltb m n) (ltb n m) (ltb-true m n) (ltb-true n m) (ltb-false m n) (ltb-false n m)
  where
    go : (a b : Bool) → (a ≡ true → m < n) → (b ≡ true → n < m) → (a ≡ false → n ≤ m) → (b ≡ false → m ≤ n)
        → cond a (round f false (n - m) l) (round f b (m - n) l) ≡ cond b (round f true (m - n) l) (round f false (n - m) l)
    go true true h k h' k' = let a : m < n = h refl in let b : n < m = k refl in absurd (omega arith)
    go true false h k h' k' = refl
    go false true h k h' k' = refl
    go false false h k h' k' =
        let a : n ≤ m = h' refl in
        let b : m ≤ n = k' refl in
        ap (λ (x : ℕ). round f false x l) {x = m - n} {y = n - m} (omega arith)

pub sum_exact : (f : Format) (s t : Bool) (m n l : ℕ) → sum f s m t n l ≡ round_of f (s && t) (with_sign s m +ℤ with_sign t n) l
unfolding sum
sum_exact f false false m n l = sym (ap (λ (t : Bool). round f t (m + n) l) (plus_sign (m + n)))
sum_exact f true true m n l =
    sym (ap (λ z. round_of f true z l) (sym (neg_ℤ-+ℤ (pos m) (pos n))) ∙ ap₂ (λ t k. round f t k l) (minus_sign_lem (m + n)) (minus_size (m + n)))
sum_exact f false true m n l = sym (ap (λ z. round_of f false z l) (add_minus m n) ∙ difference f m n l)
sum_exact f true false m n l =
    crossed f m n l ∙ sym (ap (λ z. round_of f false z l) (+ℤ_comm (neg_ℤ (pos m)) (pos n) ∙ add_minus n m) ∙ difference f n m l)
