-- Where the digits that `round` keeps are even, the last bit of the result is 0. Assumes nothing.
use mathlib.Core.Path.{◌≡◌, sym, ap, ◌∙◌}
use mathlib.Core.Logic.{◌⊎◌, inl, inr}
use Prim.Native.Nat.{ℕ, ◌-◌, ◌*◌, ◌/◌, ◌%◌, ◌^◌, ◌≤◌, ◌<◌, compare}
use native.Mathlib.Nat.{le_trans, mul_assoc, mul_right_comm, mul-mod_left, mul-le-mul_left, eq_of_mul-eq-mul_right, div-div-eq-div-mul}
use native.Mathlib.Omega.{arith}
use lib.Pow.{pow-add, pow_pos, pow_mono}
use lib.Ieee.Digits.{back}
use lib.Ieee.Fits.{kept-lt, nearest-le}
use lib.Ieee.Order.{drop, kept}
use Rattle.rules.specs.Exact.{magnitude}
use Rattle.nearest.proofs.Order.{either_way}
use Rattle.nearest.proofs.Parts.{parts}

pub kept_le : (p n c : ℕ) → kept p n c ≤ 2 ^ p
kept_le p n c =
    le_trans (nearest-le (n / (c * 2 ^ drop p n c)) (compare (n % (c * 2 ^ drop p n c) * 2) (c * 2 ^ drop p n c)))
    (rw (div-div-eq-div-mul n c (2 ^ drop p n c)) at (kept-lt p (n / c)))

even_times : (m n : ℕ) → m % 2 ≡ 0 → m * n % 2 ≡ 0
even_times m n e =
    let h : m / 2 * 2 ≡ m = omega arith in
    ap (λ (x : ℕ). x * n % 2) (sym h) ∙ ap (λ (x : ℕ). x % 2) (mul_right_comm (m / 2) 2 n) ∙ mul-mod_left (m / 2 * n) 2

-- one power of two taken out of both sides
cancel : (m n j k : ℕ) → j ≤ k → m * 2 ^ j ≡ n * 2 ^ k → m ≡ n * 2 ^ (k - j)
cancel m n j k h e =
    eq_of_mul-eq-mul_right (2 ^ j) (pow_pos j) m (n * 2 ^ (k - j))
    (e ∙ ap (λ (x : ℕ). n * x) (ap (λ (x : ℕ). 2 ^ x) (sym (back k j h)) ∙ pow-add 2 (k - j) j) ∙ sym (mul_assoc n (2 ^ (k - j)) (2 ^ j)))

-- two ways to write one number: n even and at most 2 ^ 24, and m with all 24 digits in use where its power is above 0
even_digits : (m j n k : ℕ) → (0 < j → 2 ^ 23 ≤ m) → n ≤ 2 ^ 24 → n % 2 ≡ 0 → m * 2 ^ j ≡ n * 2 ^ k → m % 2 ≡ 0
even_digits m j n k full l e h = go (either_way j k)
  where
    go : (j ≤ k) ⊎ (k < j) → m % 2 ≡ 0
    go (inl a) = ap (λ (y : ℕ). y % 2) (cancel m n j k a h) ∙ even_times n (2 ^ (k - j)) e
    go (inr a) =
        let b : m * 2 ≤ m * 2 ^ (j - k) = mul-le-mul_left m (pow_mono {i = 1} {j = j - k} (omega arith)) in
        let c : n ≡ m * 2 ^ (j - k) = cancel n m k j (omega arith) (sym h) in
        let d : 2 ^ 23 ≤ m = full (omega arith) in
        omega arith

pub even_bits : (x n k : ℕ) → n ≤ 2 ^ 24 → n % 2 ≡ 0 → magnitude x ≡ n * 2 ^ k → x % 2 ≡ 0
even_bits x n k l e h =
    let p = parts x in
    sym p.last ∙ even_digits p.digits p.power n k p.full l e (sym p.is ∙ h)
