-- A number raised by two powers of two is raised by their product. Assumes nothing.
use mathlib.Core.Path.{◌≡◌, sym, ap, ◌∙◌}
use Prim.Native.Nat.{ℕ, ◌+◌, ◌*◌, ◌^◌}
use native.Mathlib.Nat.{mul_assoc}
use lib.Pow.{pow-add}

pub raised_twice : (x i j w : ℕ) → i + j ≡ w → x * 2 ^ i * 2 ^ j ≡ x * 2 ^ w
raised_twice x i j w e = mul_assoc x (2 ^ i) (2 ^ j) ∙ ap (λ (y : ℕ). x * y) (sym (pow-add 2 i j) ∙ ap (λ (k : ℕ). 2 ^ k) e)
