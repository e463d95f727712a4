-- Fractions brought over one number, by cross products: sums, differences, quotients, order and equality. Assumes nothing.
use mathlib.Core.Path.{◌≡◌, sym, ap, ap₂, ◌∙◌, subst}
use mathlib.Core.Logic.{◌⊎◌, inl, inr}
use Prim.Native.Nat.{ℕ, ◌+◌, ◌-◌, ◌*◌, ◌≤◌, ◌<◌}
use native.Mathlib.Nat.{lt_irrefl, eq-zero-or-pos, zero-mul, mul_assoc, mul_comm, mul_right_comm, mul-pos, add-mul, mul-sub, mul_left_comm, eq_of_mul-eq-mul_right, mul-le-mul_right, mul-lt-mul_of_pos_right, lt_of_mul-lt-mul_right, le_of_mul-le-mul_right}
use lib.Dec.{ltb, eqb}
use borrow.Author.Tests.{lt-ltb, le-ltb, eq-eqb, ne_eqb, eqb-true, eqb-false}
use Rattle.rules.proofs.Tests.{by_test}
use Rattle.nearest.proofs.Order.{either_way}

sub_mul : (x y k : ℕ) → (x - y) * k ≡ x * k - y * k
sub_mul x y k = mul_comm (x - y) k ∙ mul-sub k x y ∙ ap₂ (λ p q. p - q) (mul_comm k x) (mul_comm k y)

-- ---- two fractions over one number, in two ways: m / c = M / l and n / c = N / l

module _ (m n c M N l : ℕ) (C : 0 < c) (L : 0 < l) (p : m * l ≡ M * c) (q : n * l ≡ N * c) where
  pub same_order : ltb m n ≡ ltb M N
  same_order = go (either_way n m)
    where
      go : (n ≤ m) ⊎ (m < n) → ltb m n ≡ ltb M N
      go (inl h) =
          le-ltb m n h ∙ sym (le-ltb M N (le_of_mul-le-mul_right (subst (λ (x : ℕ). x ≤ M * c) q (subst (λ (x : ℕ). n * l ≤ x) p (mul-le-mul_right l h))) C))
      go (inr h) =
          lt-ltb m n h
          ∙ sym (lt-ltb M N (lt_of_mul-lt-mul_right c (subst (λ (x : ℕ). x < N * c) p (subst (λ (x : ℕ). m * l < x) q (mul-lt-mul_of_pos_right h L)))))

  pub same_equal : eqb m n ≡ eqb M N
  same_equal =
      by_test (eqb m n)
      (λ e. e ∙ sym (eq-eqb M N (eq_of_mul-eq-mul_right c C M N (sym p ∙ ap (λ (x : ℕ). x * l) (eqb-true m n e) ∙ q))))
      (λ e. e ∙ sym (ne_eqb M N (λ h. eqb-false m n e (eq_of_mul-eq-mul_right l L m n (p ∙ ap (λ (x : ℕ). x * c) h ∙ sym q)))))

  pub same_sum : (m + n) * l ≡ (M + N) * c
  same_sum = add-mul m n l ∙ ap₂ (λ x y. x + y) p q ∙ sym (add-mul M N c)

  pub same_difference : (m - n) * l ≡ (M - N) * c
  same_difference = sub_mul m n l ∙ ap₂ (λ x y. x - y) p q ∙ sym (sub_mul M N c)

-- i / e = m / l, brought over e * d, and over d * e
pub first_over : (i e d m l : ℕ) → i * l ≡ m * e → i * d * l ≡ m * (e * d)
first_over i e d m l v = mul_right_comm i d l ∙ ap (λ z. z * d) v ∙ mul_assoc m e d

pub second_over : (i e d m l : ℕ) → i * l ≡ m * e → i * d * l ≡ m * (d * e)
second_over i e d m l v = first_over i e d m l v ∙ ap (λ z. m * z) (mul_comm e d)

-- i / e = m / l and j / d = n / l: then i / e by j / d is m / n
pub cross_quotient : (i e j d m n l : ℕ) → 0 < l → i * l ≡ m * e → j * l ≡ n * d → i * d * n ≡ m * (j * e)
cross_quotient i e j d m n l L v w =
    eq_of_mul-eq-mul_right l L (i * d * n) (m * (j * e))
    (let a : i * d * n * l ≡ i * l * (n * d) = simp (mul_assoc, mul_comm, mul_left_comm) in
    let b : m * e * (j * l) ≡ m * (j * e) * l = simp (mul_assoc, mul_comm, mul_left_comm) in
    a ∙ ap₂ (λ x y. x * y) v (sym w) ∙ b)

-- j u l is zero, where u and l are not, only if j is
pub zero_of : (j u l z : ℕ) → 0 < u → 0 < l → j * u * l ≡ 0 * z → j ≡ 0
zero_of j u l z U L e = elim (eq-zero-or-pos j) [ inl h ↦ h | inr h ↦ absurd (lt_irrefl 0 (subst (λ (k : ℕ). 0 < k) (e ∙ zero-mul z) (mul-pos (mul-pos h U) L))) ]
