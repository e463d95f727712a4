-- lib.Ieee's operations on finite values x and y, given with their signs as the fractions m / l and n / l: each is `round` of the exact result.
-- Assumes nothing.
use mathlib.Core.Path.{◌≡◌, refl, sym, ap, ap₂, ◌∙◌, subst}
use mathlib.Core.Bool.{Bool, true, false, not, ◌&&◌, beq, xor, cond}
use Prim.Native.Nat.{ℕ, ◌+◌, ◌-◌, ◌*◌, ◌<◌}
use native.Mathlib.Nat.{lt_irrefl, mul-mul-mul_comm, mul-pos}
use lib.Dec.{ltb}
use lib.IntN.{◌+ℤ◌, ◌-ℤ◌, neg_ℤ, neg_ℤ-neg_ℤ, pos}
use borrow.Author.Tests.{eq-eqb, ne_eqb}
use lib.Ieee.{Float, nan, inf, fin, Format, up, down, round, neg, sum, add, sub, mul, div}
use lib.Ieee.Exact.{HasValue}
use lib.Ieee.Fits.{up_pos, down_pos}
use lib.Ieee.Scale.{round_same}
use lib.Ieee.Positive.{first_pos}
use Rattle.rules.specs.Exact.{with_sign}
use Rattle.nearest.proofs.Fractions.{same_order, same_sum, same_difference, first_over, second_over, cross_quotient, zero_of}
use Rattle.nearest.proofs.Sum.{round_of, sum_exact}

sum_same : (f : Format) (s t : Bool) (m n c M N l : ℕ) → 0 < c → 0 < l → m * l ≡ M * c → n * l ≡ N * c → sum f s m t n c ≡ sum f s M t N l
unfolding sum
sum_same f s t m n c M N l C L p q =
    ap₂ (λ x y. cond (beq s t) x y)
    (round_same f s (m + n) c (M + N) l C L (same_sum m n c M N l C L p q))
    (ap₂ (λ x y. cond (ltb m n) x y)
    (round_same f t (n - m) c (N - M) l C L (same_difference n m c N M l C L q p))
    (ap (λ b. round f (s && b) (m - n) c) (same_order n m c N M l C L q p)
    ∙ round_same f (s && ltb N M) (m - n) c (M - N) l C L (same_difference m n c M N l C L p q))
    ∙ ap (λ b. cond b (round f t (N - M) l) (round f (s && ltb N M) (M - N) l)) (same_order m n c M N l C L p q))

-- ---- the operations

module _ (f : Format) (s t : Bool) (m n l : ℕ) (L : 0 < l) where
  pub add_exact : (x y : Float) → HasValue x s m l → HasValue y t n l → add f x y ≡ round_of f (s && t) (with_sign s m +ℤ with_sign t n) l
  unfolding add
  add_exact nan y v w = absurd v
  add_exact (inf u) y v w = absurd v
  add_exact (fin u i e) nan v w = absurd w
  add_exact (fin u i e) (inf u') v w = absurd w
  add_exact (fin u i e) (fin u' j d) v w =
      ap₂ (λ a b. sum f a (i * up e * down d) b (j * up d * down e) (down e * down d)) v.0 w.0
      ∙ sum_same f s t (i * up e * down d) (j * up d * down e) (down e * down d) m n l (mul-pos (down_pos e) (down_pos d)) L
      (first_over (i * up e) (down e) (down d) m l v.1) (second_over (j * up d) (down d) (down e) n l w.1)
      ∙ sum_exact f s t m n l

  pub mul_exact : (x y : Float) → HasValue x s m l → HasValue y t n l → mul f x y ≡ round f (xor s t) (m * n) (l * l)
  unfolding mul xor
  mul_exact nan y v w = absurd v
  mul_exact (inf u) y v w = absurd v
  mul_exact (fin u i e) nan v w = absurd w
  mul_exact (fin u i e) (inf u') v w = absurd w
  mul_exact (fin u i e) (fin u' j d) v w =
      ap₂ (λ a b. round f (xor a b) (i * up e * (j * up d)) (down e * down d)) v.0 w.0
      ∙ round_same f (xor s t) (i * up e * (j * up d)) (down e * down d) (m * n) (l * l) (mul-pos (down_pos e) (down_pos d)) (mul-pos L L)
      (mul-mul-mul_comm (i * up e) (j * up d) l l ∙ ap₂ (λ a b. a * b) v.1 w.1 ∙ mul-mul-mul_comm m (down e) n (down d))

  pub div_exact : (x y : Float) → 0 < n → HasValue x s m l → HasValue y t n l → div f x y ≡ round f (xor s t) m n
  unfolding div xor
  div_exact nan y N v w = absurd v
  div_exact (inf u) y N v w = absurd v
  div_exact (fin u i e) nan N v w = absurd w
  div_exact (fin u i e) (inf u') N v w = absurd w
  div_exact (fin u i e) (fin u' j d) N v w =
      let J : 0 < j = first_pos j (up d) (first_pos (j * up d) l (subst (λ (z : ℕ). 0 < z) (sym w.1) (mul-pos N (down_pos d)))) in
      rw (ne_eqb j 0 (λ (z : j ≡ 0). lt_irrefl 0 (subst (λ (k : ℕ). 0 < k) z J)))
      (ap₂ (λ a b. round f (xor a b) (i * up e * down d) (j * up d * down e)) v.0 w.0
      ∙ round_same f (xor s t) (i * up e * down d) (j * up d * down e) m n (mul-pos (mul-pos J (up_pos d)) (down_pos e)) N
      (cross_quotient (i * up e) (down e) (j * up d) (down d) m n l L v.1 w.1))

-- by a zero: an infinity, and a NaN where both are zero
module _ (f : Format) (s t : Bool) (l : ℕ) (L : 0 < l) where
  pub div-zero : (m : ℕ) (x y : Float) → 0 < m → HasValue x s m l → HasValue y t 0 l → div f x y ≡ inf (xor s t)
  unfolding div xor
  div-zero m nan y M v w = absurd v
  div-zero m (inf u) y M v w = absurd v
  div-zero m (fin u i e) nan M v w = absurd w
  div-zero m (fin u i e) (inf u') M v w = absurd w
  div-zero m (fin u i e) (fin u' j d) M v w =
      let I : 0 < i = first_pos i (up e) (first_pos (i * up e) l (subst (λ (z : ℕ). 0 < z) (sym v.1) (mul-pos M (down_pos e)))) in
      rw (eq-eqb j 0 (zero_of j (up d) l (down d) (up_pos d) L w.1), ne_eqb i 0 (λ (z : i ≡ 0). lt_irrefl 0 (subst (λ (k : ℕ). 0 < k) z I)))
      (ap₂ (λ a b. inf (xor a b)) v.0 w.0)

  pub zero_div_zero : (x y : Float) → HasValue x s 0 l → HasValue y t 0 l → div f x y ≡ nan
  unfolding div
  zero_div_zero nan y v w = absurd v
  zero_div_zero (inf u) y v w = absurd v
  zero_div_zero (fin u i e) nan v w = absurd w
  zero_div_zero (fin u i e) (inf u') v w = absurd w
  zero_div_zero (fin u i e) (fin u' j d) v w =
      rw (eq-eqb j 0 (zero_of j (up d) l (down d) (up_pos d) L w.1), eq-eqb i 0 (zero_of i (up e) l (down e) (up_pos e) L v.1)) refl

neg_value : (y : Float) (t : Bool) (n l : ℕ) → HasValue y t n l → HasValue (neg y) (not t) n l
unfolding neg
neg_value nan t n l w = w
neg_value (inf u) t n l w = w
neg_value (fin u j d) t n l w = (ap not w.0, w.1)

negated : (t : Bool) (n : ℕ) → with_sign (not t) n ≡ neg_ℤ (with_sign t n)
negated true n = sym (neg_ℤ-neg_ℤ (pos n))
negated false n = refl

pub sub_exact : (f : Format) (s t : Bool) (m n l : ℕ) → 0 < l → (x y : Float) → HasValue x s m l → HasValue y t n l
    → sub f x y ≡ round_of f (s && not t) (with_sign s m -ℤ with_sign t n) l
unfolding sub
sub_exact f s t m n l L x y v w =
    add_exact f s (not t) m n l L x (neg y) v (neg_value y t n l w) ∙ ap (λ z. round_of f (s && not t) (with_sign s m +ℤ z) l) (negated t n)
