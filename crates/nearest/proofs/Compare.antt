-- lib.Ieee's `lt` and `eq` on finite values, given with their signs as fractions over one number l, are the order and the equality of the whole
-- numbers. Assumes nothing.
use mathlib.Core.Path.{◌≡◌, refl, sym, ap, ap₂, ◌∙◌}
use mathlib.Core.Logic.{◌↔◌}
use mathlib.Core.Bool.{Bool, true, false, ◌&&◌, ◌||◌, beq}
use Prim.Native.Nat.{ℕ, zero, suc, ◌+◌, ◌*◌, ◌<◌}
use native.Mathlib.Nat.{zero-add, zero-mul, zero-lt-suc, mul-pos}
use native.Mathlib.Omega.{arith}
use lib.Dec.{ltb, eqb, leb-suc-suc}
use lib.IntN.{pos, neg_ℤ, nat_abs, pos-ne-negsuc}
use lib.Signed.{lt_z}
use borrow.Author.Tests.{lt-ltb, le-ltb, eq-eqb, eqb-true}
use lib.Ieee.{Float, nan, inf, fin, up, down, below, level, lt, eq}
use lib.Ieee.Exact.{HasValue}
use lib.Ieee.Fits.{down_pos}
use Rattle.rules.proofs.Tests.{and_left, and_right, and_then}
use Rattle.rules.specs.Exact.{with_sign}
use Rattle.nearest.proofs.Fractions.{same_order, same_equal, same_sum, first_over, second_over}

-- ---- order

below_exact : (s t : Bool) (m n : ℕ) → below s m t n ≡ lt_z (with_sign s m) (with_sign t n)
below_exact false false m n = refl
below_exact false true m zero = sym (le-ltb m 0 (omega arith))
below_exact false true m (suc n) = refl
below_exact true false zero n = ap (ltb 0) (zero-add n)
below_exact true false (suc m) n = lt-ltb 0 (suc m + n) (omega arith)
below_exact true true zero zero = refl
below_exact true true zero (suc n) = le-ltb (suc n) 0 (omega arith)
below_exact true true (suc m) zero = lt-ltb 0 (suc m) (zero-lt-suc m)
below_exact true true (suc m) (suc n) = leb-suc-suc (suc n) m

-- m / c and n / c are M / l and N / l
below_same : (s t : Bool) (m n c M N l : ℕ) → 0 < c → 0 < l → m * l ≡ M * c → n * l ≡ N * c → below s m t n ≡ below s M t N
below_same false false m n c M N l C L p q = same_order m n c M N l C L p q
below_same false true m n c M N l C L p q = refl
below_same true false m n c M N l C L p q =
    same_order 0 (m + n) c 0 (M + N) l C L (zero-mul l ∙ sym (zero-mul c)) (same_sum m n c M N l C L p q)
below_same true true m n c M N l C L p q = same_order n m c N M l C L q p

pub lt_exact : (s t : Bool) (m n l : ℕ) → 0 < l → (x y : Float) → HasValue x s m l → HasValue y t n l → lt x y ≡ lt_z (with_sign s m) (with_sign t n)
unfolding lt
lt_exact s t m n l L nan y v w = absurd v
lt_exact s t m n l L (inf u) y v w = absurd v
lt_exact s t m n l L (fin u i e) nan v w = absurd w
lt_exact s t m n l L (fin u i e) (inf u') v w = absurd w
lt_exact s t m n l L (fin u i e) (fin u' j d) v w =
    ap₂ (λ a b. below a (i * up e * down d) b (j * up d * down e)) v.0 w.0
    ∙ below_same s t (i * up e * down d) (j * up d * down e) (down e * down d) m n l (mul-pos (down_pos e) (down_pos d)) L
    (first_over (i * up e) (down e) (down d) m l v.1) (second_over (j * up d) (down d) (down e) n l w.1)
    ∙ below_exact s t m n

-- ---- equality

-- a whole number with a sign has one size
size_of : (s : Bool) (m : ℕ) → nat_abs (with_sign s m) ≡ m
size_of false m = refl
size_of true zero = refl
size_of true (suc m) = refl

pub one_size : (s t : Bool) (m n : ℕ) → with_sign s m ≡ with_sign t n → m ≡ n
one_size s t m n e = sym (size_of s m) ∙ ap nat_abs e ∙ size_of t n

-- with unlike signs only zeros are one number
pub unlike_zero : (m n : ℕ) → pos m ≡ neg_ℤ (pos n) → m ≡ 0
unlike_zero m zero e = ap nat_abs e
unlike_zero m (suc n) e = absurd (pos-ne-negsuc m n e)

level_one : (s t : Bool) (m n : ℕ) → level s m t n ≡ true → with_sign s m ≡ with_sign t n
level_one s t m n h = go s t (and_right (eqb m n) (beq s t || eqb m 0) h)
  where
    same : m ≡ n
    same = eqb-true m n (and_left (eqb m n) (beq s t || eqb m 0) h)

    go : (s t : Bool) → (beq s t || eqb m 0) ≡ true → with_sign s m ≡ with_sign t n
    go false false k = ap pos same
    go false true k = ap pos (eqb-true m 0 k) ∙ ap (λ (x : ℕ). neg_ℤ (pos x)) (sym (eqb-true m 0 k) ∙ same)
    go true false k = ap (λ (x : ℕ). neg_ℤ (pos x)) (eqb-true m 0 k) ∙ ap pos (sym (eqb-true m 0 k) ∙ same)
    go true true k = ap (λ (x : ℕ). neg_ℤ (pos x)) same

one_level : (s t : Bool) (m n : ℕ) → with_sign s m ≡ with_sign t n → level s m t n ≡ true
one_level s t m n e = and_then (eq-eqb m n (one_size s t m n e)) (go s t e)
  where
    go : (s t : Bool) → with_sign s m ≡ with_sign t n → (beq s t || eqb m 0) ≡ true
    go false false e = refl
    go false true e = eq-eqb m 0 (unlike_zero m n e)
    go true false e = eq-eqb m 0 (one_size true false m n e ∙ unlike_zero n m (sym e))
    go true true e = refl

level_same : (s t : Bool) (m n c M N l : ℕ) → 0 < c → 0 < l → m * l ≡ M * c → n * l ≡ N * c → level s m t n ≡ level s M t N
level_same s t m n c M N l C L p q =
    ap₂ (λ (a z : Bool). a && (beq s t || z)) (same_equal m n c M N l C L p q)
    (same_equal m 0 c M 0 l C L p (zero-mul l ∙ sym (zero-mul c)))

eq_level : (s t : Bool) (m n l : ℕ) → 0 < l → (x y : Float) → HasValue x s m l → HasValue y t n l → eq x y ≡ level s m t n
unfolding eq
eq_level s t m n l L nan y v w = absurd v
eq_level s t m n l L (inf u) y v w = absurd v
eq_level s t m n l L (fin u i e) nan v w = absurd w
eq_level s t m n l L (fin u i e) (inf u') v w = absurd w
eq_level s t m n l L (fin u i e) (fin u' j d) v w =
    ap₂ (λ a b. level a (i * up e * down d) b (j * up d * down e)) v.0 w.0
    ∙ level_same s t (i * up e * down d) (j * up d * down e) (down e * down d) m n l (mul-pos (down_pos e) (down_pos d)) L
    (first_over (i * up e) (down e) (down d) m l v.1) (second_over (j * up d) (down d) (down e) n l w.1)

pub eq_exact : (s t : Bool) (m n l : ℕ) → 0 < l → (x y : Float) → HasValue x s m l → HasValue y t n l
    → (eq x y ≡ true) ↔ (with_sign s m ≡ with_sign t n)
eq_exact s t m n l L x y v w =
    (λ h. level_one s t m n (sym (eq_level s t m n l L x y v w) ∙ h), λ e. eq_level s t m n l L x y v w ∙ one_level s t m n e)
