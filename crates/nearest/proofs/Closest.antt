-- `closest a u`, by which `round` picks its digits, is the whole number nearest to a / u, and at a tie the even one. Assumes nothing.
use mathlib.Core.Path.{◌≡◌, refl, sym, subst}
use mathlib.Core.Logic.{◌⊎◌, inl, inr}
use mathlib.Core.Bool.{not}
use Prim.Native.Nat.{ℕ, suc, ◌+◌, ◌*◌, ◌/◌, ◌%◌, ◌≤◌, ◌<◌, compare, Ordering}
use native.Mathlib.Nat.{le_trans, div-lt_iff_lt-mul, mul-le-mul_right, suc-mul, div-add-mod', mod-lt, eq-or-lt_of_le}
use native.Mathlib.Omega.{arith}
use lib.Dec.{T, is_le, compare_is_eq, eqb, leb→le, nleb→lt, eqb→eq, eqb_refl}
use lib.Arith.{lt_of_le-ne}
use lib.Ieee.{nearest}
use lib.Ieee.Fits.{nearest-le}
use lib.Ieee.Nearest.{closest}
use Rattle.nearest.specs.Nearest.{apart}
use Rattle.nearest.proofs.Order.{either_way}

-- ---- what `compare` says

abbrev Compared : Ordering → ℕ → ℕ → Type 0
Compared Ordering.lt a b = a < b
Compared Ordering.eq a b = a ≡ b
Compared Ordering.gt a b = b < a

compared : (a b : ℕ) → Compared (compare a b) a b
compared a b = go (compare a b) (leb→le a b) (nleb→lt a b) (eqb→eq a b) (λ (e : a ≡ b). subst (λ (x : ℕ). T (eqb a x)) e (eqb_refl a))
  where
    go : (o : Ordering) → (T (is_le o) → a ≤ b) → (T (not (is_le o)) → b < a) → (T (compare_is_eq o) → a ≡ b) → (a ≡ b → T (compare_is_eq o)) → Compared o a b
    go Ordering.lt h k e n = lt_of_le-ne (h tt) n
    go Ordering.eq h k e n = e tt
    go Ordering.gt h k e n = k tt

-- ---- a = w u + r, and c is any other whole number

module _ (a u w r c : ℕ) (is : w * u + r ≡ a) (small : r < u) where
  -- c is w or less, or above w; then c u is on that side of a
  side : (w * u + u ≤ c * u) ⊎ (c * u ≤ w * u)
  side = go (either_way c w)
    where
      go : (c ≤ w) ⊎ (w < c) → (w * u + u ≤ c * u) ⊎ (c * u ≤ w * u)
      go (inl l) = inr (mul-le-mul_right u l)
      go (inr l) = inl (rw (suc-mul w u) at (mul-le-mul_right u l))

  Beats : ℕ → Type 0
  Beats q = apart (q * u) a ≤ apart (c * u) a

  w_beats : r * 2 ≤ u → Beats w
  unfolding Beats
  w_beats h = elim side [ inl l ↦ omega arith | inr l ↦ omega arith ]

  next_beats : u ≤ r * 2 → Beats (suc w)
  unfolding Beats
  next_beats h = let q : suc w * u ≡ w * u + u = suc-mul w u in elim side [ inl l ↦ omega arith | inr l ↦ omega arith ]

  nearest_beats : (o : Ordering) → Compared o (r * 2) u → Beats (nearest w o)
  nearest_beats Ordering.lt h = w_beats (omega arith)
  nearest_beats Ordering.eq h = go (either_way (w % 2) 0)
    where
      go : (w % 2 ≤ 0) ⊎ (0 < w % 2) → Beats (w + w % 2)
      go (inl l) = subst Beats {x = w} {y = w + w % 2} (omega arith) (w_beats (omega arith))
      go (inr l) = subst Beats {x = suc w} {y = w + w % 2} (omega arith) (next_beats (omega arith))
  nearest_beats Ordering.gt h = next_beats (omega arith)

  -- only w itself is as near as w where a is nearer to w, and only w + 1 where it is nearer to that
  w_only : r * 2 < u → apart (c * u) a ≤ apart (w * u) a → c ≡ w
  w_only h t = go (either_way c w)
    where
      at_most : (c ≡ w) ⊎ (c < w) → c ≡ w
      at_most (inl e) = e
      at_most (inr l) = let p : c * u + u ≤ w * u = rw (suc-mul c u) at (mul-le-mul_right u l) in absurd (omega arith)

      go : (c ≤ w) ⊎ (w < c) → c ≡ w
      go (inl l) = at_most (eq-or-lt_of_le l)
      go (inr l) = let p : w * u + u ≤ c * u = rw (suc-mul w u) at (mul-le-mul_right u l) in absurd (omega arith)

  next_only : u < r * 2 → apart (c * u) a ≤ apart (suc w * u) a → c ≡ suc w
  next_only h t = go (either_way c w)
    where
      q : suc w * u ≡ w * u + u
      q = suc-mul w u

      at_least : (suc w ≡ c) ⊎ (suc w < c) → c ≡ suc w
      at_least (inl e) = sym e
      at_least (inr l) = let p : suc w * u + u ≤ c * u = rw (suc-mul (suc w) u) at (mul-le-mul_right u l) in absurd (omega (arith, q))

      go : (c ≤ w) ⊎ (w < c) → c ≡ suc w
      go (inl l) = let p : c * u ≤ w * u = mul-le-mul_right u l in absurd (omega (arith, q))
      go (inr l) = at_least (eq-or-lt_of_le l)

  nearest_tie : (o : Ordering) → Compared o (r * 2) u → apart (c * u) a ≤ apart (nearest w o * u) a → (c ≡ nearest w o) ⊎ (nearest w o % 2 ≡ 0)
  nearest_tie Ordering.lt h t = inl (w_only h t)
  nearest_tie Ordering.eq h t = inr (omega arith)
  nearest_tie Ordering.gt h t = inl (next_only h t)

-- ---- the laws

-- no whole number of u's is nearer to a
pub closest_beats : (a u c : ℕ) → 0 < u → apart (closest a u * u) a ≤ apart (c * u) a
unfolding Beats
closest_beats a u c h = nearest_beats a u (a / u) (a % u) c (div-add-mod' a u) (mod-lt a h) (compare (a % u * 2) u) (compared (a % u * 2) u)

-- one that is as near is the same, or this one is even
pub closest_tie : (a u c : ℕ) → 0 < u → apart (c * u) a ≤ apart (closest a u * u) a → (c ≡ closest a u) ⊎ (closest a u % 2 ≡ 0)
closest_tie a u c h = nearest_tie a u (a / u) (a % u) c (div-add-mod' a u) (mod-lt a h) (compare (a % u * 2) u) (compared (a % u * 2) u)

-- it is found by the rest: below a half, above it, and at it
module _ (a u : ℕ) where
  pub closest_below : a % u * 2 < u → closest a u ≡ a / u
  closest_below h = go (compare (a % u * 2) u) (compared (a % u * 2) u)
    where
      go : (o : Ordering) → Compared o (a % u * 2) u → nearest (a / u) o ≡ a / u
      go Ordering.lt k = refl
      go Ordering.eq k = absurd (omega arith)
      go Ordering.gt k = absurd (omega arith)

  pub closest_above : u < a % u * 2 → closest a u ≡ a / u + 1
  closest_above h = go (compare (a % u * 2) u) (compared (a % u * 2) u)
    where
      go : (o : Ordering) → Compared o (a % u * 2) u → nearest (a / u) o ≡ a / u + 1
      go Ordering.lt k = absurd (omega arith)
      go Ordering.eq k = absurd (omega arith)
      go Ordering.gt k = omega arith

  pub closest_half : a % u * 2 ≡ u → closest a u ≡ a / u + a / u % 2
  closest_half h = go (compare (a % u * 2) u) (compared (a % u * 2) u)
    where
      go : (o : Ordering) → Compared o (a % u * 2) u → nearest (a / u) o ≡ a / u + a / u % 2
      go Ordering.lt k = absurd (omega arith)
      go Ordering.eq k = refl
      go Ordering.gt k = absurd (omega arith)

-- below m u's it is at most m
pub closest_most : (a u m : ℕ) → 0 < u → a < m * u → closest a u ≤ m
closest_most a u m U h = le_trans (nearest-le (a / u) (compare (a % u * 2) u)) ((div-lt_iff_lt-mul U).1 h)
