-- Document 02, letter b, of the bits of any two cells: EQUAL of two FLOATs is 0 with a NaN, 1 of two zeros, and else 1 exactly where the bits are
-- equal; ISNIL of a FLOAT is 1 exactly for both zeros. Assumes nothing.
use mathlib.Core.Path.{◌≡◌, refl, sym, ap, ◌∙◌, subst}
use mathlib.Core.Logic.{◌⊎◌, inl, inr}
use mathlib.Core.Bool.{Bool, true, false, not, ◌&&◌, ◌||◌, beq, cond, true≢false}
use Prim.Native.Nat.{ℕ, ◌*◌, ◌^◌, ◌<◌}
use lib.Dec.{T, eqb, lit<}
use lib.Pow.{field}
use borrow.Author.Tests.{eq-eqb, eqb-true, eqb-false}
use lib.Ieee.{Float, nan, inf, fin, binary32, up, down, is_nan, eq, nan_bits, of_bits, to_bits}
use lib.Ieee.Scale.{finite}
use lib.Ieee.Bits.{nan_bits_is, to_bits-of_bits}
use Rattle.rules.specs.Tags.{float}
use Rattle.rules.specs.Floats.{equal_f}
use Rattle.rules.specs.Actions.{agree, nil}
use Rattle.rules.proofs.Tests.{by_test, either, or_left, or_right, and_left, and_right, and_then}
use Rattle.rules.specs.Exact.{negative, fraction, stands_for_nan, magnitude, with_sign, exact}
use Rattle.nearest.specs.Nearest.{Finite}
use Rattle.nearest.specs.Equal.{is_zero, same_float}
use Rattle.nearest.proofs.Cell.{read_finite}
use Rattle.nearest.proofs.Parts.{one_magnitude}
use Rattle.nearest.proofs.Compare.{one_size, unlike_zero}
use Rattle.nearest.proofs.Cells.{equal_exact}

-- ---- "a NaN equal to nothing"

pub nan_read : (b : ℕ) → stands_for_nan b ≡ is_nan (of_bits binary32 b)
unfolding nan_bits
nan_read b = ap (λ (e : ℕ). eqb e 255 && not (eqb (fraction b) 0)) (sym (field b 8 23)) ∙ nan_bits_is binary32 b

nan_left : (x y : Float) → is_nan x ≡ true → eq x y ≡ false
unfolding eq is_nan
nan_left nan y h = refl
nan_left (inf s) y h = absurd (true≢false (sym h))
nan_left (fin s m e) y h = absurd (true≢false (sym h))

nan_nothing : (x : Float) → eq x nan ≡ false
unfolding eq
nan_nothing nan = refl
nan_nothing (inf s) = refl
nan_nothing (fin s m e) = refl

nan_right : (x y : Float) → is_nan y ≡ true → eq x y ≡ false
unfolding is_nan
nan_right x nan h = nan_nothing x
nan_right x (inf s) h = absurd (true≢false (sym h))
nan_right x (fin s m e) h = absurd (true≢false (sym h))

nan_unequal : (b t : ℕ) → (stands_for_nan b || stands_for_nan t) ≡ true → equal_f b t ≡ false
unfolding equal_f
nan_unequal b t h =
    by_test (stands_for_nan b)
    (λ e. nan_left (of_bits binary32 b) (of_bits binary32 t) (sym (nan_read b) ∙ e))
    (λ e. nan_right (of_bits binary32 b) (of_bits binary32 t) (sym (nan_read t) ∙ ap (λ (a : Bool). a || stands_for_nan t) (sym e) ∙ h))

-- ---- "both zeros equal"

zero_cases : (b : ℕ) → is_zero b ≡ true → (b ≡ 0) ⊎ (b ≡ 2 ^ 31)
zero_cases b h =
    by_test (eqb b 0)
    (λ e. inl (eqb-true b 0 e))
    (λ e. inr (eqb-true b (2 ^ 31) (ap (λ (a : Bool). a || eqb b (2 ^ 31)) (sym e) ∙ h)))

zeros_equal : (b t : ℕ) → is_zero b ≡ true → is_zero t ≡ true → equal_f b t ≡ true
unfolding equal_f eq of_bits
zeros_equal b t p q =
    elim (zero_cases b p) [
      | inl e ↦ elim (zero_cases t q) [ inl d ↦ rw (e, d) refl | inr d ↦ rw (e, d) refl ]
      | inr e ↦ elim (zero_cases t q) [ inl d ↦ rw (e, d) refl | inr d ↦ rw (e, d) refl ]
    ]

-- ---- every other value has bits that are its own

value_itself : (x : Float) → eq x x ≡ not (is_nan x)
unfolding eq is_nan
value_itself nan = refl
value_itself (inf true) = refl
value_itself (inf false) = refl
value_itself (fin true m e) = rw (eq-eqb (m * up e * down e) (m * up e * down e) refl) refl
value_itself (fin false m e) = rw (eq-eqb (m * up e * down e) (m * up e * down e) refl) refl

pub equal_itself : (b : ℕ) → equal_f b b ≡ not (is_nan (of_bits binary32 b))
unfolding equal_f
equal_itself b = value_itself (of_bits binary32 b)

plus_zero : Finite 0
plus_zero = record { cell = lit< tt; field = lit< tt }

minus_zero : Finite (2 ^ 31)
minus_zero = record { cell = lit< tt; field = lit< tt }

zero_bits : (b : ℕ) → Finite b → magnitude b ≡ 0 → is_zero b ≡ true
unfolding magnitude
zero_bits b fb z =
    by_test (negative b)
    (λ s. rw (one_magnitude b (2 ^ 31) fb minus_zero s z) refl)
    (λ s. rw (one_magnitude b 0 fb plus_zero s z) refl)

finite_equal : (b t : ℕ) → Finite b → Finite t → exact b ≡ exact t → (b ≡ t) ⊎ ((is_zero b && is_zero t) ≡ true)
finite_equal b t fb ft e = go (negative b) (negative t) refl refl e
  where
    size : magnitude b ≡ magnitude t
    size = one_size (negative b) (negative t) (magnitude b) (magnitude t) e

    zeros : magnitude b ≡ 0 → (is_zero b && is_zero t) ≡ true
    zeros z = and_then (zero_bits b fb z) (zero_bits t ft (sym size ∙ z))

    go : (s u : Bool) → negative b ≡ s → negative t ≡ u → with_sign s (magnitude b) ≡ with_sign u (magnitude t)
        → (b ≡ t) ⊎ ((is_zero b && is_zero t) ≡ true)
    go false false p q e = inl (one_magnitude b t fb ft (p ∙ sym q) size)
    go false true p q e = inr (zeros (unlike_zero (magnitude b) (magnitude t) e))
    go true false p q e = inr (zeros (size ∙ unlike_zero (magnitude t) (magnitude b) (sym e)))
    go true true p q e = inl (one_magnitude b t fb ft (p ∙ sym q) size)

same_sign : (s u : Bool) → beq s u ≡ true → s ≡ u
same_sign true true e = refl
same_sign true false e = absurd (true≢false (sym e))
same_sign false true e = absurd (true≢false (sym e))
same_sign false false e = refl

module _ (b t : ℕ) (hb : b < 2 ^ 32) (ht : t < 2 ^ 32) where
  same_value_lem : stands_for_nan b ≡ false → stands_for_nan t ≡ false → of_bits binary32 b ≡ of_bits binary32 t → b ≡ t
  same_value_lem nb nt e =
      sym (to_bits-of_bits binary32 b hb (subst (λ (x : Bool). T (not x)) (sym (sym (nan_read b) ∙ nb)) tt))
      ∙ ap (to_bits binary32) e
      ∙ to_bits-of_bits binary32 t ht (subst (λ (x : Bool). T (not x)) (sym (sym (nan_read t) ∙ nt)) tt)

  equal_cases : stands_for_nan b ≡ false → stands_for_nan t ≡ false → equal_f b t ≡ true → (b ≡ t) ⊎ ((is_zero b && is_zero t) ≡ true)
  unfolding equal_f eq
  equal_cases nb nt h = go (of_bits binary32 b) (of_bits binary32 t) refl refl h
    where
      go : (x y : Float) → of_bits binary32 b ≡ x → of_bits binary32 t ≡ y → eq x y ≡ true → (b ≡ t) ⊎ ((is_zero b && is_zero t) ≡ true)
      go nan y p q e = absurd (true≢false (sym e))
      go (inf s) nan p q e = absurd (true≢false (sym e))
      go (inf s) (inf u) p q e = inl (same_value_lem nb nt (p ∙ ap inf (same_sign s u e) ∙ sym q))
      go (inf s) (fin u n d) p q e = absurd (true≢false (sym e))
      go (fin s m k) nan p q e = absurd (true≢false (sym e))
      go (fin s m k) (inf u) p q e = absurd (true≢false (sym e))
      go (fin s m k) (fin u n d) p q e =
          let fb : Finite b = read_finite b hb (subst (λ (x : Float). T (finite x)) (sym p) tt) in
          let ft : Finite t = read_finite t ht (subst (λ (x : Float). T (finite x)) (sym q) tt) in
          finite_equal b t fb ft ((equal_exact b t fb ft).0 h)

  pub equal_unlike : (b ≡ t → ⊥) → equal_f b t ≡ (is_zero b && is_zero t)
  equal_unlike d =
      by_test (is_zero b && is_zero t)
      (λ z. zeros_equal b t (and_left (is_zero b) (is_zero t) z) (and_right (is_zero b) (is_zero t) z) ∙ sym z)
      (λ z. by_test (stands_for_nan b || stands_for_nan t) (λ n. nan_unequal b t n ∙ sym z) (λ n. by_test (equal_f b t) (λ h. absurd (never z n h)) (λ h. h ∙ sym z)))
    where
      never : (is_zero b && is_zero t) ≡ false → (stands_for_nan b || stands_for_nan t) ≡ false → equal_f b t ≡ true → ⊥
      never z n h =
          elim (equal_cases (or_left (stands_for_nan b) (stands_for_nan t) n) (or_right (stands_for_nan b) (stands_for_nan t) n) h) [ inl e ↦ d e | inr k ↦ true≢false (sym k ∙ z) ]

  -- EQUAL of two FLOATs
  pub equal_by_bits : agree (float b) (float t) ≡ same_float b t
  equal_by_bits =
      by_test (stands_for_nan b || stands_for_nan t)
      (λ n. rw (nan_unequal b t n, n) refl)
      (λ n. rw n (by_test (eqb b t) (like (or_left (stands_for_nan b) (stands_for_nan t) n)) differ))
    where
      like : stands_for_nan b ≡ false → eqb b t ≡ true → equal_f b t ≡ cond (is_zero b && is_zero t) true (eqb b t)
      like n e =
          ap (equal_f b) (sym (eqb-true b t e))
          ∙ equal_itself b
          ∙ ap not (sym (nan_read b) ∙ n)
          ∙ sym (either (λ (x : Bool). x ≡ true) (is_zero b && is_zero t) refl e)

      differ : eqb b t ≡ false → equal_f b t ≡ cond (is_zero b && is_zero t) true (eqb b t)
      differ e = equal_unlike (eqb-false b t e) ∙ by_test (is_zero b && is_zero t) (λ z. rw z refl) (λ z. rw (z, e) refl)

-- ISNIL of a FLOAT
pub nil_by_bits : (t : ℕ) → t < 2 ^ 32 → nil (float t) ≡ is_zero t
nil_by_bits t ht = equal_by_bits t 0 ht (lit< tt) ∙ zeros
  where
    zeros : same_float t 0 ≡ is_zero t
    zeros =
        by_test (is_zero t)
        (λ z. elim (zero_cases t z) [ inl e ↦ rw e refl | inr e ↦ rw e refl ])
        (λ z. rw (z, or_left (eqb t 0) (eqb t (2 ^ 31)) z) (either (λ (x : Bool). x ≡ false) (stands_for_nan t || stands_for_nan 0) refl refl))
