-- What the integer instructions make of the numbers that the words stand for: the sentences of document 01, from the definitions of `rules`,
-- for all words, numbers below 2 ^ 32. Assumes nothing.
use Rattle.std.proofs.Common.{◌≡◌, ℕ, zero, suc, ◌+◌, ◌-◌, ◌/◌, ◌%◌, ◌^◌, ◌<◌, ◌≤◌, ◌⊎◌, ℤ, pos, negsuc, ◌+ℤ◌, ◌-ℤ◌, ◌*ℤ◌, neg_ℤ, nat_abs, sym, refl, ap, ◌∙◌, ap₂, inl, inr, suc-le-suc, zero-le, le_of_suc-le-suc, lt_of_le_of_lt, zero-lt-suc, div-le_self, div-one, arith, w32}
use Rattle.std.proofs.lemmas.Int.{int_wrap_fits, wrapping_add-bits, wrapping_sub-bits, wrapping_mul-bits, int_wrap-add_left, int_wrap-add_right, int_wrap-mul_left, quot-rem, rem_below}
use Rattle.std.specs.Int.{int_wrap}
use native.Mathlib.Nat.{div-lt_self}
use lib.Arith.{lt_of_le-ne}
use lib.Signed.{mag, non_neg, quot_z, rem_z, mag_rem}
use mir.Facts.{to_z_inj}
use Rattle.rules.specs.Words.{signed, word, times, quotient, remainder}
use Rattle.rules.proofs.Readings.{signed_word, signed_fits}

-- words that stand for the same number are the same
signed_same : (b n : ℕ) → b < 2 ^ 32 → n < 2 ^ 32 → signed b ≡ signed n → b ≡ n
signed_same b n hb hn e = to_z_inj {w = w32} (record { fits = hb }) (record { fits = hn }) e

word_below : (z : ℤ) → word z < 2 ^ 32
word_below (pos n) = omega arith
word_below (negsuc n) = omega arith

-- the word of any number stands for the number wrapped to 32 bits
signed_word_wrap : (z : ℤ) → signed (word z) ≡ int_wrap w32 z
unfolding int_wrap
signed_word_wrap (pos n) = refl
signed_word_wrap (negsuc n) =
    let e : 2 ^ 32 - suc (n % 2 ^ 32) ≡ 2 ^ 32 - 1 - n % 2 ^ 32 = omega arith in
    ap signed e

-- so it is the one word that does
word_is : (z : ℤ) {n : ℕ} → n < 2 ^ 32 → signed n ≡ int_wrap w32 z → word z ≡ n
word_is z {n} h e = signed_same (word z) n (word_below z) h (signed_word_wrap z ∙ sym e)

-- "the sum, difference and product are taken modulo 2^32"
module _ (b t : ℕ) (hb : b < 2 ^ 32) (ht : t < 2 ^ 32) where
  pub sum_modulo : word (signed b +ℤ signed t) ≡ (b + t) % 2 ^ 32
  sum_modulo = word_is (signed b +ℤ signed t) (omega arith) (wrapping_add-bits w32 b t hb ht)

  pub difference_modulo : word (signed b -ℤ signed t) ≡ (b + (2 ^ 32 - t)) % 2 ^ 32
  difference_modulo = word_is (signed b -ℤ signed t) (omega arith) (wrapping_sub-bits w32 b t hb ht)

  pub times_natural : times b t ≡ word (signed b *ℤ signed t)
  times_natural = sym (word_is (signed b *ℤ signed t) (omega arith) (wrapping_mul-bits w32 b t hb ht))

-- ---- quotients and remainders of numbers

-- the quotient times the divisor and the remainder make the dividend
pub quot_rem : (x y : ℤ) → quot_z x y *ℤ y +ℤ rem_z x y ≡ x
quot_rem = quot-rem

-- the remainder is zero or has the dividend's sign
pub rem_sign : (x y : ℤ) → (rem_z x y ≡ pos 0) ⊎ (non_neg (rem_z x y) ≡ non_neg x)
rem_sign (pos a) y = inr refl
rem_sign (negsuc a) y = go (suc a % nat_abs y)
  where
    go : (r : ℕ) → (neg_ℤ (pos r) ≡ pos 0) ⊎ (non_neg (neg_ℤ (pos r)) ≡ non_neg (negsuc a))
    go zero = inl refl
    go (suc r) = inr refl

-- the remainder is smaller than the divisor, so that the quotient is the one toward zero
pub rem_small : (x y : ℤ) → 0 < nat_abs y → nat_abs (rem_z x y) < nat_abs y
rem_small = rem_below

mag_neg : (q : ℕ) {a : ℕ} → q ≤ suc a → mag (neg_ℤ (pos q)) ≤ a
mag_neg zero h = zero-le
mag_neg (suc q) h = le_of_suc-le-suc h

-- the quotient fits everywhere but at -2 ^ 31 by -1
quot_fits : (x y : ℤ) → mag x < 2147483648 → (x ≡ negsuc 2147483647 → y ≡ negsuc 0 → ⊥) → mag (quot_z x y) < 2147483648
quot_fits (pos a) (pos b) h ne = lt_of_le_of_lt (div-le_self a b) h
quot_fits (pos a) (negsuc b) h ne = lt_of_le_of_lt (mag_neg (a / suc b) (omega (arith, div-le_self a (suc b)))) h
quot_fits (negsuc a) (pos b) h ne = lt_of_le_of_lt (mag_neg (suc a / b) (div-le_self (suc a) b)) h
quot_fits (negsuc a) (negsuc zero) h ne =
    let e : suc a / 1 ≡ suc a = div-one (suc a) in
    let n : (a ≡ 2147483647) → ⊥ = λ (p : a ≡ 2147483647). ne (ap negsuc p) refl in
    let l : a < 2147483647 = lt_of_le-ne (omega arith) n in
    omega arith
quot_fits (negsuc a) (negsuc (suc b)) h ne =
    let l : suc a / suc (suc b) < suc a = div-lt_self (zero-lt-suc a) (suc-le-suc (suc-le-suc zero-le)) in
    omega arith

-- ---- DIV and MOD

-- "−2^31 by −1 gives −2^31 and 0": `negsuc n` is -(n + 1)
pub lowest_quotient : quotient (word (negsuc (2 ^ 31 - 1))) (word (negsuc 0)) ≡ word (negsuc (2 ^ 31 - 1))
lowest_quotient = refl

pub lowest_remainder : remainder (word (negsuc (2 ^ 31 - 1))) (word (negsuc 0)) ≡ word (pos 0)
lowest_remainder = refl

module _ (b t : ℕ) (hb : b < 2 ^ 32) (ht : t < 2 ^ 32) where
  -- the remainder that MOD leaves is that of the numbers
  pub remainder_signed : signed (remainder b t) ≡ rem_z (signed b) (signed t)
  remainder_signed = signed_word (rem_z (signed b) (signed t)) (lt_of_le_of_lt (mag_rem (signed b) (signed t)) (signed_fits b).sfits)

  -- "MOD has the dividend's sign", or is zero
  pub remainder_sign : (signed (remainder b t) ≡ pos 0) ⊎ (non_neg (signed (remainder b t)) ≡ non_neg (signed b))
  remainder_sign = rw remainder_signed (rem_sign (signed b) (signed t))

  pub remainder_small : (t ≡ 0 → ⊥) → nat_abs (signed (remainder b t)) < nat_abs (signed t)
  remainder_small nz = rw remainder_signed (rem_small (signed b) (signed t) (go (signed t) refl))
    where
      go : (y : ℤ) → signed t ≡ y → 0 < nat_abs y
      go (pos zero) e = absurd (nz (signed_same t 0 ht (omega arith) e))
      go (pos (suc n)) e = zero-lt-suc n
      go (negsuc n) e = zero-lt-suc n

  -- the quotient times the divisor and the remainder make the dividend: of the words at any two, by zero and the overflowing pair too
  pub divides_back : (times (quotient b t) t + remainder b t) % 2 ^ 32 ≡ b
  divides_back =
      let q : ℤ = quot_z (signed b) (signed t) in
      let r : ℤ = rem_z (signed b) (signed t) in
      let p : ℕ = times (quotient b t) t in
      let product : signed p ≡ int_wrap w32 (q *ℤ signed t) =
      wrapping_mul-bits w32 (quotient b t) t (word_below q) ht ∙ ap (λ (z : ℤ). int_wrap w32 (z *ℤ signed t)) (signed_word_wrap q) ∙ int_wrap-mul_left w32 q (signed t) in
      let whole : signed ((p + remainder b t) % 2 ^ 32) ≡ signed b =
      wrapping_add-bits w32 p (remainder b t) (omega arith) (word_below r)
      ∙ ap₂ (λ (x y : ℤ). int_wrap w32 (x +ℤ y)) product (signed_word_wrap r)
      ∙ int_wrap-add_left w32 (q *ℤ signed t) (int_wrap w32 r) ∙ int_wrap-add_right w32 (q *ℤ signed t) r
      ∙ ap (int_wrap w32) (quot_rem (signed b) (signed t)) ∙ int_wrap_fits w32 (signed b) (signed_fits b) in
      signed_same ((p + remainder b t) % 2 ^ 32) b (omega arith) hb whole

  -- and of the numbers at any two but the overflowing pair
  module _ (ne : b ≡ 2 ^ 31 → t ≡ 2 ^ 32 - 1 → ⊥) where
    pub quotient_signed : signed (quotient b t) ≡ quot_z (signed b) (signed t)
    quotient_signed =
        signed_word (quot_z (signed b) (signed t))
        (quot_fits (signed b) (signed t) (signed_fits b).sfits
        (λ (p : signed b ≡ negsuc 2147483647) (q : signed t ≡ negsuc 0).
        ne (signed_same b 2147483648 hb (omega arith) p) (signed_same t 4294967295 ht (omega arith) q)))

    pub divides_natural : signed (quotient b t) *ℤ signed t +ℤ signed (remainder b t) ≡ signed b
    divides_natural =
        ap₂ (λ (x y : ℤ). x *ℤ signed t +ℤ y) quotient_signed remainder_signed ∙ quot_rem (signed b) (signed t)
