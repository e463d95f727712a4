-- Laws of number operands: a digit, the digits from a place of a text on, and the whole text.
-- Assumes nothing.
use Rattle.std.specs.Prelude.{Err}
use mathlib.Core.Path.{◌≡◌, refl, sym, ap, ◌∙◌}
use mathlib.Core.Bool.{Bool, true, false, false≢true, ◌&&◌}
use Rattle.std.specs.List.{list_all}
use mathlib.Core.List.{List, [], ◌∷◌}
use Prim.Native.Nat.{ℕ, suc, ◌+◌, ◌*◌, ◌-◌, ◌^◌, ◌≤◌, ◌<◌}
use native.Mathlib.Numerals.{add-one}
use native.Mathlib.Omega.{arith}
use lib.Dec.{ltb}
use lib.ListN.{length, take, drop, get_or, drop_of_length-le, length-drop}
use lib.Seq.{take_all}
use native.Mathlib.Nat.{suc-mul, mul-le-mul_right, pow-zero, pow-suc, pow-succ', mul-one, zero-mul, add-mul, mul_assoc, mul-le-mul_left, pow-le-pow_right, lt_of_lt_of_le, add-zero}
use Rattle.rules.specs.declared.NumeralFault.TheVariants.{OutOfRange}
use borrow.Author.Tests.{ltb-true, eq-eqb, ne_eqb, lt-leb}
use Rattle.rules.proofs.Tests.{drop_next, and_left, and_right}
use Rattle.rules.specs.Operands.{digit_of, all_digits, numeral, is_numeral, signs, ranged, pattern_of, decimal_of, float_of}
use Rattle.rules.specs.Bytes.{hash}
use Rattle.std.proofs.Common.{zero-add}

-- the library's test over a list, so that a chain answers it
pub all_is : (base : ℕ) (s : List ℕ) → list_all (λ b. ltb (digit_of b) base) s ≡ all_digits base s
unfolding all_digits
all_is base [] = refl
all_is base (b ∷ s) = ap (λ (t : Bool). ltb (digit_of b) base && t) (all_is base s)

module _ (t : List ℕ) (i base : ℕ) where
  pub numeral_end : (n : ℕ) → length t ≤ i → numeral base n (drop i t) ≡ n
  unfolding numeral
  numeral_end n h = rw (drop_of_length-le t h)

  pub numeral_more : (n : ℕ) → i < length t → numeral base n (drop i t) ≡ numeral base (n * base + digit_of (get_or t i 0)) (drop (i + 1) t)
  unfolding numeral
  numeral_more n h = ap (numeral base n) (drop_next t i h)

-- a value grows by less than a factor of 17 with each digit
pub grows : (k n base d : ℕ) → base ≤ 16 → d ≤ 16 → n < 17 ^ k → n * base + d < 17 ^ (k + 1)
grows k n base d hb hd h =
    rw (add-one, pow-suc)
    (omega (arith, mul-le-mul_left {m = base} {n = 16} n hb))

-- at most nine digits leave room for one more
pub room : (k n base d : ℕ) → k ≤ 9 → n < 17 ^ k → base ≤ 16 → d ≤ 16 → n * base + d < 2 ^ 64
room k n base d h l hb hd =
    let m = lt_of_lt_of_le l (pow-le-pow_right {n = 17} (omega arith) h) in
    omega (arith, mul-le-mul_left {m = base} {n = 16} n hb, m)

-- digits that are digits in a base make less than a power of it
pub numeral_below : (base n k : ℕ) (s : List ℕ) → all_digits base s ≡ true → n < base ^ k → numeral base n s < base ^ (k + length s)
unfolding numeral all_digits
numeral_below base n k [] h l = rw add-zero l
numeral_below base n k (b ∷ s) h l =
    let q : k + suc (length s) ≡ k + 1 + length s = omega arith in
    let d : digit_of b < base = ltb-true (digit_of b) base (and_left (ltb (digit_of b) base) (all_digits base s) h) in
    rw q
    (numeral_below base (n * base + digit_of b) (k + 1) s (and_right (ltb (digit_of b) base) (all_digits base s) h)
    (rw (add-one, pow-suc) (omega (arith, suc-mul n base, mul-le-mul_right {m = suc n} {n = base ^ k} base l))))

-- digits after a number: it counts for ten, or the base, to the power of their count
pub numeral_shift : (base n : ℕ) (s : List ℕ) → numeral base n s ≡ n * base ^ length s + numeral base 0 s
unfolding numeral
numeral_shift base n [] = rw (pow-zero, mul-one, add-zero)
numeral_shift base n (b ∷ s) =
    let p = base ^ length s in
    rw (numeral_shift base (n * base + digit_of b) s, numeral_shift base (0 * base + digit_of b) s, pow-succ')
    (omega (arith, add-mul (n * base) (digit_of b) p, mul_assoc n base p, add-mul (0 * base) (digit_of b) p, zero-mul base, zero-mul p))

-- ---- one or more digits

pub no_numeral : (base : ℕ) (s : List ℕ) → length s ≡ 0 → is_numeral base s ≡ false
unfolding is_numeral
no_numeral base [] h = refl
no_numeral base (b ∷ s) h = absurd (omega arith)

pub some_numeral : (base : ℕ) (s : List ℕ) → 0 < length s → is_numeral base s ≡ all_digits base s
unfolding is_numeral
some_numeral base [] h = absurd (omega arith)
some_numeral base (b ∷ s) h = refl

pub numeral_length : (base : ℕ) (s : List ℕ) → is_numeral base s ≡ true → 0 < length s
unfolding is_numeral
numeral_length base [] h = absurd (false≢true h)
numeral_length base (b ∷ s) h = omega arith

pub numeral_digits : (base : ℕ) (s : List ℕ) → is_numeral base s ≡ true → all_digits base s ≡ true
numeral_digits base s h = sym (some_numeral base s (numeral_length base s h)) ∙ h

-- ---- a text from its first digit on

-- a slice from a place on
pub rest : (t : List ℕ) (i : ℕ) → take (length t - i) (drop i t) ≡ drop i t
rest t i = take_all (length t - i) (drop i t) (rw length-drop (omega arith))

pub pattern_below : (ds : List ℕ) → length ds ≡ 8 → all_digits 16 ds ≡ true → numeral 16 0 ds < 2 ^ 32
pattern_below ds h l = rw (zero-add, h) at (numeral_below 16 0 0 ds l (omega arith))

pub float_bits : (t : List ℕ) → 1 ≤ length t → get_or t 0 0 ≡ 35 → pattern_of (hash ∷ take (length t - 1) (drop 1 t)) ≡ float_of t
unfolding float_of
float_bits [] h k = absurd (omega arith)
float_bits (b ∷ s) h k = rw (k, rest (35 ∷ s) 1) refl

pub float_none : (t : List ℕ) → length t ≡ 0 → float_of t ≡ decimal_of t
unfolding float_of
float_none [] h = refl
float_none (b ∷ s) h = absurd (omega arith)

pub float_decimal : (t : List ℕ) → (get_or t 0 0 ≡ hash → ⊥) → float_of t ≡ decimal_of t
unfolding float_of
float_decimal t h = rw (ne_eqb (get_or t 0 0) hash h)

pub signs_none : (t : List ℕ) → length t ≡ 0 → signs t ≡ 0
unfolding signs
signs_none [] h = refl
signs_none (b ∷ s) h = absurd (omega arith)

pub signs_minus : (t : List ℕ) → 0 < length t → get_or t 0 0 ≡ 45 → signs t ≡ 1
unfolding signs
signs_minus [] h k = absurd (omega arith)
signs_minus (b ∷ s) h k = rw (eq-eqb b 45 k)

module _ (least most n : ℕ) where
  pub ranged_low : least < n → ranged least most true n ≡ Err OutOfRange
  unfolding ranged
  ranged_low h = rw (lt-leb n least h)

  pub ranged_high : most < n → ranged least most false n ≡ Err OutOfRange
  unfolding ranged
  ranged_high h = rw (lt-leb n most h)
