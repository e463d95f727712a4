-- Numbers as text: how long they are, and that they are read back as the numbers. Assumes nothing.
use Rattle.std.specs.Prelude.{Ok}
use Prim.Native.Nat.{ℕ, zero, suc, ◌+◌, ◌*◌, ◌-◌, ◌/◌, ◌%◌, ◌^◌, ◌≤◌, ◌<◌}
use mathlib.Core.Path.{◌≡◌, refl, ap, ◌∙◌}
use mathlib.Core.Bool.{Bool, true, false, ◌&&◌, ◌||◌}
use mathlib.Core.List.{List, [], ◌∷◌, ◌++◌}
use native.Mathlib.Nat.{pow-suc}
use native.Mathlib.Numerals.{add-one}
use native.Mathlib.Omega.{arith}
use lib.Dec.{eqb, leb, ltb}
use lib.ListN.{length, get_or, length-append}
use borrow.Author.Tests.{lt-ltb, le-ltb, ltb-true, ltb-false, leb-true, eqb-true}
use Rattle.rules.specs.Sizes.{max_offset}
use Rattle.rules.specs.Bytes.{hash, minus_sign, zero_digit, blank, letter, word_byte, allowed}
use Rattle.rules.specs.Operands.{digit_of, all_digits, numeral, signs, negated, ranged, number_of, float_of}
use Rattle.rules.specs.Listing.{decimal, signed_text, hex_byte, hex}
use Rattle.rules.proofs.Tests.{by_test, and_left, and_right, below, at_below}
use Rattle.rules.proofs.Tokens.{plain}
use Rattle.rules.proofs.Operands.{digit_09, numeral_append, digits_append, signs_other, ranged_least, ranged_most, number_value, pattern_value}

-- the last decimal digit of n
abbrev pub last_digit : ℕ → List ℕ
last_digit n = (zero_digit + n % 10) ∷ []

-- ---- decimal, one digit and more

pub decimal_zero : (k n : ℕ) → k ≡ 0 → decimal k n ≡ last_digit n
unfolding decimal
decimal_zero zero n e = refl
decimal_zero (suc k) n e = absurd (omega arith)

pub decimal_small : (k n : ℕ) → n < 10 → decimal k n ≡ last_digit n
unfolding decimal
decimal_small zero n h = refl
decimal_small (suc k) n h = rw (lt-ltb n 10 h)

pub decimal_more : (k n : ℕ) → 0 < k → 10 ≤ n → decimal k n ≡ decimal (k - 1) (n / 10) ++ last_digit n
unfolding decimal
decimal_more zero n p h = absurd (omega arith)
decimal_more (suc k) n p h =
    let q : suc k - 1 ≡ k = omega arith in
    rw (q, le-ltb n 10 h)

-- what holds of one digit, and of digits with one more after them, holds of a decimal text
module _ (P : List ℕ → Type 0) (one : (n : ℕ) → P (last_digit n)) (more : (xs : List ℕ) (n : ℕ) → P xs → P (xs ++ last_digit n)) where
  pub decimal_all : (k n : ℕ) → P (decimal k n)
  unfolding decimal
  decimal_all zero n = one n
  decimal_all (suc k) n = by_test (ltb n 10) (λ e. rw e (one n)) (λ e. rw e (more (decimal k (n / 10)) n (decimal_all k (n / 10))))

-- ---- lengths

pub length_decimal : (k n : ℕ) → length (decimal k n) ≤ k + 1
unfolding decimal
length_decimal zero n = omega arith
length_decimal (suc k) n =
    by_test (ltb n 10) (λ e. rw e (omega arith)) (λ e. rw (e, length-append) (omega (arith, length_decimal k (n / 10))))

-- a number below 10 ^ (j + 1) has at most j + 1 digits
pub length_digits : (j k n : ℕ) → n < 10 ^ (j + 1) → length (decimal k n) ≤ j + 1
unfolding decimal
length_digits j zero n h = omega arith
length_digits zero (suc k) n h = rw (lt-ltb n 10 (omega arith)) (omega arith)
length_digits (suc j) (suc k) n h =
    let p : 10 ^ (suc j + 1) ≡ 10 ^ (j + 1) * 10 = rw (add-one, pow-suc, add-one) in
    by_test (ltb n 10) (λ e. rw e (omega arith)) (λ e. rw (e, length-append) (omega (arith, length_digits j k (n / 10) (omega arith))))

pub decimal_some : (k n : ℕ) → 0 < length (decimal k n)
decimal_some = decimal_all (λ t. 0 < length t) (λ n. omega arith) (λ xs n h. rw length-append (omega arith))

pub length_hex : (k n : ℕ) → length (hex k n) ≡ k
unfolding hex
length_hex zero n = refl
length_hex (suc k) n = rw length-append (omega (arith, length_hex k (n / 16)))

-- ---- the two cases of a signed text, and of a hex text

pub signed_pos : (b : ℕ) → b < 2 ^ 31 → signed_text b ≡ decimal 9 b
unfolding signed_text
signed_pos b h = rw (lt-ltb b (2 ^ 31) h)

pub signed_neg : (b : ℕ) → 2 ^ 31 ≤ b → signed_text b ≡ minus_sign ∷ decimal 9 (2 ^ 32 - b)
unfolding signed_text
signed_neg b h = rw (le-ltb b (2 ^ 31) h)

pub length_signed : (b : ℕ) → length (signed_text b) ≤ 11
unfolding signed_text
length_signed b =
    by_test (ltb b (2 ^ 31)) (λ e. rw e (omega (arith, length_decimal 9 b))) (λ e. rw e (omega (arith, length_decimal 9 (2 ^ 32 - b))))

pub hex_none : (k n : ℕ) → k ≡ 0 → hex k n ≡ []
unfolding hex
hex_none zero n e = refl
hex_none (suc k) n e = absurd (omega arith)

pub hex_more : (k n : ℕ) → 0 < k → hex k n ≡ hex (k - 1) (n / 16) ++ hex_byte (n % 16) ∷ []
unfolding hex
hex_more zero n h = absurd (omega arith)
hex_more (suc k) n h =
    let q : suc k - 1 ≡ k = omega arith in
    rw q

pub hex_low : (n : ℕ) → n < 10 → hex_byte n ≡ zero_digit + n
unfolding hex_byte
hex_low n h = rw (lt-ltb n 10 h)

pub hex_high : (n : ℕ) → 10 ≤ n → hex_byte n ≡ 55 + n
unfolding hex_byte
hex_high n h = rw (le-ltb n 10 h)

-- ---- the sixteen digits, computed

hex_right : ℕ → Bool
hex_right k = plain (hex_byte k) && (allowed (hex_byte k) && eqb (digit_of (hex_byte k)) k)

hexes_right : below hex_right 16 ≡ true
unfolding hex_right hex_byte plain blank allowed word_byte letter digit_of
hexes_right = refl

module _ (k : ℕ) (h : k < 16) where
  right : hex_right k ≡ true
  right = at_below hex_right 16 hexes_right k h

  pub hex_plain : plain (hex_byte k) ≡ true
  unfolding hex_right
  hex_plain = and_left (plain (hex_byte k)) (allowed (hex_byte k) && eqb (digit_of (hex_byte k)) k) right

  both : (allowed (hex_byte k) && eqb (digit_of (hex_byte k)) k) ≡ true
  unfolding hex_right
  both = and_right (plain (hex_byte k)) (allowed (hex_byte k) && eqb (digit_of (hex_byte k)) k) right

  pub hex_allowed : allowed (hex_byte k) ≡ true
  hex_allowed = and_left (allowed (hex_byte k)) (eqb (digit_of (hex_byte k)) k) both

  pub hex_digit : digit_of (hex_byte k) ≡ k
  hex_digit = eqb-true (digit_of (hex_byte k)) k (and_right (allowed (hex_byte k)) (eqb (digit_of (hex_byte k)) k) both)

-- ---- decimal texts are read back

last_digit_lem : (n : ℕ) → digit_of (zero_digit + n % 10) ≡ n % 10
last_digit_lem n = digit_09 (zero_digit + n % 10) (omega arith) (omega arith) ∙ omega arith

digit_numeral : (m n : ℕ) → numeral 10 m (last_digit n) ≡ m * 10 + n % 10
unfolding numeral
digit_numeral m n = ap (λ (d : ℕ). m * 10 + d) (last_digit_lem n)

digit_all : (n : ℕ) → all_digits 10 (last_digit n) ≡ true
unfolding all_digits
digit_all n = rw (last_digit_lem n, lt-ltb (n % 10) 10 (omega arith))

pub numeral_decimal : (k n : ℕ) → n < 10 ^ (k + 1) → numeral 10 0 (decimal k n) ≡ n
unfolding decimal
numeral_decimal zero n h = digit_numeral 0 n ∙ omega arith
numeral_decimal (suc k) n h =
    by_test (ltb n 10)
    (λ e. rw e (digit_numeral 0 n ∙ omega (arith, ltb-true n 10 e)))
    (λ e. let p : 10 ^ (suc k + 1) ≡ 10 ^ (k + 1) * 10 = rw (add-one, pow-suc, add-one) in
    let i : numeral 10 0 (decimal k (n / 10)) ≡ n / 10 = numeral_decimal k (n / 10) (omega arith) in
    rw e (numeral_append 10 0 (decimal k (n / 10)) (last_digit n) ∙ digit_numeral (numeral 10 0 (decimal k (n / 10))) n ∙ omega arith))

pub digits_decimal : (k n : ℕ) → all_digits 10 (decimal k n) ≡ true
digits_decimal =
    decimal_all (λ t. all_digits 10 t ≡ true) digit_all (λ xs n h. digits_append 10 xs (last_digit n) ∙ rw (h, digit_all n))

starts : (xs ys : List ℕ) → (48 ≤ get_or xs 0 0) × (get_or xs 0 0 ≤ 57) → (48 ≤ get_or (xs ++ ys) 0 0) × (get_or (xs ++ ys) 0 0 ≤ 57)
starts [] ys h = absurd (omega arith)
starts (x ∷ xs) ys h = h

-- a decimal text starts with a digit
pub decimal_first : (k n : ℕ) → (48 ≤ get_or (decimal k n) 0 0) × (get_or (decimal k n) 0 0 ≤ 57)
decimal_first =
    decimal_all (λ t. (48 ≤ get_or t 0 0) × (get_or t 0 0 ≤ 57)) (λ n. (omega arith, omega arith)) (λ xs n h. starts xs (last_digit n) h)

module _ (least most n : ℕ) (h : n < 10 ^ 10) where
  no_sign : signs (decimal 9 n) ≡ 0
  no_sign = signs_other (decimal 9 n) (λ e. absurd (omega (arith, (decimal_first 9 n).0)))

  pub number_decimal : number_of least most (decimal 9 n) ≡ ranged least most false n
  number_decimal =
      number_value least most (decimal 9 n) (decimal 9 n) (rw no_sign) (decimal_some 9 n) (length_decimal 9 n) (digits_decimal 9 n)
      ∙ rw (no_sign, numeral_decimal 9 n h)

  pub number_minus : number_of least most (minus_sign ∷ decimal 9 n) ≡ ranged least most true n
  unfolding signs
  number_minus =
      number_value least most (minus_sign ∷ decimal 9 n) (decimal 9 n) refl (decimal_some 9 n) (length_decimal 9 n) (digits_decimal 9 n)
      ∙ rw (numeral_decimal 9 n h)

module _ (b : ℕ) (h : b < 2 ^ 32) where
  back : 2 ^ 31 ≤ b → negated (2 ^ 32 - b) ≡ b
  unfolding negated
  back l = omega arith

  -- the text of 32 bits is read as those bits: any, and those of −999 to 999
  pub number_signed : number_of (2 ^ 31) (2 ^ 31 - 1) (signed_text b) ≡ Ok b
  number_signed =
      by_test (ltb b (2 ^ 31))
      (λ e.
      let l = ltb-true b (2 ^ 31) e in
      rw (signed_pos b l) (number_decimal (2 ^ 31) (2 ^ 31 - 1) b (omega arith) ∙ ranged_most (2 ^ 31) (2 ^ 31 - 1) b (omega arith)))
      (λ e.
      let l = ltb-false b (2 ^ 31) e in
      rw (signed_neg b l)
      (number_minus (2 ^ 31) (2 ^ 31 - 1) (2 ^ 32 - b) (omega arith) ∙ ranged_least (2 ^ 31) (2 ^ 31 - 1) (2 ^ 32 - b) (omega arith) ∙ ap Ok (back l)))

  pub number_offset : (leb b max_offset || leb (2 ^ 32 - max_offset) b) ≡ true → number_of max_offset max_offset (signed_text b) ≡ Ok b
  number_offset k =
      by_test (leb b max_offset)
      (λ e.
      let l = leb-true b max_offset e in
      rw (signed_pos b (omega arith)) (number_decimal max_offset max_offset b (omega arith) ∙ ranged_most max_offset max_offset b l))
      (λ e.
      let l = leb-true (2 ^ 32 - max_offset) b (rw e at k) in
      rw (signed_neg b (omega arith))
      (number_minus max_offset max_offset (2 ^ 32 - b) (omega arith) ∙ ranged_least max_offset max_offset (2 ^ 32 - b) (omega arith) ∙ ap Ok (back (omega arith))))

-- ---- hex texts are read back

digits_hex : (k n : ℕ) → all_digits 16 (hex k n) ≡ true
unfolding hex all_digits
digits_hex zero n = refl
digits_hex (suc k) n =
    digits_append 16 (hex k (n / 16)) (hex_byte (n % 16) ∷ [])
    ∙ rw (digits_hex k (n / 16), hex_digit (n % 16) (omega arith), lt-ltb (n % 16) 16 (omega arith))

hex_last : (m n : ℕ) → numeral 16 m (hex_byte (n % 16) ∷ []) ≡ m * 16 + n % 16
unfolding numeral
hex_last m n = ap (λ (d : ℕ). m * 16 + d) (hex_digit (n % 16) (omega arith))

numeral_hex : (k n : ℕ) → n < 16 ^ k → numeral 16 0 (hex k n) ≡ n
unfolding hex numeral
numeral_hex zero n h = omega arith
numeral_hex (suc k) n h =
    let p : 16 ^ suc k ≡ 16 ^ k * 16 = pow-suc 16 k in
    let i : numeral 16 0 (hex k (n / 16)) ≡ n / 16 = numeral_hex k (n / 16) (omega arith) in
    numeral_append 16 0 (hex k (n / 16)) (hex_byte (n % 16) ∷ []) ∙ hex_last (numeral 16 0 (hex k (n / 16))) n ∙ omega arith

-- "Listings still write bits." (02 e): what begins with `#` is read as bits
pub float_hex : (v : ℕ) → v < 2 ^ 32 → float_of (hash ∷ hex 8 v) ≡ Ok v
unfolding float_of
float_hex v h = pattern_value (hex 8 v) (length_hex 8 v) (digits_hex 8 v) ∙ ap Ok (numeral_hex 8 v (omega arith))
