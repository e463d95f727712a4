-- Number operands: what digits after digits make, and which texts are read as numbers and as bits. Assumes nothing.
use Rattle.std.specs.Prelude.{Ok}
use Prim.Native.Nat.{ℕ, ◌+◌, ◌*◌, ◌-◌, ◌≤◌, ◌<◌}
use mathlib.Core.Path.{◌≡◌, refl, sym}
use mathlib.Core.Bool.{true, false, ◌&&◌, and_assoc}
use mathlib.Core.List.{List, [], ◌∷◌, ◌++◌}
use native.Mathlib.Omega.{arith}
use lib.Dec.{eqb, ltb}
use lib.ListN.{length, drop, get_or}
use borrow.Author.Tests.{ne_eqb, le-leb, eq-eqb}
use Rattle.rules.specs.Bytes.{hash, minus_sign}
use Rattle.rules.specs.Operands.{digit_of, all_digits, numeral, is_numeral, signs, negated, ranged, number_of, pattern_of}

pub digit_09 : (b : ℕ) → 48 ≤ b → b ≤ 57 → digit_of b ≡ b - 48
unfolding digit_of
digit_09 b h k = rw (le-leb 48 b h, le-leb b 57 k)

-- ---- digits after digits

pub numeral_append : (base m : ℕ) (xs ys : List ℕ) → numeral base m (xs ++ ys) ≡ numeral base (numeral base m xs) ys
unfolding numeral
numeral_append base m [] ys = refl
numeral_append base m (x ∷ xs) ys = numeral_append base (m * base + digit_of x) xs ys

pub digits_append : (base : ℕ) (xs ys : List ℕ) → all_digits base (xs ++ ys) ≡ (all_digits base xs && all_digits base ys)
unfolding all_digits
digits_append base [] ys = refl
digits_append base (x ∷ xs) ys = rw (digits_append base xs ys) (sym (and_assoc (ltb (digit_of x) base) (all_digits base xs) (all_digits base ys)))

-- ---- a text that is a number

pub signs_other : (t : List ℕ) → (get_or t 0 0 ≡ minus_sign → ⊥) → signs t ≡ 0
unfolding signs
signs_other [] k = refl
signs_other (b ∷ s) k = rw (ne_eqb b minus_sign k)

pub ranged_least : (least most n : ℕ) → n ≤ least → ranged least most true n ≡ Ok (negated n)
unfolding ranged
ranged_least least most n h = rw (le-leb n least h)

pub ranged_most : (least most n : ℕ) → n ≤ most → ranged least most false n ≡ Ok n
unfolding ranged
ranged_most least most n h = rw (le-leb n most h)

numeral_some : (ds : List ℕ) → 0 < length ds → all_digits 10 ds ≡ true → is_numeral 10 ds ≡ true
unfolding is_numeral
numeral_some [] h k = absurd (omega arith)
numeral_some (b ∷ s) h k = k

-- one to ten digits after the minus, or from the start
pub number_value : (least most : ℕ) (t ds : List ℕ) → drop (signs t) t ≡ ds → 0 < length ds → length ds ≤ 10 → all_digits 10 ds ≡ true → number_of least most t ≡ ranged least most (eqb (signs t) 1) (numeral 10 0 ds)
unfolding number_of
number_value least most t ds e h l k = rw (e, numeral_some ds h k, le-leb (length ds) 10 l)

pub pattern_value : (ds : List ℕ) → length ds ≡ 8 → all_digits 16 ds ≡ true → pattern_of (hash ∷ ds) ≡ Ok (numeral 16 0 ds)
unfolding pattern_of
pattern_value ds h k = rw (eq-eqb (length ds) 8 h, k)
