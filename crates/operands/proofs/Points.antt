-- Laws of decimals: what stands before and after the first point, and the number of all digits. Assumes nothing.
use mathlib.Core.Path.{◌≡◌, refl, sym, ap, ◌∙◌}
use mathlib.Core.Bool.{Bool, true, false, cond, and-false}
use mathlib.Core.List.{List, [], ◌∷◌}
use Prim.Native.Nat.{ℕ, suc, ◌+◌, ◌-◌, ◌*◌, ◌^◌, ◌≤◌, ◌<◌}
use native.Mathlib.Nat.{pow-le-pow_right, lt_of_lt_of_le}
use native.Mathlib.Omega.{arith}
use lib.Dec.{eqb, ltb}
use lib.ListN.{length, take, drop, drop_of_length-le}
use borrow.Author.Tests.{ltb-false}
use Rattle.std.proofs.Common.{Some, None}
use Rattle.std.specs.List.{position, position_or_len}
use Rattle.rules.specs.Operands.{numeral, is_numeral, before_point, after_point, is_decimal}
use Rattle.rules.proofs.Tests.{by_test}
use Rattle.rules.specs.Bytes.{point}
use Rattle.operands.proofs.Laws as law

-- ---- what stands before the first point, and what after it

abbrev pub is_point : ℕ → Bool
is_point b = eqb b point

before_take : (s : List ℕ) → before_point s ≡ take (position_or_len is_point s) s
unfolding before_point
before_take [] = refl
before_take (b ∷ s) =
    by_test (is_point b)
    (λ h. rw h refl)
    (λ h.
    let e : 1 + position_or_len is_point s ≡ suc (position_or_len is_point s) = omega arith in
    rw (h, e) (ap (λ (l : List ℕ). b ∷ l) (before_take s)))

after_drop : (s : List ℕ) → after_point s ≡ drop (position_or_len is_point s + 1) s
unfolding after_point
after_drop [] = refl
after_drop (b ∷ s) =
    by_test (is_point b)
    (λ h. rw h refl)
    (λ h.
    let e : 1 + position_or_len is_point s + 1 ≡ suc (position_or_len is_point s + 1) = omega arith in
    rw (h, e) (after_drop s))

some_is : (b : Bool) (n k : ℕ) → cond b (Some n) None ≡ Some k → n ≡ k
some_is true n k e = cc
some_is false n k e = cc

none_is : (b : Bool) (n : ℕ) → cond b (Some n) None ≡ None → b ≡ false
none_is true n e = cc
none_is false n e = refl

-- a text whose first point stands at p
module _ (ds : List ℕ) (p : ℕ) (e : position is_point ds ≡ Some p) where
  first : position_or_len is_point ds ≡ p
  first = some_is (ltb (position_or_len is_point ds) (length ds)) (position_or_len is_point ds) p e

  pub before_is : take p ds ≡ before_point ds
  before_is = sym (before_take ds ∙ ap (λ (i : ℕ). take i ds) first)

  pub after_is : take (length ds - (p + 1)) (drop (p + 1) ds) ≡ after_point ds
  after_is = law.rest ds (p + 1) ∙ sym (after_drop ds ∙ ap (λ (i : ℕ). drop (i + 1) ds) first)

pub no_point : (ds : List ℕ) → position is_point ds ≡ None → is_decimal ds ≡ false
unfolding is_decimal is_numeral
no_point ds e =
    let l = ltb-false (position_or_len is_point ds) (length ds) (none_is _ _ e) in
    let a : after_point ds ≡ [] = after_drop ds ∙ drop_of_length-le ds (omega arith) in
    rw (a, and-false (is_numeral 10 (before_point ds))) refl

-- ---- the number of all digits

module _ (whole after : List ℕ) (h : is_numeral 10 whole ≡ true) (k : is_numeral 10 after ≡ true) (few : length whole + length after ≤ 9) where
  joined_below : numeral 10 (numeral 10 0 whole) after < 10 ^ 9
  joined_below =
      let b = law.numeral_below 10 0 0 whole (law.numeral_digits 10 whole h) (omega arith) in
      let q : 0 + length whole + length after ≤ 9 = omega arith in
      lt_of_lt_of_le
      (law.numeral_below 10 (numeral 10 0 whole) (0 + length whole) after (law.numeral_digits 10 after k) b)
      (pow-le-pow_right {n = 10} (omega arith) q)

-- it is that of the digits before the point, over those after it, and these
module _ (whole after : List ℕ) {m k n : ℕ} (hm : m ≡ numeral 10 0 whole) (hk : k ≡ 10 ^ length after) (hn : n ≡ numeral 10 0 after) where
  pub joined_is : m * k + n ≡ numeral 10 (numeral 10 0 whole) after
  joined_is = rw (hm, hk, hn) (sym (law.numeral_shift 10 (numeral 10 0 whole) after))

  pub joined_room : is_numeral 10 whole ≡ true → is_numeral 10 after ≡ true → length whole + length after ≤ 9 → m * k + n < 10 ^ 9
  joined_room h l few = rw joined_is (joined_below whole after h l few)
