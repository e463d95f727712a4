-- Words and the numbers that they stand for: the two readings undo each other within -2 ^ 31 to 2 ^ 31 - 1, and no word stands for another number.
-- Assumes nothing.
use mathlib.Core.Path.{◌≡◌, refl, ap, ◌∙◌, subst}
use mathlib.Core.Bool.{Bool, true, false, not}
use Prim.Native.Nat.{ℕ, suc, ◌+◌, ◌-◌, ◌^◌, ◌≤◌, ◌<◌, zero-le}
use native.Mathlib.Omega.{arith}
use lib.Dec.{T, leb, ltb, ltb→lt, nltb→le}
use lib.IntN.{ℤ, pos, negsuc, nat_abs}
use lib.Signed.{mag, lt_z}
use borrow.Author.Tests.{leb-true, leb-false, le-leb, lt-ltb, le-ltb}
use mir.Syntax.{w32}
use mir.Val.{SFits, sel, of_z}
use mir.Facts.{to_z-of_z}
use Rattle.rules.specs.Words.{signed, word, in_word}
use Rattle.rules.proofs.Tests.{by_test, and_left}

-- a word is the word of the number that it stands for
pub word_signed : (n : ℕ) → n < 2 ^ 32 → word (signed n) ≡ n
word_signed n h = go (ltb n (2 ^ 31)) (ltb→lt n (2 ^ 31)) (nltb→le n (2 ^ 31))
  where
    go : (b : Bool) → (T b → n < 2 ^ 31) → (T (not b) → 2 ^ 31 ≤ n) → word (sel b (pos n) (negsuc (2 ^ 32 - suc n))) ≡ n
    go true k l = omega arith
    go false k l = let p : 2147483648 ≤ n = l tt in omega arith

-- a number of the range is what its word stands for
pub signed_word : (z : ℤ) → mag z < 2 ^ 31 → signed (word z) ≡ z
signed_word z h = ap signed (bits_of z h) ∙ to_z-of_z {w = w32} {z = z} (record { sfits = h })
  where
    bits_of : (z : ℤ) → mag z < 2 ^ 31 → word z ≡ of_z w32 z
    bits_of (pos n) h = omega arith
    bits_of (negsuc n) h = omega arith

-- whatever stands in a cell stands for a number of the range
pub signed_fits : (b : ℕ) → SFits w32 (signed b)
signed_fits b = go (ltb b (2 ^ 31)) (ltb→lt b (2 ^ 31)) (nltb→le b (2 ^ 31))
  where
    go : (l : Bool) → (T l → b < 2 ^ 31) → (T (not l) → 2 ^ 31 ≤ b) → SFits w32 (sel l (pos b) (negsuc (2 ^ 32 - suc b)))
    go true h k = record { sfits = h tt }
    go false h k = let p : 2147483648 ≤ b = k tt in record { sfits = omega arith }

-- ---- the range, as a test

pub in_word_below : (z : ℤ) → in_word z ≡ true → mag z < 2 ^ 31
in_word_below (pos n) h = let l : n ≤ 2147483647 = leb-true n (2 ^ 31 - 1) h in omega arith
in_word_below (negsuc n) h = let l : n ≤ 2147483647 = leb-true n (2 ^ 31 - 1) (and_left _ _ h) in omega arith

pub below_in_word : (z : ℤ) → mag z < 2 ^ 31 → in_word z ≡ true
below_in_word (pos n) h = le-leb n (2 ^ 31 - 1) (omega arith)
below_in_word (negsuc n) h = rw (le-leb n (2 ^ 31 - 1) (omega arith)) refl

-- a word stands for a number exactly where the test holds
pub in_word_reads : (z : ℤ) → in_word z ≡ true → signed (word z) ≡ z
in_word_reads z h = signed_word z (in_word_below z h)

pub reads_in_word : (z : ℤ) (b : ℕ) → signed b ≡ z → in_word z ≡ true
reads_in_word z b e = below_in_word z (subst (λ (y : ℤ). mag y < 2 ^ 31) e (signed_fits b).sfits)

-- ---- sign and size of the number that a word stands for

pub signed_plus : (t : ℕ) → t < 2 ^ 31 → signed t ≡ pos t
signed_plus t h = rw (lt-ltb t (2 ^ 31) h)

pub signed_minus : (t : ℕ) → 2 ^ 31 ≤ t → signed t ≡ negsuc (2 ^ 32 - suc t)
signed_minus t h = rw (le-ltb t (2 ^ 31) h) refl

pub size_plus : (t : ℕ) → t < 2 ^ 31 → nat_abs (signed t) ≡ t
size_plus t h = ap nat_abs (signed_plus t h)

pub size_minus : (t : ℕ) → 2 ^ 31 ≤ t → t < 2 ^ 32 → nat_abs (signed t) ≡ 2 ^ 32 - 1 - t + 1
size_minus t h l = rw (le-ltb t (2 ^ 31) h) (omega arith)

pub sign_below : (t : ℕ) → lt_z (signed t) (pos 0) ≡ leb (2 ^ 31) t
sign_below t =
    by_test (leb (2 ^ 31) t)
    (λ e. rw (e, le-ltb t (2 ^ 31) (leb-true (2 ^ 31) t e)))
    (λ e. rw (e, lt-ltb t (2 ^ 31) (leb-false (2 ^ 31) t e)) (le-ltb t 0 zero-le))
