-- Laws for callers: a field that is inside is written and read, and a number that is read has no more bits than its field. Assumes nothing.
use Prim.Native.Nat.{ℕ, ◌+◌, ◌^◌, ◌≤◌, ◌<◌}
use mathlib.Core.Path.{◌≡◌, ap, ap₂, ◌∙◌}
use mathlib.Core.Bool.{Bool, true, cond, ◌&&◌, and-false}
use mathlib.Core.List.{List}
use borrow.Author.Tests.{leb-true, le-leb, lt-leb}
use lib.Dec.{leb}
use lib.ListN.{length}
use lib.Pow.{pow_pos}
use Rattle.rules.specs.Lists.{part, splice}
use Rattle.rules.specs.Fields.{field, value, bits_of}
use Rattle.rules.proofs.Bits.{bits_bytes, part_most}
use Rattle.rules.proofs.Tests.{either, and_left, and_right}
use Rattle.fields.specs.Within.{inside, put_at, read_at}

module _ (l : List ℕ) (at w : ℕ) where
  -- by the test's answer
  pub written_told : (v : ℕ) {b : Bool} → inside l at w ≡ b → put_at l at w v ≡ cond b (splice l at (field w v)) l
  unfolding put_at
  written_told v e = ap (λ (b : Bool). cond b (splice l at (field w v)) l) e

  pub read_told : {b : Bool} → inside l at w ≡ b → read_at l at w ≡ cond b (value (part at w l)) 0
  unfolding read_at
  read_told e = ap (λ (b : Bool). cond b (value (part at w l)) 0) e

  pub inside_fits : inside l at w ≡ true → (w ≤ 64) × (at + w ≤ length l)
  inside_fits t = (leb-true w 64 (and_left _ _ t), leb-true (at + w) (length l) (and_right (leb w 64) _ t))

  -- by its place and its width
  is_inside : w ≤ 64 → at + w ≤ length l → inside l at w ≡ true
  is_inside hw h = ap₂ ◌&&◌ (le-leb w 64 hw) (le-leb (at + w) (length l) h)

  pub written_inside : (v : ℕ) → w ≤ 64 → at + w ≤ length l → put_at l at w v ≡ splice l at (field w v)
  written_inside v hw h = written_told v (is_inside hw h)

  pub read_inside : w ≤ 64 → at + w ≤ length l → read_at l at w ≡ value (part at w l)
  read_inside hw h = read_told (is_inside hw h)

  pub read_outside : length l < at + w → read_at l at w ≡ 0
  read_outside h = read_told (ap (λ (b : Bool). leb w 64 && b) (lt-leb (at + w) (length l) h) ∙ and-false (leb w 64))

pub read_most : (xs : List ℕ) (at w : ℕ) → read_at (bits_of xs) at w < 2 ^ w
unfolding read_at
read_most xs at w = either (λ (n : ℕ). n < 2 ^ w) (inside (bits_of xs) at w) (part_most (bits_of xs) (bits_bytes xs) at w) (pow_pos w)
