-- The bitwise instructions go bit by bit: bit k of the result is the logic instruction's operation on bits k of the operands, and the bits of
-- a word determine it. Assumes nothing.
use Rattle.std.proofs.Common.{◌≡◌, ℕ, zero, suc, ◌+◌, ◌-◌, ◌/◌, ◌%◌, ◌^◌, ◌<◌, min, max, Bool, true, false, not, ◌&&◌, ◌||◌, sym, refl, ap, ◌∙◌, arith, w32}
use Rattle.std.proofs.lemmas.Nat.Bits.{bit_at_and, bit_at_or, bit_at_xor, bit_at_not, bit_at-lt, same_from_bits_below}
use Rattle.std.specs.Int as num
use lib.Bits.{bit_and, bit_or, bit_xor, and_lt, or_lt}
use Rattle.rules.specs.Words.{bit, holds, nand, nor, unlike, bit_not, bit_nand, bit_nor}

-- bit k of a word, the lowest being bit 0
abbrev pub bit_at : ℕ → ℕ → Bool
bit_at n k = holds (n / 2 ^ k % 2)

-- the law: the operation on words is the operation on truths, at each of the 32 bits
abbrev pub BitByBit : (ℕ → ℕ → ℕ) → (Bool → Bool → Bool) → Type 0
BitByBit op f = (b t k : ℕ) → b < 2 ^ 32 → t < 2 ^ 32 → k < 32 → bit_at (op b t) k ≡ f (bit_at b k) (bit_at t k)

-- ---- the operations on one bit, by its four cases

on_bits : (P : ℕ → ℕ → Type 0) → P 0 0 → P 0 1 → P 1 0 → P 1 1 → (x y : ℕ) → x < 2 → y < 2 → P x y
on_bits P a b c d zero zero p q = a
on_bits P a b c d zero (suc zero) p q = b
on_bits P a b c d (suc zero) zero p q = c
on_bits P a b c d (suc zero) (suc zero) p q = d
on_bits P a b c d zero (suc (suc y)) p q = absurd (omega arith)
on_bits P a b c d (suc zero) (suc (suc y)) p q = absurd (omega arith)
on_bits P a b c d (suc (suc x)) y p q = absurd (omega arith)

-- an operation that is g on bits is f on truths, where g is f at 0 and 1
by_bit : (op g : ℕ → ℕ → ℕ) (f : Bool → Bool → Bool) → ((b t k : ℕ) → num.bit_at (op b t) k ≡ g (num.bit_at b k) (num.bit_at t k))
    → holds (g 0 0) ≡ f false false → holds (g 0 1) ≡ f false true → holds (g 1 0) ≡ f true false → holds (g 1 1) ≡ f true true → BitByBit op f
by_bit op g f law p q r s b t k hb ht hk =
    ap holds (law b t k) ∙ on_bits (λ x y. holds (g x y) ≡ f (holds x) (holds y)) p q r s (num.bit_at b k) (num.bit_at t k) (bit_at-lt b k) (bit_at-lt t k)

-- ---- BITNOT

pub bit_not_bits : (t k : ℕ) → t < 2 ^ 32 → k < 32 → bit_at (bit_not t) k ≡ not (bit_at t k)
bit_not_bits t k h hk =
    ap holds (bit_at_not w32 t k h hk) ∙ on_bits (λ x y. holds (1 - x) ≡ not (holds x)) refl refl refl refl (num.bit_at t k) 0 (bit_at-lt t k) (omega arith)

-- "BITNAND is BITAND then BITNOT; BITNOR likewise."
negated : (op : ℕ → ℕ → ℕ) (f : Bool → Bool → Bool) → BitByBit op f → ((b t : ℕ) → b < 2 ^ 32 → t < 2 ^ 32 → op b t < 2 ^ 32)
    → BitByBit (λ b t. bit_not (op b t)) (λ x y. not (f x y))
negated op f law below b t k hb ht hk = bit_not_bits (op b t) k (below b t hb ht) hk ∙ ap not (law b t k hb ht hk)

-- ---- the five that take two operands

pub bit_and_bits : BitByBit bit_and ◌&&◌
bit_and_bits = by_bit bit_and min ◌&&◌ bit_at_and refl refl refl refl

pub bit_or_bits : BitByBit bit_or ◌||◌
bit_or_bits = by_bit bit_or max ◌||◌ bit_at_or refl refl refl refl

pub bit_xor_bits : BitByBit bit_xor unlike
bit_xor_bits = by_bit bit_xor (λ x y. (x + y) % 2) unlike bit_at_xor refl refl refl refl

pub bit_nand_bits : BitByBit bit_nand nand
bit_nand_bits = negated bit_and ◌&&◌ bit_and_bits (and_lt 32)

pub bit_nor_bits : BitByBit bit_nor nor
bit_nor_bits = negated bit_or ◌||◌ bit_or_bits (or_lt 32)

-- ---- the bits of a word determine it, at any width

-- a bit is determined by its truth
same_bit : (x y : ℕ) → x < 2 → y < 2 → holds x ≡ holds y → x ≡ y
same_bit x y p q e = bit_holds x p ∙ ap bit e ∙ sym (bit_holds y q)
  where
    bit_holds : (x : ℕ) → x < 2 → x ≡ bit (holds x)
    bit_holds zero p = refl
    bit_holds (suc zero) p = refl
    bit_holds (suc (suc x)) p = absurd (omega arith)

pub same_bits : (w m n : ℕ) → m < 2 ^ w → n < 2 ^ w → ((k : ℕ) → k < w → bit_at m k ≡ bit_at n k) → m ≡ n
same_bits w m n p q e =
    same_from_bits_below w m n p q
    (λ (k : ℕ) (h : k < w). same_bit (num.bit_at m k) (num.bit_at n k) (bit_at-lt m k) (bit_at-lt n k) (e k h))
