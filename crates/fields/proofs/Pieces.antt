-- The bytes that a field covers, as one number, and the bits beside it in the first and the last of them: one law for every width. Assumes nothing.
use Prim.Native.Nat.{ℕ, suc, ◌+◌, ◌-◌, ◌*◌, ◌/◌, ◌%◌, ◌^◌, ◌≤◌, ◌<◌}
use mathlib.Core.Path.{◌≡◌, sym, ap, ap₂, ◌∙◌}
use mathlib.Core.List.{List, ◌++◌, append_assoc}
use native.Mathlib.Nat.{mod-lt, mod-eq_of_lt, lt_of_lt_of_le, add-zero, div-one}
use native.Mathlib.Omega.{arith}
use lib.Arith.{digits_lt}
use lib.ListN.{length, take, drop, get_or, set, length-drop}
use lib.Pow.{pow_pos, pow-add, pow_mono}
use lib.Seq.{take-append-le, drop-append-le, drop-append-add, drop-drop, take-add, take_all}
use Rattle.rules.specs.Lists.{part, splice}
use Rattle.rules.specs.Fields.{field, value, bits_of}
use Rattle.rules.proofs.Fields.{field_length, field_split, field_mod, field_join, field_at, value_field, value_append, bits_of_length, bits_of_at, bits_of_set, bits_of_front}
use Rattle.rules.proofs.Bits.{Bits, bits_bytes, part_most, part_value}
use Rattle.rules.proofs.Splice.{length_part, part_part, splice_mid, splice_beside, splice_before, splice_within}

-- ---- a byte of a slice: its bits are where the whole has them, and what is written to it too

byte_bits : (xs : List ℕ) (k j n : ℕ) → k < length xs → j + n ≤ 8 → part (k * 8 + j) n (bits_of xs) ≡ part j n (field 8 (get_or xs k 0))
byte_bits xs k j n h hn =
    let b : List ℕ = field 8 (get_or xs k 0) in
    let p : List ℕ = bits_of (take k xs) in
    let s : List ℕ = bits_of (drop (suc k) xs) in
    let lb : j + n ≤ length b = omega (arith, field_length 8 (get_or xs k 0)) in
    ap₂ (λ (i : ℕ) (l : List ℕ). take n (drop (i + j) l)) (sym (bits_of_front xs k (omega arith))) (bits_of_at xs k h)
    ∙ ap (take n) (drop-append-add p (b ++ s) j ∙ drop-append-le j b s (omega arith))
    ∙ take-append-le n (drop j b) s (omega (arith, length-drop j b))

byte_written : (xs : List ℕ) (k r : ℕ) → k < length xs → bits_of (set xs k r) ≡ splice (bits_of xs) (k * 8) (field 8 r)
byte_written xs k r h =
    let b : ℕ = get_or xs k 0 in
    bits_of_set xs k r h
    ∙ sym (ap (λ (l : List ℕ). splice l (k * 8) (field 8 r)) (bits_of_at xs k h)
    ∙ splice_mid (bits_of (take k xs)) (field 8 b) (bits_of (drop (suc k) xs)) (field 8 r) (k * 8) (bits_of_front xs k (omega arith)) (field_length 8 b ∙ sym (field_length 8 r)))

-- ---- what is written: h, the low n bits of v, and the low c bits of t side by side
module _ (j n c h v t : ℕ) {span low : ℕ} (es : span ≡ 2 ^ n) (el : low ≡ 2 ^ c) where
  pub side_by_side : field (j + n + c) ((h * span + v % span) * low + t % low) ≡ field j h ++ (field n v ++ field c t)
  side_by_side =
      rw (es, el)
      (field_join (j + n) c (h * 2 ^ n + v % 2 ^ n) (t % 2 ^ c) (mod-lt t (pow_pos c))
      ∙ ap₂ (λ (l m : List ℕ). l ++ m)
      (field_join j n h (v % 2 ^ n) (mod-lt v (pow_pos n)) ∙ ap (λ (l : List ℕ). field j h ++ l) (field_mod n v)) (field_mod c t)
      ∙ append_assoc (field j h) (field n v) (field c t))

  -- as numbers of 64 bits
  module _ (hh : h < 2 ^ j) (most : j + n + c ≤ 64) where
    high_most : h * span + v % span < 2 ^ (j + n)
    high_most = rw (es, pow-add 2 j n) (digits_lt hh (mod-lt v (pow_pos n)))

    pub high_fits : h * span + v % span < 2 ^ 64
    high_fits = lt_of_lt_of_le high_most (pow_mono {j = 64} (omega arith))

    whole_most : (h * span + v % span) * low + t % low < 2 ^ (j + n + c)
    whole_most =
        let m = high_most in
        rw (el, pow-add 2 (j + n) c) (digits_lt m (mod-lt t (pow_pos c)))

    pub whole_fits : (h * span + v % span) * low + t % low < 2 ^ 64
    whole_fits = lt_of_lt_of_le whole_most (pow_mono {j = 64} most)

-- the first bits of a byte, and the last
pub first_bits : (n b : ℕ) → n ≤ 8 → field n (b / 2 ^ (8 - n)) ≡ part 0 n (field 8 b)
first_bits n b h =
    let e : 0 + n + (8 - n) ≡ 8 = omega arith in
    sym (field_at 0 n (8 - n) b) ∙ ap (λ (w : ℕ). part 0 n (field w b)) e

pub last_bits : (n b : ℕ) → n ≤ 8 → field n b ≡ part (8 - n) n (field 8 b)
last_bits n b h =
    let e : 8 - n + n + 0 ≡ 8 = omega arith in
    ap (field n) (sym (div-one b)) ∙ sym (field_at (8 - n) n 0 b) ∙ ap (λ (w : ℕ). part (8 - n) n (field w b)) e

-- a turn of the loop that writes: one byte more, before byte i, from which the low d bits of v are written
pub put_more : (xs l : List ℕ) (i d v : ℕ) → 0 < i → i ≤ length xs → i * 8 + d ≤ length l → bits_of xs ≡ splice l (i * 8) (field d v)
    → bits_of (set xs (i - 1) (v / 2 ^ d % 2 ^ 8)) ≡ splice l ((i - 1) * 8) (field (8 + d) v)
put_more xs l i d v hi h hd ex =
    let k : ℕ = i - 1 in
    let u : ℕ = v / 2 ^ d in
    let ei : i * 8 ≡ k * 8 + length (field 8 u) = omega (arith, field_length 8 u) in
    byte_written xs k (u % 2 ^ 8) (omega arith)
    ∙ ap₂ (λ (m f : List ℕ). splice m (k * 8) f) (ex ∙ ap (λ (n : ℕ). splice l n (field d v)) ei) (field_mod 8 u)
    ∙ splice_before l (k * 8) (field 8 u) (field d v) (omega (arith, field_length 8 u, field_length d v))
    ∙ ap (splice l (k * 8)) (sym (field_split 8 d v))

-- the covered bytes, with the bits beside the field as they stood, are the field written
pub field_covered : (xs : List ℕ) (from last j n c v r : ℕ) → from < length xs → last < length xs → j ≤ 8 → c ≤ 8 → from * 8 + j + n + c ≡ last * 8 + 8
    → field (j + n + c) r ≡ part 0 j (field 8 (get_or xs from 0)) ++ (field n v ++ part (8 - c) c (field 8 (get_or xs last 0)))
    → splice (bits_of xs) (from * 8) (field (j + n + c) r) ≡ splice (bits_of xs) (from * 8 + j) (field n v)
field_covered xs from last j n c v r hf hl hj hc e er =
    let l : List ℕ = bits_of xs in
    let f : List ℕ = field n v in
    let ef : part 0 j (field 8 (get_or xs from 0)) ≡ part (from * 8) j l =
    sym (byte_bits xs from 0 j hf (omega arith)) ∙ ap (λ (i : ℕ). part i j l) (add-zero (from * 8)) in
    let es : last * 8 + (8 - c) ≡ from * 8 + j + length f = omega (arith, field_length n v) in
    let el : part (8 - c) c (field 8 (get_or xs last 0)) ≡ part (from * 8 + j + length f) c l =
    sym (byte_bits xs last (8 - c) c hl (omega arith)) ∙ ap (λ (i : ℕ). part i c l) es in
    ap (splice l (from * 8)) (er ∙ ap₂ (λ (p s : List ℕ). p ++ (f ++ s)) ef el)
    ∙ splice_within l (from * 8) j c f (omega (arith, field_length n v, bits_of_length xs))

-- the high bits, and behind them the low ones
pub put_halves : (l : List ℕ) (at a b v : ℕ) → at + a ≤ length l → splice (splice l at (field a (v / 2 ^ b))) (at + a) (field b v) ≡ splice l at (field (a + b) v)
put_halves l at a b v h =
    let f : List ℕ = field a (v / 2 ^ b) in
    let e : a ≡ length f = sym (field_length a (v / 2 ^ b)) in
    ap (λ (n : ℕ). splice (splice l at f) (at + n) (field b v)) e ∙ splice_beside l at f (field b v) (omega arith)
    ∙ ap (splice l at) (sym (field_split a b v))

-- ---- what is read

-- a byte's number
pub byte_number : (xs : List ℕ) (k : ℕ) → k < length xs → get_or xs k 0 < 2 ^ 8 → value (part (k * 8) 8 (bits_of xs)) ≡ get_or xs k 0
byte_number xs k h most =
    let b : ℕ = get_or xs k 0 in
    ap (λ (i : ℕ). value (part i 8 (bits_of xs))) (sym (add-zero (k * 8))) ∙ ap value (byte_bits xs k 0 8 h (omega arith) ∙ take_all 8 (field 8 b) (omega (arith, field_length 8 b)))
    ∙ value_field 8 b ∙ mod-eq_of_lt most

-- n bits more, behind d bits
pub part_more : (l : List ℕ) (at d n : ℕ) → at + d + n ≤ length l → value (part at (d + n) l) ≡ value (part at d l) * 2 ^ n + value (part (at + d) n l)
part_more l at d n h =
    ap value (take-add d n (drop at l) ∙ ap (λ (m : List ℕ). part at d l ++ take n m) (drop-drop d at l))
    ∙ value_append (part at d l) (part (at + d) n l)
    ∙ ap (λ (k : ℕ). value (part at d l) * 2 ^ k + value (part (at + d) n l)) (length_part (at + d) n l h)

pub more_fits : (xs : List ℕ) (at d pos n : ℕ) → d + n ≤ 64 → value (part at d (bits_of xs)) * 2 ^ n + value (part pos n (bits_of xs)) < 2 ^ 64
more_fits xs at d pos n h =
    let l : List ℕ = bits_of xs in
    let x : Bits l = bits_bytes xs in
    let m : value (part at d l) * 2 ^ n + value (part pos n l) < 2 ^ (d + n) = rw (pow-add 2 d n) (digits_lt (part_most l x at d) (part_most l x pos n)) in
    lt_of_lt_of_le m (pow_mono {j = 64} h)

-- n bits within the j + n + c bits of a number
pub part_within : (xs : List ℕ) (at j n c : ℕ) → at + (j + n + c) ≤ length xs * 8
    → value (part at (j + n + c) (bits_of xs)) / 2 ^ c % 2 ^ n ≡ value (part (at + j) n (bits_of xs))
part_within xs at j n c h =
    let l : List ℕ = bits_of xs in
    let v : ℕ = value (part at (j + n + c) l) in
    sym (value_field n (v / 2 ^ c))
    ∙ ap value (sym (field_at j n c v) ∙ ap (part j n) (part_value l (bits_bytes xs) at (j + n + c) (omega (arith, bits_of_length xs))) ∙ part_part at j (j + n + c) n l (omega arith))
