-- The laws of bits as a list of 0 and 1: a field of its own number, and bytes of bits and back. Assumes nothing.
use Prim.Native.Nat.{ℕ, zero, suc, ◌+◌, ◌-◌, ◌*◌, ◌/◌, ◌%◌, ◌^◌, ◌≤◌, ◌<◌}
use mathlib.Core.Path.{◌≡◌, refl, sym, ap, ap₂, ◌∙◌, subst}
use mathlib.Core.Bool.{Bool, false, ◌&&◌}
use mathlib.Core.List.{List, [], ◌∷◌, ◌++◌, append_assoc, append-nil}
use native.Mathlib.Nat.{lt_of_lt_of_le, mod-eq_of_lt, mod-lt, zero-div, zero-mul, zero-add, le_of_suc-le-suc, not-suc-le-zero, pow-succ'}
use native.Mathlib.Omega.{arith}
use borrow.Author.Tests.{lt-ltb, le-ltb}
use lib.Arith.{digits_lt}
use lib.Dec.{eqb}
use lib.ListN.{length, take, drop, get_or, replicate, length-append, length-take, length-replicate, length-drop, replicate-append-replicate}
use lib.Pow.{high, pow_mono}
use lib.Seq.{take_at, drop_at, length-take-le, take-add, take-append-add}
use Rattle.rules.specs.Lists.{part, splice}
use Rattle.rules.specs.Fields.{field, value, bits_of, bytes_of, packed_to, padded}
use Rattle.rules.proofs.Zeros.{take_zeros, drop_zeros}
use Rattle.rules.proofs.Fields.{field_length, field_low, value_field, bits_of_length}
use Rattle.rules.proofs.Splice.{length_part}

-- ---- each is 0 or 1

abbrev pub Bits : List ℕ → Type 0
Bits [] = Unit {0}
Bits (b ∷ bs) = (b < 2) × Bits bs

pub bits_append : (l m : List ℕ) → Bits l → Bits m → Bits (l ++ m)
bits_append [] m x y = y
bits_append (b ∷ l) m x y = (x.0, bits_append l m x.1 y)

pub bits_field : (w v : ℕ) → Bits (field w v)
unfolding field
bits_field zero v = tt
bits_field (suc w) v = (mod-lt (v / 2 ^ w) (omega arith), bits_field w v)

pub bits_zeros : (n : ℕ) → Bits (replicate n 0)
bits_zeros zero = tt
bits_zeros (suc n) = (omega arith, bits_zeros n)

pub bits_take : (n : ℕ) (l : List ℕ) → Bits l → Bits (take n l)
bits_take zero l x = tt
bits_take (suc n) [] x = tt
bits_take (suc n) (b ∷ l) x = (x.0, bits_take n l x.1)

pub bits_drop : (n : ℕ) (l : List ℕ) → Bits l → Bits (drop n l)
bits_drop zero l x = x
bits_drop (suc n) [] x = tt
bits_drop (suc n) (b ∷ l) x = bits_drop n l x.1

pub bits_bytes : (xs : List ℕ) → Bits (bits_of xs)
unfolding bits_of
bits_bytes [] = tt
bits_bytes (x ∷ xs) = bits_append (field 8 x) (bits_of xs) (bits_field 8 x) (bits_bytes xs)

value_most : (l : List ℕ) → Bits l → value l < 2 ^ length l
unfolding value
value_most [] x = omega arith
value_most (b ∷ l) x =
    subst (λ (k : ℕ). b * 2 ^ length l + value l < k) (sym (pow-succ' 2 (length l))) (digits_lt x.0 (value_most l x.1))

-- a part of w bits
pub part_most : (l : List ℕ) → Bits l → (at w : ℕ) → value (part at w l) < 2 ^ w
part_most l x at w =
    lt_of_lt_of_le (value_most (part at w l) (bits_take w (drop at l) (bits_drop at l x))) (pow_mono (omega (arith, length-take w (drop at l))))

-- bits are the field of their number
pub field_value : (l : List ℕ) → Bits l → field (length l) (value l) ≡ l
unfolding value field
field_value [] x = refl
field_value (b ∷ l) x =
    ap₂ (λ (v : ℕ) (r : List ℕ). v ∷ r)
    (ap (λ (v : ℕ). v % 2) (high b (length l) (value_most l x.1)) ∙ mod-eq_of_lt x.0)
    (field_low (length l) b (value l) ∙ field_value l x.1)

-- and so is a part of them
pub part_value : (l : List ℕ) → Bits l → (at w : ℕ) → at + w ≤ length l → field w (value (part at w l)) ≡ part at w l
part_value l x at w h =
    ap (λ (n : ℕ). field n (value (part at w l))) (sym (length_part at w l h)) ∙ field_value (part at w l) (bits_take w (drop at l) (bits_drop at l x))

-- ---- zeros

pub value_zeros : (n : ℕ) → value (replicate n 0) ≡ 0
unfolding value
value_zeros zero = refl
value_zeros (suc n) = ap₂ (λ (a b : ℕ). a + b) (zero-mul (2 ^ length (replicate {A = ℕ} n 0))) (value_zeros n)

field_zero : (w : ℕ) → field w 0 ≡ replicate w 0
unfolding field
field_zero zero = refl
field_zero (suc w) = ap₂ (λ (v : ℕ) (l : List ℕ). v ∷ l) (ap (λ (n : ℕ). n % 2) (zero-div (2 ^ w))) (field_zero w)

bits_of_zeros : (n : ℕ) → bits_of (replicate n 0) ≡ replicate (n * 8) 0
unfolding bits_of
bits_of_zeros zero = refl
bits_of_zeros (suc n) =
    ap₂ (λ (a b : List ℕ). a ++ b) (field_zero 8) (bits_of_zeros n) ∙ replicate-append-replicate 8 (n * 8) 0
    ∙ ap (λ (k : ℕ). replicate k 0) (let e : 8 + n * 8 ≡ suc n * 8 = omega arith in e)

-- bits written over zeros from the start
splice_zeros : (n : ℕ) (f : List ℕ) → splice (bits_of (replicate n 0)) 0 f ≡ f ++ replicate (n * 8 - length f) 0
splice_zeros n f =
    ap (λ (l : List ℕ). f ++ drop (0 + length f) l) (bits_of_zeros n)
    ∙ ap (λ (k : ℕ). f ++ drop k (replicate (n * 8) 0)) (zero-add (length f))
    ∙ ap (λ (l : List ℕ). f ++ l) (drop_zeros (length f) (n * 8))

-- ---- bytes and bits

-- the bytes of bytes' bits are the bytes, whatever stands behind them
pub bytes_back : (xs rest : List ℕ) → ((i : ℕ) → get_or xs i 0 < 2 ^ 8) → bytes_of (length xs) (bits_of xs ++ rest) ≡ xs
unfolding bytes_of bits_of
bytes_back [] rest h = refl
bytes_back (x ∷ xs) rest h =
    let l : List ℕ = bits_of xs ++ rest in
    let e : bits_of (x ∷ xs) ++ rest ≡ field 8 x ++ l = append_assoc (field 8 x) (bits_of xs) rest in
    ap₂ (λ (v : ℕ) (r : List ℕ). v ∷ r)
    (ap (λ (b : List ℕ). value (take 8 b)) e ∙ ap value (take_at (field 8 x) l 8 (field_length 8 x)) ∙ value_field 8 x ∙ mod-eq_of_lt (h 0))
    (ap (λ (b : List ℕ). bytes_of (length xs) (drop 8 b)) e ∙ ap (bytes_of (length xs)) (drop_at (field 8 x) l 8 (field_length 8 x))
    ∙ bytes_back xs rest (λ i. h (suc i)))

-- the bits of bits' bytes are the bits
bits_back : (n : ℕ) (l : List ℕ) → Bits l → n * 8 ≤ length l → bits_of (bytes_of n l) ≡ take (n * 8) l
unfolding bits_of bytes_of
bits_back zero l x h = refl
bits_back (suc n) l x h =
    let f : length (take 8 l) ≡ 8 = length-take-le 8 l (omega arith) in
    let g : 8 + n * 8 ≡ suc n * 8 = omega arith in
    ap₂ (λ (a b : List ℕ). a ++ b)
    (ap (λ (k : ℕ). field k (value (take 8 l))) (sym f) ∙ field_value (take 8 l) (bits_take 8 l x))
    (bits_back n (drop 8 l) (bits_drop 8 l x) (omega (arith, length-drop 8 l)))
    ∙ sym (take-add 8 (n * 8) l) ∙ ap (λ (k : ℕ). take k l) g

take_bytes : (k n : ℕ) (l : List ℕ) → k ≤ n → take k (bytes_of n l) ≡ bytes_of k l
unfolding bytes_of
take_bytes zero n l h = refl
take_bytes (suc k) zero l h = absurd (not-suc-le-zero h)
take_bytes (suc k) (suc n) l h = ap (λ (r : List ℕ). value (take 8 l) ∷ r) (take_bytes k n (drop 8 l) (le_of_suc-le-suc h))

pub bytes_length : (n : ℕ) (l : List ℕ) → length (bytes_of n l) ≡ n
unfolding bytes_of
bytes_length zero l = refl
bytes_length (suc n) l = ap suc (bytes_length n (drop 8 l))

-- ---- n bytes that hold bits and then zeros

pub packed_length : (n : ℕ) (l : List ℕ) → length (packed_to n l) ≡ n
unfolding packed_to
packed_length n l = bytes_length n (l ++ replicate (n * 8 - length l) 0)

-- they are what the bits make, written over zeros
pub packed_is : (n : ℕ) (xs f : List ℕ) → length xs ≡ n → ((i : ℕ) → get_or xs i 0 < 2 ^ 8) → bits_of xs ≡ splice (bits_of (replicate n 0)) 0 f → xs ≡ packed_to n f
unfolding packed_to
packed_is n xs f el h e = sym (bytes_back xs [] h) ∙ ap₂ bytes_of el (append-nil (bits_of xs) ∙ e ∙ splice_zeros n f)

-- and the first k of them, enough for the bits, hold the bits and then zeros to a byte
pub packed_bits : (k n : ℕ) (l : List ℕ) → Bits l → k ≤ n → length l ≤ k * 8 → bits_of (take k (packed_to n l)) ≡ l ++ replicate (k * 8 - length l) 0
unfolding packed_to
packed_bits k n l x h g =
    let z : List ℕ = replicate (n * 8 - length l) 0 in
    let lz : length z ≡ n * 8 - length l = length-replicate (n * 8 - length l) 0 in
    let e : k * 8 ≡ length l + (k * 8 - length l) = omega arith in
    ap bits_of (take_bytes k n (l ++ z) h)
    ∙ bits_back k (l ++ z) (bits_append l z x (bits_zeros (n * 8 - length l))) (omega (arith, length-append l z))
    ∙ ap (λ (i : ℕ). take i (l ++ z)) e ∙ take-append-add l z (k * 8 - length l)
    ∙ ap (λ (r : List ℕ). l ++ r) (take_zeros (k * 8 - length l) (n * 8 - length l) (omega arith))

-- ---- what is left behind the first bits of bytes, and whether it is padding

pub rest_length : (image : List ℕ) (at : ℕ) → length (drop at (bits_of image)) ≡ length image * 8 - at
rest_length image at = length-drop at (bits_of image) ∙ ap (λ (n : ℕ). n - at) (bits_of_length image)

pub padded_long : (bits : List ℕ) → 8 ≤ length bits → padded bits ≡ false
unfolding padded
padded_long bits h = ap (λ (b : Bool). b && eqb (value bits) 0) (le-ltb _ _ h)

pub padded_short : (bits : List ℕ) → length bits < 8 → padded bits ≡ eqb (value bits) 0
unfolding padded
padded_short bits h = ap (λ (b : Bool). b && eqb (value bits) 0) (lt-ltb _ _ h)
