-- Layouts: fields side by side, of any widths and any count of them. What is laid out is read back, and its number is a sum of products: each law once
-- for all layouts. Assumes nothing.
use Prim.Native.Nat.{ℕ, zero, suc, ◌+◌, ◌*◌, ◌/◌, ◌%◌, ◌^◌}
use mathlib.Core.Path.{◌≡◌, refl, sym, ap, ap₂, ◌∙◌}
use mathlib.Core.List.{List, [], ◌∷◌, ◌++◌}
use lib.ListN.{length, get_or, take, drop, length-append}
use lib.Seq.{drop-drop, take_at, drop_at}
use Rattle.rules.specs.Lists.{part}
use Rattle.rules.specs.Fields.{field, value, side, total, field_in}
use Rattle.rules.proofs.Fields.{field_length, value_field, value_append, field_at}
use Rattle.rules.proofs.Bits.{Bits, bits_append, bits_field, field_value}

pub side_length : (ws vs : List ℕ) → length (side ws vs) ≡ total ws
side_length [] vs = refl
side_length (w ∷ ws) [] = length-append (field w 0) (side ws []) ∙ ap₂ ◌+◌ (field_length w 0) (side_length ws [])
side_length (w ∷ ws) (v ∷ vs) = length-append (field w v) (side ws vs) ∙ ap₂ ◌+◌ (field_length w v) (side_length ws vs)

pub side_bits : (ws vs : List ℕ) → Bits (side ws vs)
side_bits [] vs = tt
side_bits (w ∷ ws) [] = bits_append (field w 0) (side ws []) (bits_field w 0) (side_bits ws [])
side_bits (w ∷ ws) (v ∷ vs) = bits_append (field w v) (side ws vs) (bits_field w v) (side_bits ws vs)

-- a field in front, and those behind it
first_of : (w v : ℕ) (l : List ℕ) → part 0 w (field w v ++ l) ≡ field w v
first_of w v l = take_at (field w v) l w (field_length w v)

behind : (w v k n : ℕ) (l : List ℕ) → part (w + k) n (field w v ++ l) ≡ part k n l
behind w v k n l = ap (take n) (sym (drop-drop k w (field w v ++ l)) ∙ ap (drop k) (drop_at (field w v) l w (field_length w v)))

side_at : (ws vs : List ℕ) (i : ℕ) → part (total (take i ws)) (get_or ws i 0) (side ws vs) ≡ field (get_or ws i 0) (get_or vs i 0)
unfolding field
side_at [] vs zero = refl
side_at [] vs (suc i) = refl
side_at (w ∷ ws) [] zero = first_of w 0 (side ws [])
side_at (w ∷ ws) [] (suc i) = behind w 0 (total (take i ws)) (get_or ws i 0) (side ws []) ∙ side_at ws [] i
side_at (w ∷ ws) (v ∷ vs) zero = first_of w v (side ws vs)
side_at (w ∷ ws) (v ∷ vs) (suc i) = behind w v (total (take i ws)) (get_or ws i 0) (side ws vs) ∙ side_at ws vs i

-- "Width facts on bit fields are shown once for any width": what is laid out is read back, of a number that does not fit its low bits
pub side_read : (ws vs : List ℕ) (i : ℕ) → field_in ws i (side ws vs) ≡ get_or vs i 0 % 2 ^ get_or ws i 0
side_read ws vs i = ap value (side_at ws vs i) ∙ value_field (get_or ws i 0) (get_or vs i 0)

-- side by side is Horner's rule
abbrev pub sum : List ℕ → List ℕ → ℕ
sum [] vs = 0
sum (w ∷ ws) [] = 0 % 2 ^ w * 2 ^ total ws + sum ws []
sum (w ∷ ws) (v ∷ vs) = v % 2 ^ w * 2 ^ total ws + sum ws vs

pub side_value : (ws vs : List ℕ) → value (side ws vs) ≡ sum ws vs
unfolding value
side_value [] vs = refl
side_value (w ∷ ws) [] =
    value_append (field w 0) (side ws [])
    ∙ ap₂ (λ (x y : ℕ). x * 2 ^ length (side ws []) + y) (value_field w 0) (side_value ws [])
    ∙ ap (λ (n : ℕ). 0 % 2 ^ w * 2 ^ n + sum ws []) (side_length ws [])
side_value (w ∷ ws) (v ∷ vs) =
    value_append (field w v) (side ws vs)
    ∙ ap₂ (λ (x y : ℕ). x * 2 ^ length (side ws vs) + y) (value_field w v) (side_value ws vs)
    ∙ ap (λ (n : ℕ). v % 2 ^ w * 2 ^ n + sum ws vs) (side_length ws vs)

-- ---- a layout as one number

-- what is laid out is the field of its number
pub laid_out : (ws vs : List ℕ) → field (total ws) (value (side ws vs)) ≡ side ws vs
laid_out ws vs = ap (λ (n : ℕ). field n (value (side ws vs))) (sym (side_length ws vs)) ∙ field_value (side ws vs) (side_bits ws vs)

-- field i of any number of n bits, with those behind it
pub field_in_lem : (ws : List ℕ) (i n v : ℕ) → total (take i ws) + get_or ws i 0 + total (drop (suc i) ws) ≡ n
    → field_in ws i (field n v) ≡ v / 2 ^ total (drop (suc i) ws) % 2 ^ get_or ws i 0
field_in_lem ws i n v e =
    let at = total (take i ws) in
    let w = get_or ws i 0 in
    let k = total (drop (suc i) ws) in
    ap (λ (m : ℕ). value (part at w (field m v))) (sym e) ∙ ap value (field_at at w k v) ∙ value_field w (v / 2 ^ k)
