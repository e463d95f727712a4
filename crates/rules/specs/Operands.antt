-- Document 01, "Text, table, image", and document 02, letter e: number operands as text. Assumes nothing.
use Rattle.std.specs.Prelude.{ℕ, ◌+◌, ◌*◌, ◌-◌, ◌^◌, ◌%◌, Bool, true, false, cond, ◌&&◌, List, [], ◌∷◌, eqb, leb, ltb, length, drop, get_or, Ok, Err}
use Prim.Native.Char.{code}
use Rattle.rules.specs.Bytes.{hash, minus_sign, point}
use Rattle.rules.specs.Floats.{nearest_f}
use Rattle.rules.specs.Answers.{Numeral}
use Rattle.rules.specs.declared.NumeralFault.TheVariants.{WrongForm, OutOfRange}

-- what a byte counts for as a digit, "of either case": 0 to 9, A to F and a to f; 16 where it is none
unfoldable pub digit_of : ℕ → ℕ
digit_of b =
    cond (leb (code "0") b && leb b (code "9")) (b - code "0")
    (cond (leb (code "A") b && leb b (code "F")) (b - (code "A" - 10))
    (cond (leb (code "a") b && leb b (code "f")) (b - (code "a" - 10)) 16))

-- each byte is a digit in the base
unfoldable pub all_digits : ℕ → List ℕ → Bool
all_digits base [] = true
all_digits base (b ∷ s) = ltb (digit_of b) base && all_digits base s

-- the number that digits make after those that made n
unfoldable pub numeral : ℕ → ℕ → List ℕ → ℕ
numeral base n [] = n
numeral base n (b ∷ s) = numeral base (n * base + digit_of b) s

-- one or more digits in the base
unfoldable pub is_numeral : ℕ → List ℕ → Bool
is_numeral base [] = false
is_numeral base (b ∷ s) = all_digits base (b ∷ s)

-- how many minus signs stand in front: 1 or none
unfoldable pub signs : List ℕ → ℕ
signs [] = 0
signs (b ∷ s) = cond (eqb b minus_sign) 1 0

-- the two's complement of −n
unfoldable pub negated : ℕ → ℕ
negated n = (2 ^ 32 - n) % 2 ^ 32

-- the number n with a minus or without: from −least to most
unfoldable pub ranged : ℕ → ℕ → Bool → ℕ → Numeral
ranged least most true n = cond (leb n least) (Ok (negated n)) (Err OutOfRange)
ranged least most false n = cond (leb n most) (Ok n) (Err OutOfRange)

-- "Numbers: optional `-`, digits; more than 10 digits is 25."
unfoldable pub number_of : ℕ → ℕ → List ℕ → Numeral
number_of least most t =
    let ds = drop (signs t) t in
    let n = ranged least most (eqb (signs t) 1) (numeral 10 0 ds) in
    cond (is_numeral 10 ds) (cond (leb (length ds) 10) n (Err OutOfRange)) (Err WrongForm)

-- "`#` and eight hex digits of either case"
unfoldable pub pattern_of : List ℕ → Numeral
pattern_of [] = Err WrongForm
pattern_of (b ∷ ds) =
    let n = Ok (numeral 16 0 ds) in
    cond (eqb (length ds) 8 && eqb b hash && all_digits 16 ds) n (Err WrongForm)

-- ---- decimals (02 e)

-- what stands before the first point, and what after it: the whole text, and nothing, where there is none
unfoldable pub before_point : List ℕ → List ℕ
before_point [] = []
before_point (b ∷ s) =
    let more = b ∷ before_point s in
    cond (eqb b point) [] more

unfoldable pub after_point : List ℕ → List ℕ
after_point [] = []
after_point (b ∷ s) =
    let rest = after_point s in
    cond (eqb b point) s rest

-- "a point with digits on both sides"
unfoldable pub is_decimal : List ℕ → Bool
is_decimal ds = is_numeral 10 (before_point ds) && is_numeral 10 (after_point ds)

-- "It is read as the binary32 nearest the exact decimal": all its digits as one number, over ten for each digit after the point; "Minus zero keeps its
-- sign."
unfoldable pub nearest_decimal : Bool → List ℕ → ℕ
nearest_decimal minus ds = nearest_f minus (numeral 10 (numeral 10 0 (before_point ds)) (after_point ds)) (10 ^ length (after_point ds))

-- "two to nine digits in all"; two there are where there are digits on both sides
unfoldable pub digits_in : List ℕ → ℕ
digits_in ds = length (before_point ds) + length (after_point ds)

-- "a decimal with two to nine digits in all, a point with digits on both sides, and an optional minus"; "an ill-formed decimal is 33, ten or more
-- digits 25"
unfoldable pub decimal_of : List ℕ → Numeral
decimal_of t =
    let ds = drop (signs t) t in
    let v = Ok (nearest_decimal (eqb (signs t) 1) ds) in
    cond (is_decimal ds) (cond (leb (digits_in ds) 9) v (Err OutOfRange)) (Err WrongForm)

-- "PUSHIMMF shall also take a decimal"
unfoldable pub float_of : List ℕ → Numeral
float_of t = cond (eqb (get_or t 0 0) hash) (pattern_of t) (decimal_of t)
