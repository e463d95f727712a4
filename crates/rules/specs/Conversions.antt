-- Document 02, letter e: decimals, ITOF and FTOI worked by hand from its words, as two lists, what is done and what a source is refused for, and the
-- statement that each holds; antt computes it. Assumes nothing.
use Rattle.std.specs.Prelude.{ℕ, ◌≡◌, refl, true, List, [], ◌∷◌, ◌++◌, ℤ, pos, negsuc}
use Prim.Native.String.{String}
use Rattle.std.specs.Float.Ieee as Ieee
use Rattle.rules.specs.Exact as Exact
use Rattle.rules.specs.Floats as Floats
use Rattle.rules.specs.Lists.{text}
use Rattle.rules.specs.Words.{word}
use Rattle.rules.specs.Tags.{int, float}
use Rattle.rules.specs.Examples.{Check, gives, refused, packs, records, restores, holds, hold}
use Rattle.rules.specs.Faults.{Refusal, refusal, all_told}

-- the source leaves a FLOAT of these bits, or an INT of that number, on top; `negsuc n` is -(n + 1)
abbrev bits : String → ℕ → Check
bits s b = gives 16 s (float b)

abbrev number : String → ℤ → Check
number s z = gives 16 s (int (word z))

-- after one step the next is refused with 5
abbrev no_int : String → Check
no_int s = refused 16 0 s 1 5

unfoldable pub conversions : List Check
conversions =
    -- "Technicians type 2.5, not bits."
    bits "PUSHIMMF 2.5" 0x40200000
    ∷ bits "PUSHIMMF -2.5" 0xC0200000
    ∷ bits "PUSHIMMF #40200000" 0x40200000
    -- "two to nine digits in all", zeros before and behind included
    ∷ bits "PUSHIMMF 1.0" 0x3F800000
    ∷ bits "PUSHIMMF 00000001.0" 0x3F800000
    ∷ bits "PUSHIMMF 1.00000000" 0x3F800000
    -- "the binary32 nearest the exact decimal": the longest at both ends, a tenth, and 1 from below
    ∷ bits "PUSHIMMF 0.00000001" 0x322BCC77
    ∷ bits "PUSHIMMF 99999999.9" 0x4CBEBC20
    ∷ bits "PUSHIMMF 0.1" 0x3DCCCCCD
    ∷ bits "PUSHIMMF 0.99999999" 0x3F800000
    -- "ties to even": halves above 2 ^ 23 and odd numbers above 2 ^ 24, downward and upward
    ∷ bits "PUSHIMMF 8388608.5" 0x4B000000
    ∷ bits "PUSHIMMF 8388609.5" 0x4B000002
    ∷ bits "PUSHIMMF -8388608.5" 0xCB000000
    ∷ bits "PUSHIMMF 16777217.0" 0x4B800000
    ∷ bits "PUSHIMMF 16777219.0" 0x4B800002
    -- beside a tie it is the nearer: rounded to halves first these would be ties
    ∷ bits "PUSHIMMF 8388608.51" 0x4B000001
    ∷ bits "PUSHIMMF 8388609.49" 0x4B000001
    -- 2 ^ 24 - 1/2 is a tie as well, and rounds up to a power of two
    ∷ bits "PUSHIMMF 16777215.5" 0x4B800000
    ∷ bits "PUSHIMMF 16777215.4" 0x4B7FFFFF
    -- "Minus zero keeps its sign."
    ∷ bits "PUSHIMMF 0.0" 0x00000000
    ∷ bits "PUSHIMMF -0.0" 0x80000000
    ∷ bits "PUSHIMMF -0.00000000" 0x80000000
    -- "ITOF (code 50) rounds an INT the same way."
    ∷ bits "PUSHIMM 40 ITOF" 0x42200000
    ∷ bits "PUSHIMM 0 ITOF" 0x00000000
    ∷ bits "PUSHIMM -1 ITOF" 0xBF800000
    ∷ bits "PUSHIMM 16777217 ITOF" 0x4B800000
    ∷ bits "PUSHIMM 16777219 ITOF" 0x4B800002
    ∷ bits "PUSHIMM -16777219 ITOF" 0xCB800002
    ∷ bits "PUSHIMM 2147483583 ITOF" 0x4EFFFFFF
    ∷ bits "PUSHIMM 2147483584 ITOF" 0x4F000000
    ∷ bits "PUSHIMM 2147483647 ITOF" 0x4F000000
    ∷ bits "PUSHIMM -2147483648 ITOF" 0xCF000000
    -- "FTOI (code 51) cuts toward zero."
    ∷ number "PUSHIMMF 2.5 FTOI" (pos 2)
    ∷ number "PUSHIMMF 2.9 FTOI" (pos 2)
    ∷ number "PUSHIMMF -2.9 FTOI" (negsuc 1)
    ∷ number "PUSHIMMF -0.9 FTOI" (pos 0)
    ∷ number "PUSHIMMF -0.0 FTOI" (pos 0)
    ∷ number "PUSHIMMF #00000001 FTOI" (pos 0)
    ∷ number "PUSHIMMF #3F7FFFFF FTOI" (pos 0)
    ∷ number "PUSHIMMF 8388607.5 FTOI" (pos 8388607)
    ∷ number "PUSHIMMF #4B800001 FTOI" (pos 16777218)
    -- "a result outside INT": the ends of INT, and the values behind them
    ∷ number "PUSHIMMF #4EFFFFFF FTOI" (pos 2147483520)
    ∷ no_int "PUSHIMMF #4F000000 FTOI"
    ∷ number "PUSHIMMF #CF000000 FTOI" (negsuc 2147483647)
    ∷ no_int "PUSHIMMF #CF000001 FTOI"
    ∷ no_int "PUSHIMMF #7F7FFFFF FTOI"
    ∷ no_int "PUSHIMMF #7F800000 FTOI"
    ∷ no_int "PUSHIMMF #FF800000 FTOI"
    -- "FTOI of a NaN"
    ∷ no_int "PUSHIMMF #7FC00000 FTOI"
    ∷ no_int "PUSHIMMF #FF800001 FTOI"
    -- 3, 4 and 5 in their order, and 5 before 8: two places are those of the first step
    ∷ refused 16 0 "ITOF" 0 3
    ∷ refused 16 0 "FTOI" 0 3
    ∷ refused 16 0 "PUSHIMMF 2.5 ITOF" 1 4
    ∷ refused 16 0 "PUSHIMM 2 FTOI" 1 4
    ∷ refused 16 0 "PUSHSP ITOF" 1 4
    ∷ refused 16 0 "PUSHIMMPA 0 FTOI" 1 4
    ∷ refused 16 2 "PUSHIMMF #7FC00000 FTOI" 1 5
    ∷ refused 16 2 "PUSHIMMF 2.5 FTOI" 1 8
    -- each writes one cell, whose number and tag come back
    ∷ records 16 4 "PUSHIMM 40 ITOF" (0x0000000000A00000 ∷ 0x8010040000400000 ∷ [])
    ∷ restores 16 4 "PUSHIMM 40 ITOF" 0 (int 40)
    ∷ restores 16 4 "PUSHIMMF 2.5 FTOI" 0 (float 0x40200000)
    -- codes 50 and 51 have no operand
    ∷ packs "ITOF FTOI" (0x00 ∷ 0x59 ∷ 0x66 ∷ [])
    ∷ []

pub all_conversions : hold conversions ≡ true
unfolding conversions holds hold Floats.nearest_f Floats.int_to_f Floats.cut Floats.has_int Exact.magnitude Ieee.round Ieee.to_bits
all_conversions = refl

-- an operand of PUSHIMMF that is refused with that number, at its first byte
abbrev operand : String → ℕ → Refusal
operand s n = refusal (text "PUSHIMMF " ++ text s) n 9 1 10

unfoldable pub ill_formed : List Refusal
ill_formed =
    -- "an ill-formed decimal is 33"
    operand "5" 33
    ∷ operand "5." 33
    ∷ operand ".5" 33
    ∷ operand "." 33
    ∷ operand "1.2.3" 33
    ∷ operand "1..2" 33
    ∷ operand "1234567890" 33
    ∷ operand "1234567890." 33
    ∷ operand "--1.0" 33
    ∷ operand "1.-5" 33
    ∷ operand "-.5" 33
    ∷ operand "-" 33
    ∷ operand "2.F" 33
    ∷ operand "#2.500000" 33
    ∷ operand "2.5:" 33
    -- "ten or more digits 25"
    ∷ operand "12345678.90" 25
    ∷ operand "-000000001.0" 25
    ∷ operand "0.0000000000" 25
    -- "the point becomes an allowed byte", and is one of no word and of no other operand
    ∷ refusal (text "ADD.") 23 0 1 1
    ∷ refusal (text "a.b: STOP") 23 0 1 1
    ∷ refusal (text "PUSHIMM 1.5") 33 8 1 9
    ∷ refusal (text "JUMP a.b") 33 5 1 6
    ∷ []

pub all_told_lem : all_told ill_formed ≡ true
unfolding ill_formed all_told Floats.nearest_f Ieee.round Ieee.to_bits
all_told_lem = refl
