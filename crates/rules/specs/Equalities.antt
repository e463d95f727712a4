-- Document 02, letter b: EQUAL and ISNIL of values worked by hand from its words, as one list, and the one statement that each holds; antt computes
-- it. Assumes nothing.
use Rattle.std.specs.Prelude.{ℕ, ◌≡◌, refl, true, List, [], ◌∷◌}
use Prim.Native.String.{String}
use Rattle.std.specs.Float.Ieee as Ieee
use Rattle.rules.specs.Floats as Floats
use Rattle.rules.specs.Tags.{int}
use Rattle.rules.specs.Examples.{Check, gives, holds, hold}

-- the source leaves INT 0 or 1 on top
abbrev answers : String → ℕ → Check
answers s bit = gives 16 s (int bit)

unfoldable pub equalities : List Check
equalities =
    -- "A program got minus zero and took the wrong branch.": -1 times 0 is minus zero
    answers "PUSHIMMF #BF800000 PUSHIMMF #00000000 TIMESF PUSHIMMF #00000000 EQUAL" 1
    -- "both zeros equal"
    ∷ answers "PUSHIMMF #80000000 PUSHIMMF #00000000 EQUAL" 1
    ∷ answers "PUSHIMMF #00000000 PUSHIMMF #80000000 EQUAL" 1
    ∷ answers "PUSHIMMF #80000000 PUSHIMMF #80000000 EQUAL" 1
    -- "a NaN equal to nothing", itself included
    ∷ answers "PUSHIMMF #7FC00000 DUP EQUAL" 0
    ∷ answers "PUSHIMMF #7FC00000 PUSHIMMF #00000000 EQUAL" 0
    ∷ answers "PUSHIMMF #00000000 PUSHIMMF #FF800001 EQUAL" 0
    -- any other values as they are: infinities, the smallest values, 2.5
    ∷ answers "PUSHIMMF #FF800000 PUSHIMMF #FF800000 EQUAL" 1
    ∷ answers "PUSHIMMF #7F800000 PUSHIMMF #FF800000 EQUAL" 0
    ∷ answers "PUSHIMMF #80000001 PUSHIMMF #80000001 EQUAL" 1
    ∷ answers "PUSHIMMF #00000001 PUSHIMMF #80000001 EQUAL" 0
    ∷ answers "PUSHIMMF #80000001 PUSHIMMF #80000000 EQUAL" 0
    ∷ answers "PUSHIMMF #40200000 PUSHIMMF #40200000 EQUAL" 1
    -- "Other tags stay": the bits of minus zero and of a NaN as an INT, and addresses
    ∷ answers "PUSHIMM -2147483648 PUSHIMM 0 EQUAL" 0
    ∷ answers "PUSHIMM 2143289344 DUP EQUAL" 1
    ∷ answers "PUSHSP DUP EQUAL" 1
    ∷ answers "PUSHIMMPA 0 DUP EQUAL" 1
    -- "unlike tags still give 0"
    ∷ answers "PUSHIMMF #00000000 PUSHIMM 0 EQUAL" 0
    ∷ answers "PUSHIMM 0 PUSHIMMF #80000000 EQUAL" 0
    -- "ISNIL of a FLOAT is 1 for both zeros."
    ∷ answers "PUSHIMMF #00000000 ISNIL" 1
    ∷ answers "PUSHIMMF #80000000 ISNIL" 1
    ∷ answers "PUSHIMMF #80000001 ISNIL" 0
    ∷ answers "PUSHIMMF #FFC00000 ISNIL" 0
    ∷ answers "PUSHIMM -2147483648 ISNIL" 0
    ∷ answers "PUSHIMM 0 ISNIL" 1
    ∷ []

pub all_equalities : hold equalities ≡ true
unfolding equalities holds hold Floats.rounded Floats.times_f Floats.equal_f Ieee.mul Ieee.eq Ieee.of_bits Ieee.to_bits
all_equalities = refl
