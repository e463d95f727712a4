-- Document 02, letter d: ADD and SUB of addresses and of INTs worked by hand from its words, as one list, and the one statement that each holds; antt
-- computes it. Assumes nothing.
use Rattle.std.specs.Prelude.{ℕ, ◌≡◌, refl, true, List, [], ◌∷◌, ℤ, pos, negsuc}
use Prim.Native.String.{String}
use Rattle.rules.specs.Tags.{int, ma}
use Rattle.rules.specs.Words.{word}
use Rattle.rules.specs.Examples.{Check, gives, refused, holds, hold}

-- the source leaves an MA, or an INT, of that number on top; `negsuc n` is -(n + 1)
abbrev address : String → ℤ → Check
address s z = gives 16 s (ma (word z))

abbrev number : String → ℤ → Check
number s z = gives 16 s (int (word z))

-- after that many steps the next is refused with 6
abbrev outside : String → ℕ → Check
outside s steps = refused 16 0 s steps 6

unfoldable pub sums : List Check
sums =
    -- "An address went past 32 bits and came round to a legal cell.": 0 and 2147483647 twice and 2 is 2 ^ 32, whose bits are those of cell 0
    outside "PUSHIMM 40 PUSHFBR PUSHIMM 2147483647 ADD PUSHIMM 2147483647 ADD PUSHIMM 2 ADD PUSHIND" 5
    -- "not within .. 2^31−1": the highest address, and more by either instruction
    ∷ address "PUSHSP PUSHIMM 2147483647 ADD" (pos 2147483647)
    ∷ address "PUSHSP PUSHIMM 2147483647 ADD PUSHIMM 0 ADD" (pos 2147483647)
    ∷ outside "PUSHSP PUSHIMM 2147483647 ADD PUSHIMM 1 ADD" 4
    ∷ outside "PUSHSP PUSHIMM 2147483647 ADD PUSHIMM -1 SUB" 4
    ∷ outside "PUSHSP PUSHIMM 2147483647 ADD PUSHIMM -2147483648 SUB" 4
    -- "not within −2^31": the lowest, and less by either
    ∷ address "PUSHSP PUSHIMM -2147483648 ADD" (negsuc 2147483647)
    ∷ address "PUSHSP PUSHIMM 2147483647 SUB PUSHIMM 1 SUB" (negsuc 2147483647)
    ∷ outside "PUSHSP PUSHIMM -2147483648 ADD PUSHIMM 1 SUB" 4
    ∷ outside "PUSHSP PUSHIMM -2147483648 ADD PUSHIMM -1 ADD" 4
    ∷ outside "PUSHSP PUSHIMM -2147483648 ADD PUSHIMM -2147483648 ADD" 4
    -- the INT's own lowest number: 0 and -1 less it
    ∷ outside "PUSHSP PUSHIMM -2147483648 SUB" 2
    ∷ address "PUSHSP PUSHIMM 1 SUB PUSHIMM -2147483648 SUB" (pos 2147483647)
    -- "the MA's bits read as two's complement": addresses below 0, and from there to 0 and back
    ∷ address "PUSHSP PUSHIMM 1 SUB" (negsuc 0)
    ∷ address "PUSHSP PUSHIMM 1 SUB PUSHIMM 1 ADD" (pos 0)
    ∷ address "PUSHSP PUSHIMM -2147483648 ADD PUSHIMM 2147483647 ADD" (negsuc 0)
    ∷ address "PUSHSP PUSHIMM -2147483648 ADD PUSHIMM -2147483648 SUB" (pos 0)
    -- "Two INTs still wrap."
    ∷ number "PUSHIMM 2147483647 PUSHIMM 1 ADD" (negsuc 2147483647)
    ∷ number "PUSHIMM -2147483648 PUSHIMM -1 ADD" (pos 2147483647)
    ∷ number "PUSHIMM -2147483648 PUSHIMM 1 SUB" (pos 2147483647)
    ∷ number "PUSHIMM 0 PUSHIMM -2147483648 SUB" (negsuc 2147483647)
    -- "6 .. in its old place": after 3 and 4, and before 8, where nine places have one left for the fifth step
    ∷ refused 16 0 "PUSHSP PUSHIMM 2147483647 ADD ADD" 3 3
    ∷ refused 16 0 "PUSHSP PUSHIMM 2147483647 ADD DUP ADD" 4 4
    ∷ refused 16 0 "PUSHIMM 2147483647 PUSHSP ADD" 2 4
    ∷ refused 16 9 "PUSHSP PUSHIMM 2147483647 ADD PUSHIMM 1 ADD" 4 6
    ∷ refused 16 9 "PUSHSP PUSHIMM 2147483647 ADD PUSHIMM 0 ADD" 4 8
    ∷ []

pub all_sums : hold sums ≡ true
unfolding sums holds hold
all_sums = refl
