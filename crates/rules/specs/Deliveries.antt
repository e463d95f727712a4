-- Document 02, letter j: programs with depth lists, worked by hand from its words, as one list, and the one statement that each is judged so; antt computes it.
-- Assumes nothing.
use Rattle.std.specs.Prelude.{ℕ, zero, suc, ◌+◌, ◌-◌, ◌≡◌, refl, Bool, true, not, ◌&&◌, List, [], ◌∷◌, replicate, eqb, Ok, Err}
use Prim.Native.String.{String}
use Rattle.rules.specs.Lists.{every}
use Rattle.rules.specs.Sizes.{max_program, not_reached}
use Rattle.rules.specs.Table.{Program, program, place_of}
use Rattle.rules.specs.Numbers.{depth_number}
use Rattle.rules.specs.DepthList.{depth_after, followers, forbidden, allowed_at, listed, rule, first_failing, check}
use Rattle.rules.specs.Examples.{program_of, holds}
use Rattle.rules.specs.Answers.{Checked}

-- the answer is told with that number and place
abbrev is_told : Checked → (number place : ℕ) → Bool
is_told (Ok x) number place = eqb number 0 && eqb place 0
is_told (Err x) number place = eqb number (depth_number x.refusal) && eqb place x.place

-- a program with N and a list
abbrev gives : Program → (n : ℕ) → List ℕ → (number place : ℕ) → Bool
gives p n depths number place = is_told (check p n depths) number place

abbrev told : (n : ℕ) → String → List ℕ → (number place : ℕ) → Bool
told n source depths number place = gives (program_of source) n depths number place

abbrev fine : (n : ℕ) → String → List ℕ → Bool
fine n source depths = told n source depths 0 0

-- of `STOP X STOP`, with 16 cells: the rule of X holds, with that depth and that of the place behind it
abbrev holds_with : Program → (depth behind : ℕ) → Bool
holds_with p depth behind = rule p 16 (0 ∷ depth ∷ behind ∷ []) 1

-- one too few is not enough, with what it would leave behind it; none are always there
abbrev too_few : Program → (needs leaves : ℕ) → Bool
too_few p zero leaves = true
too_few p (suc k) leaves = not (holds_with p k (leaves - 1))

-- X needs so many values and leaves so many in their place, whatever lies below them; and the place behind it has just that depth
abbrev moves : String → (needs leaves : ℕ) → Bool
moves source k l =
    let p = program_of source in
    every (holds_with p k l ∷ holds_with p (k + 3) (l + 3) ∷ not (holds_with p k (l + 1)) ∷ too_few p k l ∷ [])

unfoldable pub deliveries : List Bool
deliveries =
    fine 16 "PUSHIMM 1 PUSHIMM 2 ADD STOP" (0 ∷ 1 ∷ 2 ∷ 1 ∷ [])
    -- "its depth after is below N": 2 is not below 2
    ∷ fine 3 "PUSHIMM 1 PUSHIMM 2 ADD STOP" (0 ∷ 1 ∷ 2 ∷ 1 ∷ [])
    ∷ told 2 "PUSHIMM 1 PUSHIMM 2 ADD STOP" (0 ∷ 1 ∷ 2 ∷ 1 ∷ []) 66 1
    -- "each place that may follow has that same depth": the place that leads there is told
    ∷ told 16 "PUSHIMM 1 PUSHIMM 2 ADD STOP" (0 ∷ 1 ∷ 2 ∷ 2 ∷ []) 66 2
    ∷ told 16 "PUSHIMM 1 STOP" (0 ∷ not_reached ∷ []) 66 0
    -- "enough values for its instruction" and "its depth after", of every allowed instruction: pushes
    ∷ moves "STOP PUSHIMM 7 STOP" 0 1
    ∷ moves "STOP PUSHIMMF #40200000 STOP" 0 1
    ∷ moves "STOP PUSHIMMPA 0 STOP" 0 1
    ∷ moves "STOP PUSHIMMCH 72 STOP" 0 1
    ∷ moves "STOP PUSHSP STOP" 0 1
    ∷ moves "STOP PUSHFBR STOP" 0 1
    ∷ moves "STOP LINK STOP" 0 1
    -- DUP and SWAP need what they copy and turn
    ∷ moves "STOP DUP STOP" 1 2
    ∷ moves "STOP SWAP STOP" 2 2
    -- two values make one
    ∷ moves "STOP ADD STOP" 2 1
    ∷ moves "STOP SUB STOP" 2 1
    ∷ moves "STOP TIMES STOP" 2 1
    ∷ moves "STOP DIV STOP" 2 1
    ∷ moves "STOP MOD STOP" 2 1
    ∷ moves "STOP ADDF STOP" 2 1
    ∷ moves "STOP SUBF STOP" 2 1
    ∷ moves "STOP TIMESF STOP" 2 1
    ∷ moves "STOP DIVF STOP" 2 1
    ∷ moves "STOP AND STOP" 2 1
    ∷ moves "STOP OR STOP" 2 1
    ∷ moves "STOP NAND STOP" 2 1
    ∷ moves "STOP NOR STOP" 2 1
    ∷ moves "STOP XOR STOP" 2 1
    ∷ moves "STOP BITAND STOP" 2 1
    ∷ moves "STOP BITOR STOP" 2 1
    ∷ moves "STOP BITNAND STOP" 2 1
    ∷ moves "STOP BITNOR STOP" 2 1
    ∷ moves "STOP BITXOR STOP" 2 1
    ∷ moves "STOP CMP STOP" 2 1
    ∷ moves "STOP CMPF STOP" 2 1
    ∷ moves "STOP GREATER STOP" 2 1
    ∷ moves "STOP LESS STOP" 2 1
    ∷ moves "STOP EQUAL STOP" 2 1
    -- one makes one
    ∷ moves "STOP NOT STOP" 1 1
    ∷ moves "STOP BITNOT STOP" 1 1
    ∷ moves "STOP ISNIL STOP" 1 1
    ∷ moves "STOP ISPOS STOP" 1 1
    ∷ moves "STOP ISNEG STOP" 1 1
    ∷ moves "STOP ITOF STOP" 1 1
    ∷ moves "STOP FTOI STOP" 1 1
    -- copies and stores; an offset is no matter of depth
    ∷ moves "STOP PUSHIND STOP" 1 1
    ∷ moves "STOP STOREIND STOP" 2 0
    ∷ moves "STOP PUSHOFF 5 STOP" 0 1
    ∷ moves "STOP STOREOFF -5 STOP" 1 0
    -- one is popped
    ∷ moves "STOP POPFBR STOP" 1 0
    ∷ moves "STOP WRITECH STOP" 1 0
    ∷ moves "STOP JUMPC 2 STOP" 1 0
    -- JUMP leaves SP
    ∷ moves "STOP JUMP 2 STOP" 0 0
    -- ADDSP, of either sign; −2 needs two, and −16 as many as N
    ∷ moves "STOP ADDSP 0 STOP" 0 0
    ∷ moves "STOP ADDSP 4 STOP" 0 4
    ∷ moves "STOP ADDSP -2 STOP" 2 0
    ∷ fine 16 "STOP ADDSP -16 STOP" (0 ∷ 16 ∷ 0 ∷ [])
    ∷ told 16 "STOP ADDSP -16 STOP" (0 ∷ 15 ∷ 0 ∷ []) 66 1
    -- "STOP has no follower", but a depth after, its own
    ∷ fine 1 "STOP" (0 ∷ [])
    ∷ fine 16 "STOP STOP STOP" (0 ∷ 5 ∷ 7 ∷ [])
    ∷ fine 2 "STOP STOP" (0 ∷ 1 ∷ [])
    ∷ told 2 "STOP STOP" (0 ∷ 2 ∷ []) 66 1
    -- "Both ways of JUMPC count"
    ∷ fine 16 "PUSHIMM 1 JUMPC 3 STOP STOP" (0 ∷ 1 ∷ 0 ∷ 0 ∷ [])
    ∷ told 16 "PUSHIMM 1 JUMPC 3 STOP STOP" (0 ∷ 1 ∷ not_reached ∷ 0 ∷ []) 66 1
    ∷ told 16 "PUSHIMM 1 JUMPC 3 STOP STOP" (0 ∷ 1 ∷ 0 ∷ not_reached ∷ []) 66 1
    ∷ told 16 "PUSHIMM 1 JUMPC 3 STOP STOP" (0 ∷ 1 ∷ 1 ∷ 0 ∷ []) 66 1
    ∷ told 16 "PUSHIMM 1 JUMPC 3 STOP STOP" (0 ∷ 1 ∷ 0 ∷ 1 ∷ []) 66 1
    -- JUMP has its target alone, back too
    ∷ fine 16 "JUMP 2 ADD STOP" (0 ∷ not_reached ∷ 0 ∷ [])
    ∷ told 16 "JUMP 2 STOP STOP" (0 ∷ 0 ∷ not_reached ∷ []) 66 0
    ∷ fine 1 "JUMP 0" (0 ∷ [])
    ∷ fine 16 "PUSHIMM 1 ADDSP -1 JUMP 0" (0 ∷ 1 ∷ 0 ∷ [])
    ∷ told 16 "PUSHIMM 1 JUMP 0" (0 ∷ 1 ∷ []) 66 1
    -- "the program's end may never follow": by going on, by a jump, by either way of JUMPC
    ∷ told 16 "PUSHIMM 1" (0 ∷ []) 66 0
    ∷ told 16 "JUMP 1" (0 ∷ []) 66 0
    ∷ told 16 "PUSHIMM 1 JUMPC 3 STOP" (0 ∷ 1 ∷ 0 ∷ []) 66 1
    ∷ told 16 "PUSHIMM 1 JUMPC 0" (0 ∷ 1 ∷ []) 66 1
    ∷ fine 16 "STOP PUSHIMM 1" (0 ∷ not_reached ∷ [])
    -- "place 0 has depth 0"
    ∷ told 16 "STOP" (1 ∷ []) 66 0
    ∷ told 16 "STOP" (not_reached ∷ []) 66 0
    ∷ told 16 "ADD STOP" (2 ∷ 1 ∷ []) 66 0
    -- "an empty program is 66 at 0", with a list it is 64
    ∷ told 16 "" [] 66 0
    ∷ told 16 "" (0 ∷ []) 64 0
    -- "65 a forbidden instruction", reached or not, before 66, with its first place
    ∷ told 16 "STOP JSR 0" (1 ∷ not_reached ∷ []) 65 1
    ∷ told 16 "STOP JSRIND POPSP" (0 ∷ not_reached ∷ not_reached ∷ []) 65 1
    ∷ told 16 "JUMPIND" (0 ∷ []) 65 0
    ∷ told 16 "ADD STOP POPSP" (0 ∷ 0 ∷ 0 ∷ []) 65 2
    -- "64 list not of the program's length", before 65 and 66
    ∷ told 16 "STOP" [] 64 0
    ∷ told 16 "STOP" (0 ∷ 0 ∷ []) 64 0
    ∷ told 16 "STOP JSR 0" (0 ∷ []) 64 0
    -- "11 for N outside its range", before 64
    ∷ told 0 "STOP" [] 11 0
    ∷ told 0 "" [] 11 0
    ∷ told 1_001 "STOP" (0 ∷ []) 11 0
    ∷ told 18446744073709551615 "STOP" (0 ∷ []) 11 0
    ∷ fine 1_000 "STOP ADDSP 999 STOP" (0 ∷ 0 ∷ 999 ∷ [])
    ∷ told 1_000 "STOP ADDSP 999 STOP" (0 ∷ 1 ∷ 1_000 ∷ []) 66 1
    -- "10" before all
    ∷ gives (program (replicate max_program 0) 1_025) 0 [] 10 0
    ∷ gives (program (replicate 1_023 0) 1) 16 (0 ∷ []) 10 0
    ∷ gives (program (place_of 47 2 ∷ replicate 1_023 0) 1) 16 (0 ∷ []) 10 0
    -- a place that no place with a depth leads to may have one of N or more, where its depth after is below N
    ∷ fine 2 "STOP ADD STOP" (0 ∷ 2 ∷ 1 ∷ [])
    ∷ fine 2 "STOP PUSHIMM 1 ADD STOP" (0 ∷ not_reached ∷ 2 ∷ 1 ∷ [])
    ∷ told 2 "STOP ADD STOP" (0 ∷ 3 ∷ 2 ∷ []) 66 1
    -- sums are exact: 65,534 and 2 are not 0; and 65,535 is no depth after
    ∷ told 16 "STOP ADDSP 2 STOP" (0 ∷ 65_534 ∷ 0 ∷ []) 66 1
    ∷ told 16 "STOP PUSHIMM 1 STOP" (0 ∷ 65_534 ∷ not_reached ∷ []) 66 1
    -- the first of two places that fail; and a place "not reached" has no rule
    ∷ told 16 "STOP ADD ADD" (0 ∷ 1 ∷ 1 ∷ []) 66 1
    ∷ told 16 "STOP ADD ADD" (0 ∷ not_reached ∷ 1 ∷ []) 66 2
    ∷ fine 16 "STOP ADD ADD" (0 ∷ not_reached ∷ not_reached ∷ [])
    ∷ []

pub all_judged : every deliveries ≡ true
unfolding deliveries holds depth_after followers forbidden allowed_at listed rule first_failing check
all_judged = refl
