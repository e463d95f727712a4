-- Document 02, letter l: questions worked by hand from its words, as one list, and the one statement that each of them is answered so; antt computes it. Assumes
-- nothing.
use Rattle.std.specs.Prelude.{ℕ, ◌+◌, ◌*◌, ◌≡◌, refl, Bool, true, ◌&&◌, List, [], ◌∷◌, length}
use Prim.Native.String.{String}
use Rattle.rules.specs.Records as Records
use Rattle.rules.specs.Forget as Forget
use Rattle.rules.specs.Lists.{every, same}
use Rattle.rules.specs.Sizes.{max_limit}
use Rattle.rules.specs.Table.{Program}
use Rattle.rules.specs.State.{memory}
use Rattle.rules.specs.Numbers.{number_of_why, found_of_why, step_of_why}
use Rattle.rules.specs.Why.{why}
use Rattle.rules.specs.Examples.{program_of, holds}
use Rattle.rules.specs.KeptNumbers.{Seen, jumped, wrote, backs}
use Rattle.rules.specs.Forgets.{ran_before, then_forgets}
use Rattle.rules.specs.Answers.{Why}

-- ---- a question, and what is told: the number; found, steps back, PC, the table's place, old tag and old bits

pub record Question : Type 0 where
  pub cell : ℕ
  pub told : List ℕ

-- the newest kept step that wrote the cell
abbrev names : (cell : ℕ) → (back pc instruction tag bits : ℕ) → Question
names cell back pc instruction tag bits = record { cell = cell; told = 0 ∷ 1 ∷ back ∷ pc ∷ instruction ∷ tag ∷ bits ∷ [] }

-- "a refusal tells zeros", and so does an answer that no kept step wrote the cell
abbrev zeros : (cell number : ℕ) → Question
zeros cell number = record { cell = cell; told = number ∷ 0 ∷ 0 ∷ 0 ∷ 0 ∷ 0 ∷ 0 ∷ [] }

abbrev none : (cell : ℕ) → Question
none cell = zeros cell 0

abbrev told_of : Why → List ℕ
told_of w =
    let s = step_of_why w in
    number_of_why w ∷ found_of_why w ∷ s.back ∷ s.pc ∷ s.instruction ∷ s.before.tag ∷ s.before.bits ∷ []

abbrev answers : Program → Seen → List Question → Bool
answers p s [] = true
answers p s (q ∷ qs) = same (told_of (why p q.cell s.registers s.memory)) q.told && answers p s qs

-- ---- from a reset, with 16 cells, that many history places and two bytes of output

-- a run with a limit, a forget of k, and so many step-backs
abbrev after : (h : ℕ) → String → (limit k back : ℕ) → List Question → Bool
after h source limit k back qs =
    let p = program_of source in answers p (backs p back (then_forgets p k (ran_before h source limit))) qs

-- the table's places: "26 zeros, code 6, operand 32"
abbrev place : (code operand : ℕ) → ℕ
place code operand = code * 4294967296 + operand

abbrev push_imm : ℕ → ℕ
push_imm n = place 1 n

abbrev store_off : ℕ → ℕ
store_off n = place 43 n

-- "four seconds in tenths", and the trial that left a float there: 2.5 seconds
abbrev complaint : (limit k back : ℕ) → List Question → Bool
complaint = after 6 "PUSHIMM 40 PUSHIMMF #40200000 STOREOFF 0"

-- ---- states made by hand: a halted machine of three cells under a program of one instruction; these history places, the first so many used

abbrev given_under : String → List ℕ → (used kept : ℕ) → List Question → Bool
given_under source l used kept qs =
    answers (program_of source)
    (record {
      number = 0;
      registers = record { n = 3; h = length l; pc = 1; sp = 1; fbr = 1; halt = 1; used = used; kept = kept; written = 1 };
      memory = memory (8 ∷ 9 ∷ 7 ∷ []) (0 ∷ 1 ∷ 2 ∷ []) l (72 ∷ 5 ∷ []);
    })
    qs

abbrev given : List ℕ → (used kept : ℕ) → List Question → Bool
given = given_under "JUMP 0"

-- cell places: at address 0 the old FLOAT 2, at address 1 the old CH 65 and the old PA 1, at address 2 the old CH 65
abbrev float0 : ℕ
float0 = 0x0005000000000000

abbrev ch1 : ℕ
ch1 = 0x0030000001040000

abbrev pa1 : ℕ
pa1 = 0x002C000000040000

abbrev ch2 : ℕ
ch2 = 0x0050000001040000

-- the step place of a step that wrote two cells, with SP 1
abbrev wrote_two : ℕ
wrote_two = 0x8000040000800000

unfoldable pub questions : List Bool
questions =
    -- the complaint, asked after the trial: the STOREOFF, with the 40 tenths before it. The cell at SP was written by the PUSHIMMF, and none wrote those above; "6 for a cell
    -- not below N"
    complaint max_limit 0 0
    (names 0 1 2 (store_off 0) 0 40 ∷ names 1 2 1 (place 2 0x40200000) 0 0 ∷ none 2 ∷ none 15 ∷ zeros 16 6 ∷ zeros 4294967296 6 ∷ zeros 18446744073709551615 6 ∷ [])
    -- before the trial, and once it is taken back: the PUSHIMM
    ∷ complaint 1 0 0 (names 0 1 0 (push_imm 40) 0 0 ∷ none 1 ∷ [])
    ∷ complaint max_limit 0 1 (names 0 2 0 (push_imm 40) 0 0 ∷ names 1 1 1 (place 2 0x40200000) 0 0 ∷ [])
    ∷ complaint max_limit 0 3 (none 0 ∷ none 1 ∷ [])
    -- "the newest kept step": what is forgotten is not named
    ∷ complaint max_limit 1 1 (none 0 ∷ names 1 1 1 (place 2 0x40200000) 0 0 ∷ [])
    ∷ complaint max_limit 2 0 (names 0 1 2 (store_off 0) 0 40 ∷ none 1 ∷ [])
    ∷ complaint max_limit 3 0 (none 0 ∷ none 1 ∷ [])
    -- a cell written three times, the second time with what it held; jumps and STOP write none
    ∷ after 16 "PUSHIMM 7 PUSHIMM 7 STOREOFF 0 JUMP 4 PUSHIMM 9 STOREOFF 0 STOP" 4 0 0 (names 0 2 2 (store_off 0) 0 7 ∷ names 1 3 1 (push_imm 7) 0 0 ∷ [])
    ∷ after 16 "PUSHIMM 7 PUSHIMM 7 STOREOFF 0 JUMP 4 PUSHIMM 9 STOREOFF 0 STOP" max_limit 0 0
    (names 0 2 5 (store_off 0) 0 7 ∷ names 1 3 4 (push_imm 9) 0 7 ∷ none 2 ∷ [])
    -- "SWAP 2": both cells, each with what it held
    ∷ after 16 "PUSHIMM 1 PUSHIMMCH 66 SWAP STOP" max_limit 0 0 (names 0 2 2 (place 4 0) 0 1 ∷ names 1 2 2 (place 4 0) 4 66 ∷ none 2 ∷ [])
    -- "ADDSP up .. writes INT 0 in each cell": the first, those between and the last of a fill, and none behind it; ADDSP down writes none, so that cells at SP and above
    -- it keep the step that pushed them
    ∷ after 16 "PUSHIMM 5 ADDSP -1 ADDSP 3 STOP" max_limit 0 0
    (names 0 2 2 (place 39 3) 0 5 ∷ names 1 2 2 (place 39 3) 0 0 ∷ names 2 2 2 (place 39 3) 0 0 ∷ none 3 ∷ [])
    ∷ after 16 "PUSHIMM 5 PUSHIMM 6 ADDSP -2 STOP" max_limit 0 0 (names 0 4 0 (push_imm 5) 0 0 ∷ names 1 3 1 (push_imm 6) 0 0 ∷ none 2 ∷ [])
    -- "or POPSP up": MA 3 and the popped INT 3 were there
    ∷ after 16 "PUSHSP PUSHIMM 3 ADD POPSP STOP" max_limit 0 0
    (names 0 2 3 (place 35 0) 2 3 ∷ names 1 2 3 (place 35 0) 0 3 ∷ names 2 2 3 (place 35 0) 0 0 ∷ none 3 ∷ [])
    -- a step that is refused wrote nothing: the ADD
    ∷ after 16 "PUSHIMM 1 PUSHIMMF #3F800000 ADD" max_limit 0 0 (names 0 2 0 (push_imm 1) 0 0 ∷ names 1 1 1 (place 2 0x3F800000) 0 0 ∷ [])
    -- WRITECH writes no cell
    ∷ after 16 "PUSHIMMCH 65 WRITECH STOP" max_limit 0 0 (names 0 3 0 (place 52 65) 0 0 ∷ [])
    -- with H = 0 no step is kept
    ∷ after 0 "PUSHIMM 40 STOP" max_limit 0 0 (none 0 ∷ none 15 ∷ zeros 16 6 ∷ [])
    -- records made by hand, at a JUMP, which writes no cell: what they say is told, FLOAT, PA and CH; the newest of two that wrote cell 1, and the older one for cell 0
    ∷ given (pa1 ∷ wrote ∷ []) 2 1 (names 1 1 0 (place 44 0) 3 1 ∷ none 0 ∷ zeros 3 6 ∷ [])
    ∷ given (float0 ∷ ch1 ∷ wrote_two ∷ jumped ∷ pa1 ∷ wrote ∷ 0 ∷ []) 6 3 (names 0 3 0 (place 44 0) 1 0x40000000 ∷ names 1 1 0 (place 44 0) 3 1 ∷ [])
    ∷ given (pa1 ∷ wrote ∷ float0 ∷ ch1 ∷ wrote_two ∷ jumped ∷ []) 6 3 (names 0 2 0 (place 44 0) 1 0x40000000 ∷ names 1 2 0 (place 44 0) 4 65 ∷ [])
    -- a record of cells 0 and 2 says nothing of cell 1
    ∷ given (pa1 ∷ wrote ∷ float0 ∷ ch2 ∷ wrote_two ∷ []) 5 2
    (names 0 1 0 (place 44 0) 1 0x40000000 ∷ names 1 2 0 (place 44 0) 3 1 ∷ names 2 1 0 (place 44 0) 4 65 ∷ [])
    -- "the instruction" is that of the program handed in, also where its place is 0: STOP
    ∷ given_under "STOP" (pa1 ∷ wrote ∷ []) 2 1 (names 1 1 0 (place 0 0) 3 1 ∷ [])
    -- places that are not in use are not looked at
    ∷ given (jumped ∷ pa1 ∷ wrote ∷ []) 1 1 (none 0 ∷ none 1 ∷ [])
    ∷ given (pa1 ∷ wrote ∷ []) 0 0 (none 1 ∷ [])
    -- "10 as in i)", before 6: a broken state; an ill-formed record below one that wrote the cell, and above it; a kept number that is not that of the records
    ∷ given (pa1 ∷ wrote ∷ []) 3 1 (zeros 1 10 ∷ zeros 3 10 ∷ [])
    ∷ given (0x8010000000000000 ∷ pa1 ∷ wrote ∷ []) 3 2 (zeros 1 10 ∷ zeros 4294967296 10 ∷ [])
    ∷ given (pa1 ∷ wrote ∷ 0x8000000000000001 ∷ []) 3 2 (zeros 1 10 ∷ zeros 3 10 ∷ [])
    ∷ given (pa1 ∷ wrote ∷ jumped ∷ []) 3 1 (zeros 1 10 ∷ zeros 3 10 ∷ [])
    ∷ given (pa1 ∷ wrote ∷ jumped ∷ []) 3 3 (zeros 1 10 ∷ zeros 3 10 ∷ [])
    ∷ []

pub all_answered : every questions ≡ true
unfolding questions backs holds Records.cut_down Forget.forget why
all_answered = refl
