-- Calls for C that are lent a `told` or registers of another length, beside what else they are refused for: worked by hand from document 01's order of
-- refusals and its sentence on refused writers, as one list, and the one statement that each holds; antt computes it. What a why and a
-- translation tell is among it too. Assumes nothing.
use Rattle.std.specs.Prelude.{ℕ, ◌+◌, ◌-◌, ◌≡◌, refl, Bool, true, ◌&&◌, List, [], ◌∷◌, ◌++◌, replicate, eqb}
use Rattle.rules.specs.Lists.{text, every, same}
use Rattle.rules.specs.SavedState as SavedState
use Rattle.rules.specs.Records as Records
use Rattle.rules.specs.Why as Why
use Rattle.rules.specs.Sizes.{max_source, max_program, max_history, max_output, max_limit, listing_size, image_size, state_size}
use Rattle.rules.specs.Table.{Program, program}
use Rattle.rules.specs.State.{Memory, memory}
use Rattle.rules.specs.Examples.{program_of, holds}
use Rattle.rules.specs.Translations.{computed}
use Rattle.rules.specs.DepthList.{check}
use Rattle.sam_c.specs.Calls.{Filled, Moved, of_length, not_registers_saved, assemble_call, list_call, pack_call, unpack_call, translate_call, reset_call, forget_call, run_call, depths_call, load_call, save_call, why_call}

-- what stood in every lent place before
abbrev old : ℕ → List ℕ
old n = replicate n 7

abbrev zeros : ℕ → List ℕ
zeros n = replicate n 0

-- that number, what is told, and that output
abbrev fills : Filled → (number : ℕ) → List ℕ → List ℕ → Bool
fills f number told output = eqb f.number number && same f.told told && same f.output output

-- 31, what is told left as it was, and that output
abbrev is_untold : Filled → List ℕ → List ℕ → Bool
is_untold f told output = fills f 31 told output

-- that number, the registers left as they were, and cells, history and output too
abbrev stays : Moved → ℕ → List ℕ → Memory → Bool
stays c number registers m =
    eqb c.number number
    && same c.registers registers
    && same c.memory.cells.bits m.cells.bits
    && same c.memory.cells.tags m.cells.tags
    && same c.memory.history m.history
    && same c.memory.output m.output

-- a reset of a sound table with so many registers, and cells, tags, history and output of these lengths
abbrev resets : (number registers bits tags history output : ℕ) → Bool
resets number registers bits tags history output =
    let m = memory (old bits) (old tags) (old history) (old output) in
    stays (reset_call (program_of "STOP") (old registers) m) number (old registers) m

-- a forget of k with so many registers
abbrev forgets : (number k registers : ℕ) → Bool
forgets number k registers =
    let m = memory (old 2) (old 2) (old 3) (old 2) in
    stays (forget_call (program_of "STOP") k (old registers) m) number (old registers) m

-- a run with that limit, so many registers and so many values to tell, which are told as these
abbrev runs : (number limit registers : ℕ) (told after : List ℕ) → Bool
runs number limit registers told after =
    let m = memory (old 2) (old 2) (old 3) (old 2) in
    let w = run_call (program_of "STOP") limit (old registers) m told in
    stays w.moved number (old registers) m && same w.told after

-- a why of that cell with so many registers and so many values to tell, which are told as these
abbrev asks : (number cell registers : ℕ) (told after : List ℕ) → Bool
asks number cell registers told after =
    let a = why_call (program_of "STOP") cell (old registers) (memory (old 2) (old 2) (old 3) (old 2)) told in
    eqb a.number number && same a.told after

-- a why of that cell on a sound machine of two cells, whose one record, at a JUMP, has an old PA 1 in cell 1
abbrev tells : (number cell : ℕ) (after : List ℕ) → Bool
tells number cell after =
    let m = memory (8 ∷ 9 ∷ []) (0 ∷ 1 ∷ []) (0x002C000000040000 ∷ 0x8000000000400000 ∷ []) (72 ∷ 5 ∷ []) in
    let a = why_call (program_of "JUMP 0") cell (2 ∷ 2 ∷ 1 ∷ 1 ∷ 1 ∷ 1 ∷ 2 ∷ 1 ∷ 1 ∷ []) m (old 6) in
    eqb a.number number && same a.told after

-- a save of a machine with so many registers into an image of so many bytes
abbrev saves : (number registers image : ℕ) → (told after left : List ℕ) → Bool
saves number registers image told after left =
    let f = save_call (program_of "STOP") (old registers) (memory (old 2) (old 2) (old 3) (old 2)) (old image) told in
    fills f number after left

-- a load into that memory with so many registers
abbrev loads : (number registers : ℕ) → (image : List ℕ) → Memory → Bool
loads number registers image m = stays (load_call image (program_of "STOP") (old registers) m) number (old registers) m

-- the image of one cell, INT 0
abbrev one_cell : List ℕ
one_cell = 0x00 ∷ 0x40 ∷ zeros 9

-- a depth list of a machine of N cells, with so many values to tell, which are told as these
abbrev judges : (number : ℕ) → Program → (n : ℕ) (depths told after : List ℕ) → Bool
judges number p n depths told after =
    let a = depths_call p n depths told in eqb a.number number && same a.told after

unfoldable pub lengths : List Bool
lengths =
    -- "Refused writers leave an output of wrong length untouched, zero one of right length", refused for what they tell too, and then for nothing else
    is_untold (assemble_call (text "STOP") (old max_program) (old 3)) (old 3) (zeros max_program)
    ∷ is_untold (assemble_call (text "FOO") (old max_program) (old 5)) (old 5) (zeros max_program)
    ∷ is_untold (assemble_call (text "STOP") (old 2) []) [] (old 2)
    ∷ is_untold (list_call (program_of "STOP") (old listing_size) []) [] (zeros listing_size)
    ∷ is_untold (list_call (program [] 1) (old 3) (old 2)) (old 2) (old 3)
    ∷ is_untold (pack_call (program_of "STOP") (old image_size) (old 2)) (old 2) (zeros image_size)
    ∷ is_untold (pack_call (program [] 1) (old image_size) []) [] (zeros image_size)
    ∷ is_untold (unpack_call [] (old max_program) (old 4)) (old 4) (zeros max_program)
    ∷ is_untold (unpack_call [] (old 1) (old 2)) (old 2) (old 1)
    -- "31 comes first and 21 next; a refusal tells zeros and zeroes a table of right length" (02 m), and for a told of another length too; then length and depth are told
    ∷ is_untold (translate_call (text "a") (old max_program) (old 1)) (old 1) (zeros max_program)
    ∷ is_untold (translate_call (text "$") (old max_program) (old 3)) (old 3) (zeros max_program)
    ∷ is_untold (translate_call (text "a") (old 2) []) [] (old 2)
    ∷ fills (translate_call (text "$") (old 2) (old 2)) 31 (zeros 2) (old 2)
    ∷ fills (translate_call (zeros (max_source + 1)) (old 2) (old 2)) 31 (zeros 2) (old 2)
    ∷ fills (translate_call (zeros (max_source + 1)) (old max_program) (old 2)) 21 (zeros 2) (zeros max_program)
    ∷ fills (translate_call (text "$") (old max_program) (old 2)) 70 (zeros 2) (zeros max_program)
    ∷ fills (translate_call (text "a/2") (old max_program) (old 2)) 0 (4 ∷ 2 ∷ []) (0x2A00000000 ∷ 0x100000002 ∷ 0x800000000 ∷ zeros (max_program - 3))
    -- "Reset: 11 before 10.": no cells, tags of another count, a history of 8,193 places, an output of 257 bytes; then registers of another length
    ∷ resets 11 8 0 0 0 0
    ∷ resets 11 8 2 1 0 2
    ∷ resets 11 10 1 1 (max_history + 1) 0
    ∷ resets 11 8 1 1 2 (max_output + 1)
    ∷ resets 10 8 1 1 0 max_output
    ∷ resets 10 0 1 1 2 0
    -- "10 first", whatever k is (02 i)
    ∷ forgets 10 0 8
    ∷ forgets 10 18446744073709551615 10
    -- "Run: 11, then 10."; what is told comes before both
    ∷ runs 11 (max_limit + 1) 8 (old 1) (zeros 1)
    ∷ runs 10 max_limit 8 (old 1) (zeros 1)
    ∷ runs 10 0 10 (old 1) (zeros 1)
    ∷ runs 31 (max_limit + 1) 8 (old 2) (old 2)
    -- "10, then 11 .., 64 .." (02 j): a told of another length comes before them, and with them it is told 0
    ∷ judges 31 (program [] 1) 0 [] (old 2) (old 2)
    ∷ judges 31 (program_of "STOP") 1 (0 ∷ []) [] []
    ∷ judges 10 (program [] 1) 0 [] (old 1) (zeros 1)
    ∷ judges 11 (program_of "STOP") 0 [] (old 1) (zeros 1)
    ∷ judges 64 (program_of "STOP") 1 [] (old 1) (zeros 1)
    -- "10 as in i), then 6 ..; a refusal tells zeros" (02 l): a told of another length comes before both, and registers of another length before 6
    ∷ asks 31 0 9 (old 5) (old 5)
    ∷ asks 31 18446744073709551615 8 (old 7) (old 7)
    ∷ asks 10 0 9 (old 6) (zeros 6)
    ∷ asks 10 0 8 (old 6) (zeros 6)
    ∷ asks 10 18446744073709551615 10 (old 6) (zeros 6)
    -- found, steps back, PC, the table's place, old tag, old bits; no kept step; and 6
    ∷ tells 0 1 (1 ∷ 1 ∷ 0 ∷ 0x2C00000000 ∷ 3 ∷ 1 ∷ [])
    ∷ tells 0 0 (zeros 6)
    ∷ tells 6 2 (zeros 6)
    -- "Refusals for save: 31, then 10." (02 k): a told of another length before both, and registers of another length in 10's place; "Refused writers .. zero one
    -- of right length, .. and tell length 0"
    ∷ saves 31 8 state_size (old 2) (old 2) (zeros state_size)
    ∷ saves 31 9 3 [] [] (old 3)
    ∷ saves 31 8 3 (old 1) (zeros 1) (old 3)
    ∷ saves 10 8 state_size (old 1) (zeros 1) (zeros state_size)
    ∷ saves 10 9 state_size (old 1) (zeros 1) (zeros state_size)
    -- "For load, in this order: 41 ..; 67 ..; 10 .." (02 k): an image that ends early, one cell too many, and registers of another length, also where a byte is left over
    ∷ loads 41 8 (zeros 6) (memory (old 1) (old 1) [] [])
    ∷ loads 41 8 (0x00 ∷ 0x40 ∷ zeros 8) (memory (old 2) (old 1) [] [])
    ∷ loads 67 10 one_cell (memory (old 2) (old 2) [] [])
    ∷ loads 67 8 one_cell (memory (old 1) (old 1) [] (old (max_output + 1)))
    ∷ loads 10 8 one_cell (memory (old 1) (old 1) (old 2) (old 2))
    ∷ loads 10 0 one_cell (memory (old 1) (old 1) [] [])
    ∷ loads 10 8 (one_cell ++ zeros 1) (memory (old 1) (old 1) [] [])
    ∷ []

pub all_lengths : every lengths ≡ true
unfolding lengths of_length not_registers_saved holds computed check Records.cut_down Why.why SavedState.save SavedState.state_bits SavedState.registers_in SavedState.column_in SavedState.bytes_in SavedState.entry SavedState.load
all_lengths = refl
