-- Document 02, letter k: saves and loads worked by hand from its words, as one list, and the one statement that each of them holds; antt computes it. Assumes nothing.
use Rattle.std.specs.Prelude.{ℕ, suc, ◌≡◌, refl, Bool, true, ◌&&◌, List, [], ◌∷◌, ◌++◌, take, set, replicate, eqb}
use Rattle.rules.specs.SavedState as SavedState
use Rattle.rules.specs.Lists.{every, same}
use Rattle.rules.specs.Sizes.{max_limit, state_size}
use Rattle.rules.specs.Table.{Program, program}
use Rattle.rules.specs.State.{Memory, memory}
use Rattle.rules.specs.Numbers.{number_of_saved, length_of_saved, number_of_load}
use Rattle.rules.specs.Run.{run}
use Rattle.rules.specs.SavedState.{Saving, Loading, registers_resumed, save, load}
use Rattle.rules.specs.Examples.{program_of, ran_with, holds}
use Rattle.rules.specs.KeptNumbers.{Seen, seen_run, backs}
use Rattle.rules.specs.declared.Registers.{Registers}

-- ---- a state made by hand, under a program of one instruction: two cells, CH 72 and FLOAT -4, one byte written of two, a step kept

abbrev jump : Program
jump = program_of "JUMP 0"

abbrev state : (sp : ℕ) → Registers
state sp = record { n = 2; h = 1; pc = 1; sp = sp; fbr = 1; halt = 1; used = 1; kept = 1; written = 1 }

abbrev given : Memory
given = memory (72 ∷ 0xC0800000 ∷ []) (4 ∷ 1 ∷ []) (0x8000000000000000 ∷ []) (72 ∷ 5 ∷ [])

-- its image: 0000000010 00000000001 0000000001 0000000001 1 000000001, then 100 and 72, then 001 and the FLOAT, then 01001000, and seven zeros
abbrev state_image : List ℕ
state_image =
    0x00 ∷ 0x80 ∷ 0x08 ∷ 0x02 ∷ 0x00 ∷ 0xC0 ∷ 0x30 ∷ 0x00 ∷ 0x00 ∷ 0x01 ∷ 0x20 ∷ 0xE0 ∷ 0x40 ∷ 0x00 ∷ 0x00 ∷ 0x24 ∷ 0x00 ∷ []

-- with one byte of it, or two, written anew
abbrev but : (at byte : ℕ) → List ℕ
but at byte = set state_image at byte

abbrev but_two : (at byte byte' : ℕ) → List ℕ
but_two at byte byte' = set (but at byte) (suc at) byte'

-- ---- saves into an image of ones

abbrev saved_into : (sp size : ℕ) → Saving
saved_into sp size = save jump (state sp) given (replicate size 1)

abbrev saves : Saving → (number told : ℕ) → List ℕ → Bool
saves o number told image =
    every (eqb (number_of_saved o.answer) number ∷ eqb (length_of_saved o.answer) told ∷ same o.image image ∷ [])

abbrev largest : Saving
largest =
    save jump (record { n = 1000; h = 0; pc = 0; sp = 0; fbr = 0; halt = 0; used = 0; kept = 0; written = 256 })
    (memory (replicate 1000 0) (replicate 1000 0) [] (replicate 256 0)) (replicate 4638 1)

abbrev tells : Saving → ℕ → Bool
tells o told = eqb (length_of_saved o.answer) told

-- ---- loads into memory that holds what a step would refuse: so many bits, tags, history places and bytes of output

abbrev lent : (bits tags history output : ℕ) → Memory
lent bits tags history output = memory (replicate bits 7) (replicate tags 9) (replicate history 5) (replicate output 1)

abbrev same_state : Registers → Memory → List ℕ → Memory → Bool
same_state r m registers m' =
    every
    (same (r.n ∷ r.h ∷ r.pc ∷ r.sp ∷ r.fbr ∷ r.halt ∷ r.used ∷ r.kept ∷ r.written ∷ []) registers
    ∷ same m.cells.bits m'.cells.bits
    ∷ same m.cells.tags m'.cells.tags
    ∷ same m.history m'.history
    ∷ same m.output m'.output
    ∷ [])

abbrev leaves : Loading → (number : ℕ) → List ℕ → Memory → Bool
leaves o number registers m = eqb (number_of_load o.answer) number && same_state (registers_resumed o.answer) o.memory registers m

-- accepted with two history places and two bytes of output: PC, HALT and the used count; cells and output
abbrev loads : List ℕ → (pc written : ℕ) → (bits tags output : List ℕ) → Bool
loads image pc written bits tags output =
    leaves (load image jump (lent 2 2 2 2)) 0 (2 ∷ 2 ∷ pc ∷ 1 ∷ 1 ∷ 1 ∷ 0 ∷ 0 ∷ written ∷ []) (memory bits tags (0 ∷ 0 ∷ []) output)

-- "A refused load does as a refused reset."
abbrev refuses_into : Memory → Program → List ℕ → (number : ℕ) → Bool
refuses_into m p image number = leaves (load image p m) number (replicate 9 0) m

abbrev refuses : List ℕ → (number : ℕ) → Bool
refuses image number = refuses_into (lent 2 2 2 2) jump image number

-- ---- sessions: 16 cells, six history places and two bytes of output, so many steps; then carried to a machine of that many history places

abbrev carries : Program → (h : ℕ) → Seen → Seen
carries p h s =
    let o = save p s.registers s.memory (replicate state_size 0) in
    let l = load (take (length_of_saved o.answer) o.image) p (lent 16 16 h 2) in
    record { number = number_of_load l.answer; registers = registers_resumed l.answer; memory = l.memory }

abbrev runs_on : Program → Seen → Seen
runs_on p s = seen_run (run p max_limit s.registers s.memory)

-- the number of the last call, PC, SP and the kept number, cell 0 with its tag
abbrev stands : Seen → (number pc sp kept bits tag : ℕ) → Bool
stands s number pc sp kept bits tag =
    eqb s.number number
    && (same (s.registers.pc ∷ s.registers.sp ∷ s.registers.kept ∷ []) (pc ∷ sp ∷ kept ∷ [])
    && (same (take 1 s.memory.cells.bits) (bits ∷ []) && same (take 1 s.memory.cells.tags) (tag ∷ [])))

abbrev trial : Program
trial = program_of "PUSHIMM 40 PUSHIMMF #40200000 STOREOFF 0 STOP"

abbrev half : Seen
half = seen_run (ran_with trial 16 6 2 2)

unfoldable pub carryings : List Bool
carryings =
    -- "N 10 bits, PC 11, SP 10, FBR 10, HALT 1, output count 9, then each of the N cells as tag 3 and bits 32, then the written output bytes, zeros to a byte; the lent
    -- output is 4,638 bytes, rest zero, length told"
    saves (saved_into 1 4638) 0 17 (state_image ++ replicate 4621 0)
    -- the largest fills it: 51 bits, 1,000 cells of 35 and 256 bytes
    ∷ tells largest 4638
    -- "Refusals for save: 31, then 10."
    ∷ saves (saved_into 1 4637) 31 0 (replicate 4637 1)
    ∷ saves (saved_into 2 4639) 31 0 (replicate 4639 1)
    ∷ saves (saved_into 2 4638) 10 0 (replicate 4638 0)
    -- "Saving and loading again keeps cells, tags, written output and registers, except that U and the kept number become 0 and H is the lent history's."
    ∷ loads state_image 1 1 (72 ∷ 0xC0800000 ∷ []) (4 ∷ 1 ∷ []) (72 ∷ 0 ∷ [])
    -- each byte may be written; what it is is not judged
    ∷ loads (but_two 15 0x07 0x80) 1 1 (72 ∷ 0xC0800000 ∷ []) (4 ∷ 1 ∷ []) (15 ∷ 0 ∷ [])
    ∷ loads (but_two 15 0x7F 0x80) 1 1 (72 ∷ 0xC0800000 ∷ []) (4 ∷ 1 ∷ []) (255 ∷ 0 ∷ [])
    -- two written, which fill the output
    ∷ loads (but 6 0x50 ++ (0x80 ∷ [])) 1 2 (72 ∷ 0xC0800000 ∷ []) (4 ∷ 1 ∷ []) (72 ∷ 1 ∷ [])
    -- the last CH, and the last PA
    ∷ loads (but_two 9 0x01 0xFC) 1 1 (127 ∷ 0xC0800000 ∷ []) (4 ∷ 1 ∷ []) (72 ∷ 0 ∷ [])
    ∷ loads (set (but_two 9 0x00 0x04) 6 0x2C) 1 1 (1 ∷ 0xC0800000 ∷ []) (3 ∷ 1 ∷ []) (72 ∷ 0 ∷ [])
    -- "41 ends early": in the head, in a cell, in the output; with the most bytes and the most cells announced; and before 67 and 10
    ∷ refuses [] 41
    ∷ refuses (take 6 state_image) 41
    ∷ refuses (take 7 state_image) 41
    ∷ refuses (take 16 state_image) 41
    ∷ refuses (but 6 0x50) 41
    ∷ refuses (but_two 5 0xFF 0xF0) 41
    ∷ refuses (set (but 0 0xFF) 1 0xC8) 41
    ∷ refuses_into (lent 3 2 2 2) jump (take 16 state_image) 41
    ∷ refuses (take 16 (but 3 0x04)) 41
    -- "67 N not that of the lent cells and tags, or a lent history or output outside its range"; and before 10 and 45
    ∷ refuses_into (lent 1 2 2 2) jump state_image 67
    ∷ refuses_into (lent 3 3 2 2) jump state_image 67
    ∷ refuses_into (lent 2 1 2 2) jump state_image 67
    ∷ refuses_into (lent 2 2 8193 2) jump state_image 67
    ∷ refuses_into (lent 2 2 2 257) jump state_image 67
    ∷ refuses_into (lent 2 3 2 2) jump (but 3 0x04) 67
    ∷ refuses_into (lent 2 3 2 2) (program [] 0) state_image 67
    ∷ refuses_into (lent 2 3 2 2) jump (state_image ++ (0 ∷ [])) 67
    -- "10 for the ranges of step": SP, FBR, PC, a tag, a PA, a CH, N and the table
    ∷ refuses (but 3 0x04) 10
    ∷ refuses (but 4 0x01) 10
    ∷ refuses (but 2 0x10) 10
    ∷ refuses (but 6 0x34) 10
    ∷ refuses (but 6 0x2C) 10
    ∷ refuses (set (but_two 9 0x00 0x08) 6 0x2C) 10
    ∷ refuses (but_two 9 0x02 0x00) 10
    ∷ refuses_into (lent 0 0 2 2) jump (replicate 7 0) 10
    ∷ refuses_into (lent 2 2 2 2) (program [] 0) state_image 10
    -- "an output count above the lent output among them"; and before 45
    ∷ refuses_into (lent 2 2 2 0) jump state_image 10
    ∷ refuses_into (lent 2 2 2 1) jump (but 6 0x50 ++ (0 ∷ [])) 10
    ∷ refuses (but 3 0x04 ++ (0 ∷ [])) 10
    ∷ refuses (set (but 3 0x04) 16 0x01) 10
    -- "45 padding or left-over bytes": the first and the last bit of the padding, and a byte too many; "length told", and no more is loaded again
    ∷ refuses (but 16 0x40) 45
    ∷ refuses (but 16 0x01) 45
    ∷ refuses (state_image ++ (0 ∷ [])) 45
    ∷ refuses (state_image ++ replicate 4621 0) 45
    -- a range's end is within it: no history, no output, and the largest of both
    ∷ leaves (load (set (but 6 0x10) 15 0x00) jump (lent 2 2 0 0)) 45 (replicate 9 0) (lent 2 2 0 0)
    ∷ leaves (load (take 16 (set (but 6 0x10) 15 0x00)) jump (lent 2 2 0 0)) 0 (2 ∷ 0 ∷ 1 ∷ 1 ∷ 1 ∷ 1 ∷ 0 ∷ 0 ∷ 0 ∷ [])
    (memory (72 ∷ 0xC0800000 ∷ []) (4 ∷ 1 ∷ []) [] [])
    ∷ leaves (load state_image jump (lent 2 2 8192 256)) 0 (2 ∷ 8192 ∷ 1 ∷ 1 ∷ 1 ∷ 1 ∷ 0 ∷ 0 ∷ 1 ∷ [])
    (memory (72 ∷ 0xC0800000 ∷ []) (4 ∷ 1 ∷ []) (replicate 8192 0) (72 ∷ replicate 255 0))
    -- "takes any sound table": a longer program; a shorter one, in which PC is outside
    ∷ leaves (load state_image (program_of "ADD ADD") (lent 2 2 0 1)) 0 (2 ∷ 0 ∷ 1 ∷ 1 ∷ 1 ∷ 1 ∷ 0 ∷ 0 ∷ 1 ∷ [])
    (memory (72 ∷ 0xC0800000 ∷ []) (4 ∷ 1 ∷ []) [] (72 ∷ []))
    ∷ refuses_into (lent 2 2 0 1) (program_of "") state_image 10
    -- a session: 40 tenths, and a trial that stands before its store; carried, and so to another machine with less room
    ∷ stands half 50 2 2 2 40 0
    ∷ stands (carries trial 2 half) 0 2 2 0 40 0
    -- "starts a new origin": nothing can be taken back there
    ∷ stands (backs trial 1 (carries trial 2 half)) 9 2 2 0 40 0
    -- it goes on as the first does, until there is no room
    ∷ stands (runs_on trial half) 8 3 1 3 0x40200000 1
    ∷ stands (runs_on trial (carries trial 3 half)) 0 3 1 2 0x40200000 1
    ∷ stands (runs_on trial (carries trial 2 half)) 8 3 1 1 0x40200000 1
    ∷ stands (runs_on trial (carries trial 1 half)) 8 2 2 0 40 0
    -- and steps back to where it was carried to: the 40 tenths with their tag
    ∷ stands (backs trial 2 (runs_on trial (carries trial 3 half))) 0 2 2 0 40 0
    ∷ stands (backs trial 3 (runs_on trial (carries trial 3 half))) 9 2 2 0 40 0
    ∷ []

pub all_carried : every carryings ≡ true
unfolding carryings holds backs SavedState.state_bits SavedState.save SavedState.registers_in SavedState.column_in SavedState.bytes_in SavedState.entry SavedState.load
all_carried = refl
