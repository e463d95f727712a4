-- Document 02, letter h: characters and the output worked by hand from its words, as one list, and the one statement that each of them holds; antt computes
-- it. Assumes nothing.
use Rattle.std.specs.Prelude.{ℕ, ◌+◌, ◌*◌, ◌≡◌, refl, Bool, true, ◌&&◌, cond, List, [], ◌∷◌, ◌++◌, length, take, replicate, eqb}
use Prim.Native.String.{String}
use Rattle.rules.specs.Dwell as Dwell
use Rattle.rules.specs.Positions as Positions
use Rattle.rules.specs.Listing as Listing
use Rattle.rules.specs.Console as Console
use Rattle.rules.specs.Lists.{text, every, same}
use Rattle.rules.specs.Sizes.{max_program, max_limit}
use Rattle.rules.specs.Bytes.{LF}
use Rattle.rules.specs.Tags.{int, ch}
use Rattle.rules.specs.Numbers.{number_of_reset, number_of_assembled, number_of_packed, number_of_dwell}
use Rattle.rules.specs.State.{memory}
use Rattle.rules.specs.Step.{step}
use Rattle.rules.specs.Back.{back}
use Rattle.rules.specs.Run.{run}
use Rattle.rules.specs.Reset.{registers_begun, reset}
use Rattle.rules.specs.Assemble.{assemble}
use Rattle.rules.specs.Listing.{listing}
use Rattle.rules.specs.Image.{unpack}
use Rattle.rules.specs.Console.{report}
use Rattle.rules.specs.Examples.{gives, refused, packs, records, restores, program_of, ran_with, holds}
use Rattle.rules.specs.KeptNumbers.{Seen, seen_step, seen_run, backs}

-- the number that a call gave, and the used count and the output that it left
abbrev shows : Seen → (number written : ℕ) → (output : List ℕ) → Bool
shows s number written output =
    eqb s.number number && (eqb s.registers.written written && same s.memory.output output)

-- ---- from a reset, with 16 cells, that many history places and an output of so many bytes

-- a run until it ends, and then so many step-backs: the number of the last call, the used count, and the output
abbrev after : (h size : ℕ) → String → (back : ℕ) → (number written : ℕ) → List ℕ → Bool
after h size source back number written output =
    let p = program_of source in shows (backs p back (seen_run (ran_with p 16 h size max_limit))) number written output

-- a reset of an output of so many bytes
abbrev resets : (size number : ℕ) → Bool
resets size number =
    eqb (number_of_reset (reset (program_of "STOP") (memory (0 ∷ []) (0 ∷ []) [] (replicate size 7))).answer) number

-- what a reset leaves of an output that holds these bytes
abbrev start_of : List ℕ → Seen
start_of output =
    let s = reset (program_of "STOP") (memory (0 ∷ []) (0 ∷ []) [] output) in
    record { number = number_of_reset s.answer; registers = registers_begun s.answer; memory = s.memory }

-- ---- the text, the listing, the image, and what is printed

abbrev assembles : String → ℕ → Bool
assembles source number = eqb (number_of_assembled (assemble (text source) (replicate max_program 0)).answer) number

abbrev lists : String → String → Bool
lists source line = let p = program_of source in same (listing (take p.count p.places)) (text line ++ LF ∷ [])

abbrev unpacks : List ℕ → ℕ → Bool
unpacks image number = eqb (number_of_packed (unpack image (replicate max_program 0)).answer) number

-- the lines that are printed of a run with 16 cells and an output of so many bytes
unfoldable pub ended : List String → List ℕ
ended [] = []
ended (l ∷ ls) = text l ++ LF ∷ ended ls

abbrev prints : (size : ℕ) → String → List String → Bool
prints size source lines = same (report (ran_with (program_of source) 16 0 size max_limit)) (ended lines)

-- ---- states made by hand, at the first instruction of `WRITECH STOP`, with all of these history places used

-- of cells with these bits and tags, and that SP
abbrev given : (sp : ℕ) → (bits tags : List ℕ) → (history : List ℕ) → (written : ℕ) → (output : List ℕ) → Seen
given sp bits tags history written output =
    record {
      number = 0;
      registers =
          record {
            n = length bits;
            h = length history;
            pc = 0;
            sp = sp;
            fbr = 0;
            halt = 0;
            used = length history;
            kept = cond (eqb (length history) 0) 0 1;
            written = written;
          };
      memory = memory bits tags history output;
    }

abbrev step_of : Seen → Seen
step_of s = seen_step s.registers (step (program_of "WRITECH STOP") s.registers s.memory)

abbrev back_of : Seen → Seen
back_of s = backs (program_of "WRITECH STOP") 1 s

-- "10" by every call
abbrev broken : Seen → Bool
broken s =
    let p = program_of "WRITECH STOP" in
    shows (step_of s) 10 s.registers.written s.memory.output
    && shows (back_of s) 10 s.registers.written s.memory.output
    && shows (seen_run (run p 1 s.registers s.memory)) 10 s.registers.written s.memory.output
    && eqb (number_of_dwell (Dwell.dwell p s.registers s.memory)) 10

-- done, and these cells left too
abbrev leaves : Seen → (bits tags : List ℕ) → (written : ℕ) → (output : List ℕ) → Bool
leaves s bits tags written output =
    shows s 0 written output && (same s.memory.cells.bits bits && same s.memory.cells.tags tags)

-- the step place of the WRITECH, with one value before it: of no cell, and of one; and that of the STOP
abbrev wrote : ℕ
wrote = 0x8000040000000000

abbrev wrote_cell : ℕ
wrote_cell = 0x8000040000400000

abbrev stopped : ℕ
stopped = 0x8010040000000000

-- the cell place of address 0 that keeps this tag and these bits
abbrev kept_as : (tag bits : ℕ) → ℕ
kept_as tag bits = tag * 0x0004000000000000 + bits * 0x40000

unfoldable pub characters : List Bool
characters =
    -- "appends it to a lent output"; "its step-back drops and zeroes the last byte", and that of another instruction leaves the output
    after 16 4 "PUSHIMMCH 72 WRITECH PUSHIMMCH 73 WRITECH STOP" 0 0 2 (72 ∷ 73 ∷ 0 ∷ 0 ∷ [])
    ∷ after 16 4 "PUSHIMMCH 72 WRITECH PUSHIMMCH 73 WRITECH STOP" 1 0 2 (72 ∷ 73 ∷ 0 ∷ 0 ∷ [])
    ∷ after 16 4 "PUSHIMMCH 72 WRITECH PUSHIMMCH 73 WRITECH STOP" 2 0 1 (72 ∷ 0 ∷ 0 ∷ 0 ∷ [])
    ∷ after 16 4 "PUSHIMMCH 72 WRITECH PUSHIMMCH 73 WRITECH STOP" 3 0 1 (72 ∷ 0 ∷ 0 ∷ 0 ∷ [])
    ∷ after 16 4 "PUSHIMMCH 72 WRITECH PUSHIMMCH 73 WRITECH STOP" 4 0 0 (0 ∷ 0 ∷ 0 ∷ 0 ∷ [])
    ∷ after 16 4 "PUSHIMMCH 72 WRITECH PUSHIMMCH 73 WRITECH STOP" 6 9 0 (0 ∷ 0 ∷ 0 ∷ 0 ∷ [])
    ∷ after 0 4 "PUSHIMMCH 72 WRITECH PUSHIMMCH 73 WRITECH STOP" 0 0 2 (72 ∷ 73 ∷ 0 ∷ 0 ∷ [])
    ∷ after 0 4 "PUSHIMMCH 72 WRITECH PUSHIMMCH 73 WRITECH STOP" 1 9 2 (72 ∷ 73 ∷ 0 ∷ 0 ∷ [])
    -- "WRITECH writes no cell": its record is one place behind the two of the push, and the CH stays in its cell; a byte that was dropped is written again
    ∷ after 3 1 "PUSHIMMCH 72 WRITECH" 0 2 1 (72 ∷ [])
    ∷ leaves (step_of (given 1 (72 ∷ 0 ∷ []) (4 ∷ 0 ∷ []) [] 0 (0 ∷ []))) (72 ∷ 0 ∷ []) (4 ∷ 0 ∷ []) 1 (72 ∷ [])
    ∷ leaves (step_of (back_of (given 0 (72 ∷ 0 ∷ []) (4 ∷ 0 ∷ []) (wrote ∷ []) 1 (72 ∷ [])))) (72 ∷ 0 ∷ []) (4 ∷ 0 ∷ []) 1 (72 ∷ [])
    -- "12 when the output is full", with 0 bytes from the start
    ∷ after 16 1 "PUSHIMMCH 72 WRITECH PUSHIMMCH 73 WRITECH STOP" 0 12 1 (72 ∷ [])
    ∷ after 16 0 "PUSHIMMCH 72 WRITECH" 0 12 0 []
    ∷ after 0 0 "PUSHIMMCH 72 WRITECH" 0 12 0 []
    -- "after 7 and before 8", and after 3 and 4
    ∷ after 2 0 "PUSHIMMCH 72 WRITECH" 0 12 0 []
    ∷ after 2 1 "PUSHIMMCH 72 WRITECH" 0 8 0 (0 ∷ [])
    ∷ after 1 0 "JUMP 1 WRITECH" 0 3 0 []
    ∷ after 2 0 "PUSHIMM 72 WRITECH" 0 4 0 []
    ∷ after 16 4 "PUSHIMMPA 0 WRITECH" 0 4 0 (0 ∷ 0 ∷ 0 ∷ 0 ∷ [])
    -- "Reset zeroes that output and its used count"; "11 at reset .. for an output above 256"
    ∷ resets 0 0
    ∷ resets 256 0
    ∷ resets 257 11
    ∷ shows (start_of (3 ∷ 4 ∷ [])) 0 0 (0 ∷ 0 ∷ [])
    -- "tag CH (4) with codes 0 to 127": as any tag where any is taken, and as no other
    ∷ holds (gives 16 "PUSHIMMCH 127" (ch 127))
    ∷ holds (gives 16 "PUSHIMMCH -0" (ch 0))
    ∷ holds (gives 16 "PUSHIMMCH 65 PUSHIMMCH 65 EQUAL" (int 1))
    ∷ holds (gives 16 "PUSHIMMCH 65 PUSHIMMCH 66 EQUAL" (int 0))
    ∷ holds (gives 16 "PUSHIMMCH 65 PUSHIMM 65 EQUAL" (int 0))
    ∷ holds (gives 16 "PUSHIMMCH 0 ISNIL" (int 1))
    ∷ holds (gives 16 "PUSHIMMCH 1 ISNIL" (int 0))
    ∷ holds (refused 16 0 "PUSHIMMCH 65 PUSHIMM 1 ADD" 2 4)
    ∷ holds (refused 16 0 "PUSHIMMCH 65 NOT" 1 4)
    -- "The old tag in a history cell place becomes 3 bits": a CH is kept and restored
    ∷ holds (records 16 6 "PUSHIMMCH 65 PUSHIMM 1 STOREOFF 0" (0x0010000001040000 ∷ 0x8020080000400000 ∷ []))
    ∷ holds (restores 16 6 "PUSHIMMCH 65 PUSHIMM 1 STOREOFF 0" 0 (ch 65))
    -- "operand 0..127, 7 bits in the image"
    ∷ assembles "PUSHIMMCH 0 PUSHIMMCH 127 WRITECH" 0
    ∷ assembles "PUSHIMMCH 128" 25
    ∷ assembles "PUSHIMMCH -1" 25
    ∷ assembles "PUSHIMMCH 00000000065" 25
    ∷ assembles "PUSHIMMCH A" 33
    ∷ assembles "PUSHIMMCH #00000041" 33
    ∷ assembles "PUSHIMMCH 6.5" 33
    ∷ assembles "PUSHIMMCH" 24
    ∷ lists "PUSHIMMCH 007" "PUSHIMMCH 7"
    ∷ lists "WRITECH" "WRITECH"
    ∷ holds (packs "PUSHIMMCH 65" (0x00 ∷ 0x3A ∷ 0x41 ∷ []))
    ∷ holds (packs "WRITECH" (0x00 ∷ 0x3A ∷ 0x80 ∷ []))
    ∷ unpacks (0x00 ∷ 0x3A ∷ 0x41 ∷ []) 0
    ∷ unpacks (0x00 ∷ 0x3A ∷ 0x80 ∷ []) 0
    -- "43 is a code above 53"
    ∷ unpacks (0x00 ∷ 0x3B ∷ 0x00 ∷ []) 43
    -- "10 for a used count above its length", and for "an output above 256"; an output that is full, or holds what no WRITECH wrote, is none
    ∷ broken (given 0 (0 ∷ 0 ∷ []) (0 ∷ 0 ∷ []) (stopped ∷ []) 3 (72 ∷ 73 ∷ []))
    ∷ broken (given 0 (0 ∷ 0 ∷ []) (0 ∷ 0 ∷ []) (stopped ∷ []) 1 [])
    ∷ broken (given 0 (0 ∷ 0 ∷ []) (0 ∷ 0 ∷ []) (stopped ∷ []) 0 (replicate 257 0))
    ∷ shows (step_of (given 1 (72 ∷ 0 ∷ []) (4 ∷ 0 ∷ []) [] 2 (72 ∷ 73 ∷ []))) 12 2 (72 ∷ 73 ∷ [])
    ∷ shows (step_of (given 1 (72 ∷ 0 ∷ []) (4 ∷ 0 ∷ []) [] 1 (200 ∷ 255 ∷ 255 ∷ []))) 0 2 (200 ∷ 72 ∷ 255 ∷ [])
    -- "a cell's .. tag above 4 or CH above 127", live or not
    ∷ broken (given 1 (0 ∷ 0 ∷ []) (5 ∷ 0 ∷ []) (stopped ∷ []) 0 [])
    ∷ broken (given 0 (0 ∷ 0 ∷ []) (0 ∷ 5 ∷ []) (stopped ∷ []) 0 [])
    ∷ broken (given 1 (128 ∷ 0 ∷ []) (4 ∷ 0 ∷ []) (stopped ∷ []) 0 [])
    ∷ broken (given 0 (0 ∷ 4294967295 ∷ []) (0 ∷ 4 ∷ []) (stopped ∷ []) 0 [])
    ∷ shows (step_of (given 1 (127 ∷ 127 ∷ []) (4 ∷ 4 ∷ []) [] 0 (0 ∷ []))) 0 1 (127 ∷ [])
    -- "or restored"
    ∷ shows (back_of (given 0 (0 ∷ 0 ∷ []) (0 ∷ 0 ∷ []) (kept_as 5 0 ∷ wrote_cell ∷ []) 1 (72 ∷ []))) 10 1 (72 ∷ [])
    ∷ shows (back_of (given 0 (0 ∷ 0 ∷ []) (0 ∷ 0 ∷ []) (kept_as 7 0 ∷ wrote_cell ∷ []) 1 (72 ∷ []))) 10 1 (72 ∷ [])
    ∷ shows (back_of (given 0 (0 ∷ 0 ∷ []) (0 ∷ 0 ∷ []) (kept_as 4 128 ∷ wrote_cell ∷ []) 1 (72 ∷ []))) 10 1 (72 ∷ [])
    -- a record at a WRITECH, made by hand, may have cells: they are restored too
    ∷ leaves (back_of (given 0 (9 ∷ 0 ∷ []) (0 ∷ 0 ∷ []) (kept_as 4 127 ∷ wrote_cell ∷ []) 1 (72 ∷ 5 ∷ []))) (127 ∷ 0 ∷ []) (4 ∷ 0 ∷ []) 0 (0 ∷ 5 ∷ [])
    ∷ leaves (back_of (given 0 (9 ∷ 0 ∷ []) (0 ∷ 0 ∷ []) (wrote ∷ []) 2 (72 ∷ 73 ∷ 5 ∷ []))) (9 ∷ 0 ∷ []) (0 ∷ 0 ∷ []) 1 (72 ∷ 0 ∷ 5 ∷ [])
    -- "at step-back a top record at a WRITECH with nothing written" is 10; a record elsewhere asks for none
    ∷ shows (back_of (given 0 (9 ∷ 0 ∷ []) (0 ∷ 0 ∷ []) (wrote ∷ []) 0 (72 ∷ []))) 10 0 (72 ∷ [])
    ∷ shows (back_of (given 0 (9 ∷ 0 ∷ []) (0 ∷ 0 ∷ []) (wrote ∷ []) 0 [])) 10 0 []
    ∷ leaves (back_of (given 0 (9 ∷ 0 ∷ []) (0 ∷ 0 ∷ []) (stopped ∷ []) 0 (72 ∷ []))) (9 ∷ 0 ∷ []) (0 ∷ 0 ∷ []) 0 (72 ∷ [])
    -- "prints a live CH as a number and, if output was written, ends with a line `out`", also after a refusal
    ∷ prints 4 "PUSHIMMCH 72 WRITECH PUSHIMMCH 10 WRITECH PUSHIMMCH 65 STOP" ("end 0 steps 6" ∷ "PC 5 SP 1 FBR 0" ∷ "0 CH 65" ∷ "out 48 0A" ∷ [])
    ∷ prints 1 "PUSHIMMCH 72 WRITECH PUSHIMMCH 73 WRITECH" ("end 12 steps 3" ∷ "PC 3 SP 1 FBR 0" ∷ "0 CH 73" ∷ "out 48" ∷ [])
    ∷ prints 4 "STOP" ("end 0 steps 1" ∷ "PC 0 SP 0 FBR 0" ∷ [])
    ∷ []

pub all_characters : every characters ≡ true
unfolding characters ended backs holds Dwell.dwell Positions.line_feeds Positions.since_lf Positions.position_of Listing.decimal Listing.signed_text Listing.hex_byte Listing.hex Listing.line_of Listing.listing Console.line Console.tag_name Console.value_text Console.cell_line Console.cell_lines Console.bytes_text Console.out_line Console.report
all_characters = refl
