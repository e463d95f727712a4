-- Document 02, letter f: dwells worked by hand from its words, as one list, and the one statement that each is read so; antt computes it. Assumes nothing.
use Rattle.std.specs.Prelude.{ℕ, ◌≡◌, refl, Bool, true, ◌&&◌, List, [], ◌∷◌, replicate, eqb, ℤ, pos, negsuc}
use Prim.Native.String.{String}
use Rattle.std.specs.Float.Ieee as Ieee
use Rattle.rules.specs.Exact as Exact
use Rattle.rules.specs.Floats as Floats
use Rattle.rules.specs.Dwell as Dwell
use Rattle.rules.specs.Sizes.{max_program, max_limit}
use Rattle.rules.specs.Tags.{INT, FLOAT, PA, int, float, ma, pa, ch}
use Rattle.rules.specs.Words.{word}
use Rattle.rules.specs.Table.{program}
use Rattle.rules.specs.State.{Memory, memory}
use Rattle.rules.specs.Numbers.{number_of_dwell, tenths_of_dwell}
use Rattle.rules.specs.Examples.{program_of, ran_from, holds}
use Rattle.rules.specs.declared.Cell.{Cell}
use Rattle.rules.specs.Answers.{Dwell}

-- what the door board reads, and the number and the tenths that the words give
pub record DwellRead : Type 0 where
  pub read : Dwell
  pub number : ℕ
  pub tenths : ℕ

-- of a source, run from a reset with 16 cells until it ends
abbrev after_run : String → (number tenths : ℕ) → DwellRead
after_run s number tenths =
    let p = program_of s in
    let a = ran_from p 16 0 max_limit in
    record { read = Dwell.dwell p a.answer.registers a.memory; number = number; tenths = tenths }

-- of a machine of two cells under the empty program, with that SP and HALT
abbrev machine : (sp halt : ℕ) → Memory → (number tenths : ℕ) → DwellRead
machine sp halt m number tenths =
    record {
      read = Dwell.dwell (program (replicate max_program 0) 0) (record { n = 2; h = 0; pc = 0; sp = sp; fbr = 0; halt = halt; used = 0; kept = 0; written = 0 }) m;
      number = number;
      tenths = tenths;
    }

-- cell 0 of a halted machine is read as so many tenths, or refused by that number
abbrev cell : Cell → (number tenths : ℕ) → DwellRead
cell c = machine 1 1 (memory (c.bits ∷ 0 ∷ []) (c.tag ∷ INT ∷ []) [] [])

abbrev tenths : ℤ → ℕ → DwellRead
tenths z t = cell (int (word z)) 0 t

abbrev seconds : ℕ → ℕ → DwellRead
seconds b t = cell (float b) 0 t

unfoldable pub dwells : List DwellRead
dwells =
    -- four seconds in tenths, and the trial of two and a half that is stored over them
    after_run "PUSHIMM 40 STOP" 0 40
    ∷ after_run "PUSHIMM 40 PUSHIMMF 2.5 STOREOFF 0 STOP" 0 25
    -- "INT is tenths of a second", "held between 10 and 300 tenths"
    ∷ tenths (pos 10) 10
    ∷ tenths (pos 11) 11
    ∷ tenths (pos 9) 10
    ∷ tenths (pos 0) 10
    ∷ tenths (negsuc 0) 10
    ∷ tenths (negsuc 2147483647) 10
    ∷ tenths (pos 299) 299
    ∷ tenths (pos 300) 300
    ∷ tenths (pos 301) 300
    ∷ tenths (pos 2147483647) 300
    -- "FLOAT is seconds, taken as the largest whole tenth not above": 2.3 and 29.9 as binary32 lie below the decimal, 1.1 and 2.7 above
    ∷ after_run "PUSHIMMF 2.3 STOP" 0 22
    ∷ after_run "PUSHIMMF 2.7 STOP" 0 27
    ∷ seconds 0x3F8CCCCD 11
    ∷ seconds 0x3F8CCCCC 10
    ∷ seconds 0x41EF3333 298
    ∷ seconds 0x41EF3334 299
    -- 4, and the values beside it; 1 and 30, and those below them
    ∷ seconds 0x40800000 40
    ∷ seconds 0x40800001 40
    ∷ seconds 0x407FFFFF 39
    ∷ seconds 0x3F800000 10
    ∷ seconds 0x3F7FFFFF 10
    ∷ seconds 0x41F00000 300
    ∷ seconds 0x41EFFFFF 299
    -- held: 31 and the largest value, a half, the smallest values, both zeros, -2.5 and the lowest value
    ∷ seconds 0x41F80000 300
    ∷ seconds 0x7F7FFFFF 300
    ∷ seconds 0x3F000000 10
    ∷ seconds 0x00000001 10
    ∷ seconds 0x80000001 10
    ∷ seconds 0x00000000 10
    ∷ seconds 0x80000000 10
    ∷ seconds 0xC0200000 10
    ∷ seconds 0xFF7FFFFF 10
    -- "infinities go to the nearer end"
    ∷ seconds 0x7F800000 300
    ∷ seconds 0xFF800000 10
    -- "63 NaN", which is no INT of the same bits
    ∷ cell (float 0x7FC00000) 63 0
    ∷ cell (float 0x7F800001) 63 0
    ∷ cell (float 0xFFFFFFFF) 63 0
    ∷ cell (int 0x7FC00000) 0 300
    ∷ cell (int 0xFFFFFFFF) 0 10
    -- "62 tag neither INT nor FLOAT"
    ∷ cell (ma 40) 62 0
    ∷ cell (pa 0) 62 0
    ∷ cell (ch 40) 62 0
    -- "61 SP is 0", whatever cell 0 was left with; before 62 and 63
    ∷ after_run "STOP" 61 0
    ∷ after_run "PUSHIMM 40 ADDSP -1 STOP" 61 0
    ∷ after_run "PUSHSP ADDSP -1 STOP" 61 0
    ∷ after_run "PUSHIMMF #7FC00000 ADDSP -1 STOP" 61 0
    -- "60 not halted": at the end of a program, and where a step was refused; before 61, 62 and 63
    ∷ after_run "PUSHIMM 40" 60 0
    ∷ after_run "PUSHIMM 40 PUSHIMM 0 DIV STOP" 60 0
    ∷ after_run "" 60 0
    ∷ after_run "PUSHSP" 60 0
    ∷ after_run "PUSHIMMF #7FC00000" 60 0
    -- "10 as for step", before them all: HALT 2, SP at N, and in a cell that is not read a tag above 4 and a PA above the length
    ∷ machine 0 2 (memory (40 ∷ 0 ∷ []) (INT ∷ INT ∷ []) [] []) 10 0
    ∷ machine 2 1 (memory (40 ∷ 0 ∷ []) (INT ∷ INT ∷ []) [] []) 10 0
    ∷ machine 0 0 (memory (40 ∷ 0 ∷ []) (INT ∷ 5 ∷ []) [] []) 10 0
    ∷ machine 1 1 (memory (0x7FC00000 ∷ 1 ∷ []) (FLOAT ∷ PA ∷ []) [] []) 10 0
    ∷ []

abbrev pub reads : DwellRead → Bool
reads r = eqb (number_of_dwell r.read) r.number && eqb (tenths_of_dwell r.read) r.tenths

unfoldable pub all_read : List DwellRead → Bool
all_read [] = true
all_read (r ∷ rs) = reads r && all_read rs

pub all_read_lem : all_read dwells ≡ true
unfolding dwells all_read holds Dwell.held Dwell.whole_tenths Dwell.held_seconds Dwell.dwell Exact.magnitude Floats.nearest_f Ieee.round Ieee.to_bits
all_read_lem = refl
