-- Document 02, letter i: forgets worked by hand from its words, as one list, and the one statement that each of them holds; antt computes it. Assumes nothing.
use Rattle.std.specs.Prelude.{ℕ, ◌≡◌, refl, Bool, true, ◌&&◌, List, [], ◌∷◌, length, take, eqb}
use Prim.Native.String.{String}
use Rattle.rules.specs.Records as Records
use Rattle.rules.specs.Lists.{every, same}
use Rattle.rules.specs.Sizes.{max_limit}
use Rattle.rules.specs.Table.{Program}
use Rattle.rules.specs.State.{memory}
use Rattle.rules.specs.Numbers.{number_of_forgot, registers_forgot}
use Rattle.rules.specs.Back.{back}
use Rattle.rules.specs.Run.{run}
use Rattle.rules.specs.Forget.{Forgets, forget}
use Rattle.rules.specs.Examples.{program_of, ran_with, holds}
use Rattle.rules.specs.KeptNumbers.{Seen, seen_run, jumped, wrote, backs}
use Rattle.rules.specs.declared.Registers.{Registers}

abbrev seen_forget : Registers → Forgets → Seen
seen_forget r o = record { number = number_of_forgot o.answer; registers = registers_forgot r o.answer; memory = o.memory }

-- ---- states made by hand: a halted machine of two cells, a byte written, under a program of one instruction; these history places, the first so many used

abbrev registers_given : List ℕ → (used kept : ℕ) → Registers
registers_given l used kept = record { n = 2; h = length l; pc = 1; sp = 1; fbr = 1; halt = 1; used = used; kept = kept; written = 1 }

abbrev given : String → (k : ℕ) → List ℕ → (used kept : ℕ) → Seen
given source k l used kept =
    let r = registers_given l used kept in
    seen_forget r (forget (program_of source) k r (memory (8 ∷ 9 ∷ []) (0 ∷ 1 ∷ []) l (72 ∷ 5 ∷ [])))

-- all registers and all memory: of the registers U and the kept number are these, the history is that, and everything else stays
abbrev leaves : Seen → (number used kept : ℕ) → List ℕ → Bool
leaves s number used kept l =
    let r = s.registers in
    every
    (eqb s.number number
    ∷ same (r.n ∷ r.h ∷ r.pc ∷ r.sp ∷ r.fbr ∷ r.halt ∷ r.used ∷ r.kept ∷ r.written ∷ [])
    (2 ∷ length l ∷ 1 ∷ 1 ∷ 1 ∷ 1 ∷ used ∷ kept ∷ 1 ∷ [])
    ∷ same s.memory.cells.bits (8 ∷ 9 ∷ [])
    ∷ same s.memory.cells.tags (0 ∷ 1 ∷ [])
    ∷ same s.memory.history l
    ∷ same s.memory.output (72 ∷ 5 ∷ [])
    ∷ [])

-- a forget of k: U, the kept number and the history after
abbrev forgets : (k : ℕ) → List ℕ → (used kept : ℕ) → (used' kept' : ℕ) → List ℕ → Bool
forgets k l used kept used' kept' l' = leaves (given "JUMP 0" k l used kept) 0 used' kept' l'

-- "a refusal changes nothing"
abbrev refuses : (k : ℕ) → List ℕ → (used kept : ℕ) → (number : ℕ) → Bool
refuses k l used kept number = leaves (given "JUMP 0" k l used kept) number used kept l

-- step places besides that of a JUMP at PC 0 and of a step that wrote one cell: the JUMP with SP 1, and a step that wrote two
abbrev jumped1 : ℕ
jumped1 = 0x8000040000000000

abbrev wrote2 : ℕ
wrote2 = 0x8000000000800000

-- cell places: the old INT 0 at address 0 and at address 1; at address 0 the last CH, and a PA of 1, which is the program's length
abbrev cell0 : ℕ
cell0 = 0

abbrev cell1 : ℕ
cell1 = 0x0020000000000000

abbrev last_ch : ℕ
last_ch = 0x0010000001FC0000

abbrev last_pa : ℕ
last_pa = 0x000C000000040000

-- ---- from a reset, with 16 cells, that many history places and two bytes of output

-- a run with a limit, a forget of k, a run with another limit, and so many step-backs
abbrev pub ran_before : (h : ℕ) → String → (limit : ℕ) → Seen
ran_before h source limit = seen_run (ran_with (program_of source) 16 h 2 limit)

abbrev pub then_forgets : Program → ℕ → Seen → Seen
then_forgets p k s = seen_forget s.registers (forget p k s.registers s.memory)

abbrev then_runs : Program → ℕ → Seen → Seen
then_runs p limit s = seen_run (run p limit s.registers s.memory)

-- the number of each of the first run, the forget and the second run, and U and the kept number at the end
abbrev again : (h : ℕ) → String → (limit k limit' : ℕ) → (first second third used kept : ℕ) → Bool
again h source limit k limit' first second third used kept =
    let p = program_of source in
    let a = ran_before h source limit in
    let b = then_forgets p k a in
    let c = then_runs p limit' b in
    every
    (eqb a.number first
    ∷ eqb b.number second
    ∷ eqb c.number third
    ∷ eqb c.registers.used used
    ∷ eqb c.registers.kept kept
    ∷ [])

-- these are the first of the list
abbrev starts_with : List ℕ → List ℕ → Bool
starts_with xs l = same (take (length xs) l) xs

-- a run until it ends, a forget of k, and so many step-backs: the number of the last call; PC, SP, FBR, U, the kept number and the used count; the first cells
abbrev stepped_back : (h : ℕ) → String → (k back : ℕ) → (number : ℕ) → List ℕ → (cells : List ℕ) → Bool
stepped_back h source k back number registers cells =
    let p = program_of source in
    let s = backs p back (then_forgets p k (ran_before h source max_limit)) in
    let r = s.registers in
    eqb s.number number
    && (same (r.pc ∷ r.sp ∷ r.fbr ∷ r.used ∷ r.kept ∷ r.written ∷ []) registers && starts_with cells s.memory.cells.bits)

unfoldable pub forgettings : List Bool
forgettings =
    -- "forgets the k oldest kept steps, moves the rest down, and zeroes the room gained": records of one place
    forgets 1 (jumped ∷ jumped1 ∷ 0 ∷ []) 2 2 1 1 (jumped1 ∷ 0 ∷ 0 ∷ [])
    ∷ forgets 2 (jumped ∷ jumped1 ∷ 0 ∷ []) 2 2 0 0 (0 ∷ 0 ∷ 0 ∷ [])
    -- of two places, of one and of three
    ∷ forgets 1 (cell1 ∷ wrote ∷ jumped ∷ cell0 ∷ cell1 ∷ wrote2 ∷ []) 6 3 4 2 (jumped ∷ cell0 ∷ cell1 ∷ wrote2 ∷ 0 ∷ 0 ∷ [])
    ∷ forgets 2 (cell1 ∷ wrote ∷ jumped ∷ cell0 ∷ cell1 ∷ wrote2 ∷ []) 6 3 3 1 (cell0 ∷ cell1 ∷ wrote2 ∷ 0 ∷ 0 ∷ 0 ∷ [])
    ∷ forgets 3 (cell1 ∷ wrote ∷ jumped ∷ cell0 ∷ cell1 ∷ wrote2 ∷ []) 6 3 0 0 (0 ∷ 0 ∷ 0 ∷ 0 ∷ 0 ∷ 0 ∷ [])
    -- more places go than stay, and fewer
    ∷ forgets 1 (cell0 ∷ cell1 ∷ wrote2 ∷ jumped1 ∷ []) 4 2 1 1 (jumped1 ∷ 0 ∷ 0 ∷ 0 ∷ [])
    ∷ forgets 1 (jumped1 ∷ cell0 ∷ cell1 ∷ wrote2 ∷ []) 4 2 3 1 (cell0 ∷ cell1 ∷ wrote2 ∷ 0 ∷ [])
    -- places that were not in use stay, whatever they hold
    ∷ forgets 1 (jumped ∷ jumped1 ∷ 7 ∷ []) 2 2 1 1 (jumped1 ∷ 0 ∷ 7 ∷ [])
    -- the last CH and the last PA may be restored
    ∷ forgets 1 (last_ch ∷ wrote ∷ last_pa ∷ wrote ∷ []) 4 2 2 1 (last_pa ∷ wrote ∷ 0 ∷ 0 ∷ [])
    -- k = 0 changes nothing, and is judged like any k
    ∷ forgets 0 (jumped ∷ jumped1 ∷ 0 ∷ []) 2 2 2 2 (jumped ∷ jumped1 ∷ 0 ∷ [])
    ∷ forgets 0 (0 ∷ 0 ∷ []) 0 0 0 0 (0 ∷ 0 ∷ [])
    ∷ refuses 0 (jumped ∷ cell1 ∷ []) 2 1 10
    -- "14 when k is above the kept number"; with H = 0 it is 0
    ∷ refuses 3 (jumped ∷ jumped1 ∷ 0 ∷ []) 2 2 14
    ∷ refuses 4294967297 (jumped ∷ jumped1 ∷ 0 ∷ []) 2 2 14
    ∷ refuses 18446744073709551615 (jumped ∷ jumped1 ∷ 0 ∷ []) 2 2 14
    ∷ refuses 1 (0 ∷ 0 ∷ []) 0 0 14
    ∷ refuses 1 [] 0 0 14
    ∷ forgets 0 [] 0 0 0 0 []
    -- "10 first": broken as for step (U above H, a kept number above U, one of 0 with U above 0), with k above the kept number too
    ∷ refuses 9 (jumped ∷ jumped1 ∷ []) 3 2 10
    ∷ refuses 9 (jumped ∷ jumped1 ∷ []) 2 3 10
    ∷ refuses 9 (jumped ∷ jumped1 ∷ []) 2 0 10
    -- "also when any used record is ill-formed": a cell place where a step place is due, at the top and at the bottom
    ∷ refuses 1 (jumped ∷ cell1 ∷ []) 2 2 10
    ∷ refuses 1 (cell0 ∷ jumped ∷ []) 2 2 10
    ∷ refuses 9 (cell0 ∷ jumped ∷ jumped ∷ []) 3 2 10
    -- a step place where a cell place is due
    ∷ refuses 1 (jumped ∷ wrote ∷ jumped ∷ []) 3 2 10
    -- zeros that are none: of a step place between others, of a cell place at the bottom
    ∷ refuses 1 (jumped ∷ 0x8000000000000001 ∷ jumped ∷ []) 3 3 10
    ∷ refuses 1 (0x0000000000000001 ∷ wrote ∷ jumped ∷ []) 3 2 10
    -- an old PC of the length, an old SP of N, an old FBR of N, at the bottom
    ∷ refuses 1 (0x8010000000000000 ∷ jumped ∷ []) 2 2 10
    ∷ refuses 1 (0x8000080000000000 ∷ jumped ∷ []) 2 2 10
    ∷ refuses 1 (0x8000000200000000 ∷ jumped ∷ []) 2 2 10
    -- an address of N, addresses that fall, and one twice
    ∷ refuses 1 (0x0040000000000000 ∷ wrote ∷ jumped ∷ []) 3 2 10
    ∷ refuses 1 (cell1 ∷ cell0 ∷ wrote2 ∷ jumped ∷ []) 4 2 10
    ∷ refuses 1 (cell1 ∷ cell1 ∷ wrote2 ∷ jumped ∷ []) 4 2 10
    -- a restored tag of 5, a CH of 128, a PA of 2
    ∷ refuses 1 (0x0014000000000000 ∷ wrote ∷ jumped ∷ []) 3 2 10
    ∷ refuses 1 (0x0010000002000000 ∷ wrote ∷ jumped ∷ []) 3 2 10
    ∷ refuses 1 (0x000C000000080000 ∷ wrote ∷ jumped ∷ []) 3 2 10
    -- a record that reaches below place 0, and one that leaves a place over
    ∷ refuses 1 (wrote ∷ jumped ∷ []) 2 2 10
    ∷ refuses 1 (cell0 ∷ wrote2 ∷ []) 2 1 10
    ∷ refuses 1 (cell0 ∷ cell1 ∷ wrote ∷ []) 3 1 10
    -- "or the kept number differs from the records in use": one less, one more
    ∷ refuses 1 (jumped ∷ jumped1 ∷ 0 ∷ []) 2 1 10
    ∷ refuses 9 (jumped ∷ jumped1 ∷ 0 ∷ []) 2 1 10
    ∷ refuses 1 (cell1 ∷ wrote ∷ 0 ∷ []) 2 2 10
    -- that something is written at a WRITECH is not asked, though the record be at one: two of them stay with one byte written
    ∷ leaves (given "WRITECH" 1 (jumped ∷ jumped ∷ jumped1 ∷ []) 3 3) 0 2 2 (jumped ∷ jumped1 ∷ 0 ∷ [])
    -- "which later steps use": three jumps fill three places; one is forgotten, one more step is made, and then it is 8 again
    ∷ again 3 "JUMP 0" max_limit 1 max_limit 8 0 8 3 3
    -- all are forgotten, and two more are made; one too many is 14, and it is still 8
    ∷ again 3 "JUMP 0" max_limit 3 2 8 0 50 2 2
    ∷ again 3 "JUMP 0" max_limit 4 max_limit 8 14 8 3 3
    -- a push takes two places; where one is free it is 8, until two are
    ∷ again 3 "JUMP 1 PUSHIMM 7 PUSHIMM 8 STOP" max_limit 1 max_limit 8 0 8 2 1
    ∷ again 3 "JUMP 1 PUSHIMM 7 PUSHIMM 8 STOP" max_limit 2 max_limit 8 0 0 3 2
    -- without history nothing is kept, and nothing is in the way
    ∷ again 0 "JUMP 1 PUSHIMM 7 PUSHIMM 8 STOP" 2 0 max_limit 50 0 0 0 0
    ∷ again 0 "JUMP 1 PUSHIMM 7 PUSHIMM 8 STOP" 2 1 max_limit 50 14 0 0 0
    -- of the four steps of 1 + 2 the first is forgotten: three are taken back, to where the first had led, and then it is 9
    ∷ stepped_back 16 "PUSHIMM 1 PUSHIMM 2 ADD STOP" 1 2 0 (2 ∷ 2 ∷ 0 ∷ 2 ∷ 1 ∷ 0 ∷ []) (1 ∷ 2 ∷ [])
    ∷ stepped_back 16 "PUSHIMM 1 PUSHIMM 2 ADD STOP" 1 3 0 (1 ∷ 1 ∷ 0 ∷ 0 ∷ 0 ∷ 0 ∷ []) (1 ∷ 0 ∷ [])
    ∷ stepped_back 16 "PUSHIMM 1 PUSHIMM 2 ADD STOP" 1 4 9 (1 ∷ 1 ∷ 0 ∷ 0 ∷ 0 ∷ 0 ∷ []) (1 ∷ 0 ∷ [])
    -- "step-back is now refused exactly when S minus B equals F": all four forgotten
    ∷ stepped_back 16 "PUSHIMM 1 PUSHIMM 2 ADD STOP" 4 1 9 (3 ∷ 1 ∷ 0 ∷ 0 ∷ 0 ∷ 0 ∷ []) (3 ∷ 2 ∷ [])
    -- what was shown by a step that is forgotten stays shown, and one that is kept is taken back
    ∷ stepped_back 16 "PUSHIMMCH 72 WRITECH PUSHIMMCH 73 WRITECH STOP" 2 3 0 (2 ∷ 0 ∷ 0 ∷ 0 ∷ 0 ∷ 1 ∷ []) (72 ∷ 0 ∷ [])
    ∷ stepped_back 16 "PUSHIMMCH 72 WRITECH PUSHIMMCH 73 WRITECH STOP" 2 4 9 (2 ∷ 0 ∷ 0 ∷ 0 ∷ 0 ∷ 1 ∷ []) (72 ∷ 0 ∷ [])
    ∷ []

pub all_forgettings : every forgettings ≡ true
unfolding forgettings backs holds Records.cut_down forget
all_forgettings = refl
