-- Document 01, "Instructions" and "Cells written", and document 02, letter h: what an accepted step does, as an `Effect`. Assumes nothing.
use Rattle.std.specs.Prelude.{ℕ, ◌+◌, ◌-◌, ℤ, pos, negsuc, Option, Some, None}
use Rattle.rules.specs.Tags.{int, ma, pa}
use Rattle.rules.specs.declared.Cell.{Cell}
use Rattle.rules.specs.declared.MemoryAddress.{MemoryAddress}
use Rattle.rules.specs.declared.ProgramAddress.{ProgramAddress}
use Rattle.rules.specs.declared.Registers.{Registers}
use Rattle.rules.specs.declared.Effect.{Effect}

-- ---- addresses: "a memory address and a program address are never taken for each other"

-- the address, where it is at least 0
abbrev pub memory_address : ℤ → MemoryAddress
memory_address (pos a) = record { 0 = a }
memory_address (negsuc a) = record { 0 = 0 }

abbrev pub program_address : ℕ → ProgramAddress
program_address b = record { 0 = b }

abbrev pub following : Registers → ProgramAddress
following r = record { 0 = r.pc + 1 }

-- ---- what is written: the cells, "An unchanged cell that is written counts."; and at most one byte of the output

pub record Written : Type 0 where
  pub at : ℕ
  pub count : ℕ
  pub first : Cell
  pub second : Cell
  pub shows : Option ℕ

abbrev pub nothing : Written
nothing = record { at = 0; count = 0; first = int 0; second = int 0; shows = None }

abbrev pub cell : ℕ → Cell → Written
cell a c = record { at = a; count = 1; first = c; second = int 0; shows = None }

-- side by side
abbrev pub pair : ℕ → Cell → Cell → Written
pair a c d = record { at = a; count = 2; first = c; second = d; shows = None }

-- "INT 0 in each cell from .. to just below"
abbrev pub zeros : ℕ → ℕ → Written
zeros from to = record { at = from; count = to - from; first = int 0; second = int 0; shows = None }

-- "WRITECH writes no cell" (02 h), but a byte
abbrev pub byte : ℕ → Written
byte b = record { at = 0; count = 0; first = int 0; second = int 0; shows = Some b }

-- the registers after, and what is written: every effect is made here
abbrev pub effect : (pc sp fbr halt : ℕ) → Written → Effect
effect pc sp fbr halt w =
    record { pc = pc; sp = sp; fbr = fbr; halt = halt; at = w.at; count = w.count; first = w.first; second = w.second; shows = w.shows }

-- ---- the effects: "Cells written: one for each pushed result; DUP 1 (the copy); SWAP 2; a store 1; ADDSP and POPSP as above; jumps without push,
-- POPFBR and STOP 0." "Popped cells otherwise keep their contents."

-- k values are popped and a result is pushed
abbrev pub result : Registers → ℕ → Cell → Effect
result r k c = effect (r.pc + 1) (r.sp - k + 1) r.fbr 0 (cell (r.sp - k) c)

-- "SWAP 2"
abbrev pub swapped : Registers → Cell → Cell → Effect
swapped r vb vt = effect (r.pc + 1) r.sp r.fbr 0 (pair (r.sp - 2) vt vb)

-- k values are popped, and a cell is stored: "a store 1"
abbrev pub stored : Registers → ℕ → MemoryAddress → Cell → Effect
stored r k a c = effect (r.pc + 1) (r.sp - k) r.fbr 0 (cell a.0 c)

-- "writes INT 0 in each cell from the SP after popping to just below the new SP"
abbrev pub moved : Registers → ℕ → MemoryAddress → Effect
moved r popped a = effect (r.pc + 1) a.0 r.fbr 0 (zeros popped a.0)

-- "POPFBR .. 0" cells written
abbrev pub framed : Registers → MemoryAddress → Effect
framed r a = effect (r.pc + 1) (r.sp - 1) a.0 0 nothing

-- "PUSHSP, PUSHFBR, LINK push MA; LINK then sets FBR to the old SP.": the value that LINK pushes is the old FBR (000, 5.15.1)
abbrev pub linked : Registers → Effect
linked r = effect (r.pc + 1) (r.sp + 1) r.sp 0 (cell r.sp (ma r.fbr))

-- k values are popped, and PC is set: "jumps without push .. 0"
abbrev pub jumped : Registers → ℕ → ProgramAddress → Effect
jumped r k a = effect a.0 (r.sp - k) r.fbr 0 nothing

-- "JSR and JSRIND push PA PC+1; JSRIND pops its PA first"
abbrev pub called : Registers → ℕ → ProgramAddress → Effect
called r k a = effect a.0 (r.sp - k + 1) r.fbr 0 (cell (r.sp - k) (pa (following r).0))

-- "WRITECH .., which pops a CH and appends it to a lent output" (02 h)
abbrev pub shown : Registers → ℕ → Effect
shown r b = effect (r.pc + 1) (r.sp - 1) r.fbr 0 (byte b)

-- "STOP sets HALT and leaves PC."
abbrev pub halted : Registers → Effect
halted r = effect r.pc r.sp r.fbr 1 nothing
