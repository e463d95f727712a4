-- What an effect has to be, so that what it makes of a sound state is sound again: the statements that step, run and step-back lean on.
-- Assumes nothing.
use Rattle.std.specs.Prelude.{Option, Some, None, Ok}
use Prim.Native.Nat.{ℕ, ◌+◌, ◌-◌, ◌^◌, ◌≤◌, ◌<◌}
use mathlib.Core.Path.{◌≡◌}
use mathlib.Core.Bool.{true}
use mathlib.Core.List.{List}
use lib.ListN.{get_or, length, drop, replicate}
use Rattle.rules.specs.Sizes.{max_cells, max_history, max_output, max_character}
use Rattle.rules.specs.Table.{Program, sound_table}
use Rattle.rules.specs.Tags.{PA, CH}
use Rattle.rules.specs.State.{Memory}
use Rattle.rules.specs.Commit.{room_on, room_for}
use Rattle.rules.specs.Step.{decide_at}
use Rattle.rules.specs.declared.Cell.{Cell}
use Rattle.rules.specs.declared.Effect.{Effect}
use Rattle.rules.specs.declared.Registers.{Registers}

-- a cell that a sound state may hold
pub record FairCell (count : ℕ) (c : Cell) : Type 0 where
  pub tag : c.tag ≤ CH
  pub pa : c.tag ≡ PA → c.bits ≤ count
  pub ch : c.tag ≡ CH → c.bits ≤ max_character

-- each cell of these tags and bits; past their end there is INT 0
abbrev pub FairCells : ℕ → List ℕ → List ℕ → Type 0
FairCells count ts bs = (k : ℕ) → FairCell count (record { bits = get_or bs k 0; tag = get_or ts k 0 })

-- what the tests of a sound state say, each by its name
pub record Sound (p : Program) (r : Registers) (m : Memory) : Type 0 where
  pub table : sound_table p ≡ true
  pub some : 1 ≤ r.n
  pub few : r.n ≤ max_cells
  pub short : r.h ≤ max_history
  pub bits : length m.cells.bits ≡ r.n
  pub tags : length m.cells.tags ≡ r.n
  pub history : length m.history ≡ r.h
  pub sp : r.sp < r.n
  pub fbr : r.fbr < r.n
  pub pc : r.pc ≤ p.count
  pub halt : r.halt ≤ 1
  pub used : r.used ≤ r.h
  pub kept : r.kept ≤ r.used
  pub none : r.kept ≡ 0 → r.used ≡ 0
  pub shown : length m.output ≤ max_output
  pub written : r.written ≤ length m.output
  pub cells : FairCells p.count m.cells.tags m.cells.bits

-- what is so where a step is accepted with the effect e
pub record Going (p : Program) (r : Registers) (m : Memory) (e : Effect) : Type 0 where
  pub running : r.halt ≡ 0
  pub inside : r.pc ≡ p.count → ⊥
  pub sp : e.sp < r.n
  pub panel : room_on (length m.output) r.written e.shows ≡ true
  pub room : room_for r e ≡ true
  pub decides : decide_at r m.cells (get_or p.places r.pc 0) ≡ Ok e

-- what is shown is a character
abbrev pub FairByte : Option ℕ → Type 0
FairByte None = Unit {0}
FairByte (Some b) = b ≤ max_character

-- the written cells lie within N, the new registers within their ranges, and what is written may be held
pub record Fair (p : Program) (r : Registers) (e : Effect) : Type 0 where
  pub fits : e.at + e.count ≤ r.n
  pub pc : e.pc ≤ p.count
  pub sp : e.sp < r.n
  pub fbr : e.fbr < r.n
  pub halt : e.halt ≤ 1
  pub first : FairCell p.count e.first
  pub second : FairCell p.count e.second
  pub shows : FairByte e.shows

-- every cell has 32 bits, as every lent slice of them has
abbrev pub Narrow : Memory → Type 0
Narrow m = (k : ℕ) → get_or m.cells.bits k 0 < 2 ^ 32

-- the places that no record uses, and the bytes behind those written, are zero, as a reset leaves them
pub record Blank (r : Registers) (m : Memory) : Type 0 where
  pub history : drop r.used m.history ≡ replicate (r.h - r.used) 0
  pub output : drop r.written m.output ≡ replicate (length m.output - r.written) 0
