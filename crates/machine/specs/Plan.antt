-- What a plan means: the rules' decision, given the cells as they stand. Assumes nothing.
use Rattle.std.specs.Prelude.{ℕ, ◌+◌, ◌-◌, ◌≡◌, None, Result, Ok, Err}
use Rattle.rules.specs.Tags.{int, ma, pa}
use Rattle.rules.specs.Cells.{Cells, cell_at}
use Rattle.rules.specs.Effects.{Written, nothing, cell, pair, byte, effect}
use Rattle.rules.specs.Step.{in_stack}
use Rattle.rules.specs.declared.Cell.{Cell}
use Rattle.rules.specs.declared.MemoryAddress.{MemoryAddress}
use Rattle.rules.specs.declared.ProgramAddress.{ProgramAddress}
use Rattle.rules.specs.declared.Registers.{Registers}
use Rattle.rules.specs.declared.Effect.{Effect}
use Rattle.rules.specs.Answers.{Decision}
use Rattle.rules.specs.declared.MachineRefusal.{MachineRefusal}
use Rattle.machine.specs.declared.plans.Plan.{Plan}
use Rattle.machine.specs.declared.plans.Plan.TheVariants.{Jump, Move, Frame, Halt, Push, Store, Call, Link, Swap, Fill, Show}

-- the cell that is so many below SP
abbrev pub below : Registers → Cells → ℕ → Cell
below r c k = cell_at c (record { 0 = r.sp - k })

-- ---- the effects, one for each plan, in three groups: no cell is written

abbrev pub jumps : Registers → (sp : ℕ) → ProgramAddress → Effect
jumps r sp target = effect target.0 sp r.fbr 0 nothing

abbrev pub frames : Registers → (sp : ℕ) → MemoryAddress → Effect
frames r sp fbr = effect (r.pc + 1) sp fbr.0 0 nothing

abbrev pub halts : Registers → Effect
halts r = effect r.pc r.sp r.fbr 1 nothing

-- ---- one cell is

abbrev pub pushes : Registers → (at : ℕ) → Cell → Effect
pushes r at c = effect (r.pc + 1) (at + 1) r.fbr 0 (cell at c)

abbrev pub stores : Registers → Cells → (sp : ℕ) → MemoryAddress → Effect
stores r c sp at = effect (r.pc + 1) sp r.fbr 0 (cell at.0 (below r c 1))

abbrev pub calls : Registers → (at : ℕ) → ProgramAddress → Effect
calls r at target = effect target.0 (at + 1) r.fbr 0 (cell at (pa (r.pc + 1)))

abbrev pub links : Registers → Effect
links r = effect (r.pc + 1) (r.sp + 1) r.sp 0 (cell r.sp (ma r.fbr))

-- ---- two cells are, or any number of INT 0

abbrev pub swaps : Registers → Cells → Effect
swaps r c = effect (r.pc + 1) r.sp r.fbr 0 (pair (r.sp - 2) (below r c 1) (below r c 2))

abbrev pub zeros_at : ℕ → ℕ → Written
zeros_at a n = record { at = a; count = n; first = int 0; second = int 0; shows = None }

abbrev pub moves : Registers → (sp from : ℕ) → Effect
moves r sp from = effect (r.pc + 1) sp r.fbr 0 (zeros_at from 0)

abbrev pub fills : Registers → (sp from : ℕ) → Effect
fills r sp from = effect (r.pc + 1) sp r.fbr 0 (zeros_at from (sp - from))

-- ---- no cell is, but a byte

abbrev pub shows : Registers → (sp character : ℕ) → Effect
shows r sp character = effect (r.pc + 1) sp r.fbr 0 (byte character)

-- ---- each plan

abbrev pub effect_of : Registers → Cells → Plan → Effect
effect_of r c (Jump sp target) = jumps r sp target
effect_of r c (Move sp from) = moves r sp from
effect_of r c (Frame sp fbr) = frames r sp fbr
effect_of r c Halt = halts r
effect_of r c (Push at d) = pushes r at d
effect_of r c (Store sp at) = stores r c sp at
effect_of r c (Call at target) = calls r at target
effect_of r c Link = links r
effect_of r c Swap = swaps r c
effect_of r c (Fill sp from) = fills r sp from
effect_of r c (Show sp character) = shows r sp character

unfoldable pub planned : Registers → Cells → Result Plan MachineRefusal → Decision
planned r c (Ok d) = Ok (effect_of r c d)
planned r c (Err e) = Err e

-- a plan that means the decision, with 7 asked of it, whatever stands in the cells
abbrev pub Means : Registers → Result Plan MachineRefusal → Decision → Type 0
Means r d x = (c : Cells) → planned r c d ≡ in_stack r x
