-- Request i: the fresh run, whose room no refusal judges, does what `step` does wherever a history has room. proofs/Agrees.antt and
-- proofs/KeepsUp.antt show it. Assumes nothing.
use Rattle.std.specs.Prelude.{ℕ, ◌≤◌, ◌<◌, ◌≡◌, length, take, Ok, Err}
use Rattle.rules.specs.Table.{Program}
use Rattle.rules.specs.State.{others}
use Rattle.rules.specs.Commit.{record_of, registers_of, memory_of}
use Rattle.rules.specs.Records.{places_of}
use Rattle.rules.specs.Step.{in_history, carried}
use Rattle.rules.specs.Step as Step
use Rattle.rules.specs.declared.Effect.{Effect}
use Rattle.rules.specs.declared.MachineRefusal.TheVariants.{HistoryFull}
use Rattle.promises.specs.Unbounded.{Unbounded, moves, decided, moved}
use Rattle.promises.specs.Series.{State, state_of, afresh}

-- a machine in whose state "Cells, tags, registers other than H, U and the kept number, and output equal that run's"
pub record Alike (x : Unbounded) (s : State) : Type 0 where
  pub registers : others s.registers ≡ others x.registers
  pub cells : s.memory.cells ≡ x.cells
  pub output : s.memory.output ≡ x.output

-- what a step of such a machine does
pub record Agrees (p : Program) (x : Unbounded) (s : State) : Type 0 where
  -- what the run decides, asked for room and carried out: so it is done wherever there is room, or no history, and 8 where there is none; else the run's refusal
  pub steps : Step.step p s.registers s.memory ≡ carried s.registers s.memory (in_history s.registers (decided p x))
  -- which is never an 8
  pub never : decided p x ≡ Err HistoryFull → ⊥
  -- what is done keeps the same record, and leaves the same again
  pub keeps : (e : Effect) → record_of s.registers s.memory.cells e ≡ record_of x.registers x.cells e
  pub leaves : (e : Effect)
      → Alike (moves x (Ok e)) (record { registers = registers_of s.registers e; memory = memory_of s.registers s.memory e })

-- of a machine that begins at o: the run y makes k steps, and there is room for all their records, or no history
pub record HasRoom (o : State) (y : Unbounded) (k : ℕ) : Type 0 where
  pub made : length y.records ≡ k
  pub fits : 0 < o.registers.h → length (places_of y.records) ≤ o.registers.h

-- k steps of the machine that begins alike: each is accepted, and they leave what the run leaves, with all its records where there is a history
pub record KeepsUp (p : Program) (o : State) (x : Unbounded) (k : ℕ) : Type 0 where
  pub made : (afresh p o k).made ≡ k
  pub alike : Alike (moved p k x) (state_of (afresh p o k))
  pub history : 0 < o.registers.h → take (afresh p o k).registers.used (afresh p o k).memory.history ≡ places_of (moved p k x).records
