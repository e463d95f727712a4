-- Request k. "Saving and loading again keeps cells, tags, written output and registers, except that U and the kept number become 0 and H is the lent history's.", and
-- "only with the same one does the saved session go on", the program. Here is what is promised of a state that is saved and of the state that its image is loaded as;
-- proofs/Carried.antt and proofs/GoesOn.antt show it. Assumes nothing.
use Rattle.std.specs.Prelude.{ℕ, ◌-◌, ◌^◌, ◌≤◌, ◌<◌, ◌≡◌, List, ◌++◌, length, get_or, take, drop, replicate, Ok, IsOk}
use Rattle.rules.specs.Sizes.{max_history, max_output, state_size}
use Rattle.rules.specs.Table.{Program}
use Rattle.rules.specs.State.{Memory, registers_holding, others}
use Rattle.rules.specs.Numbers.{machine_number, number_of_step, length_of_saved}
use Rattle.rules.specs.Step as Step
use Rattle.rules.specs.SavedState.{Saving, save, load}
use Rattle.rules.specs.declared.Registers.{Registers}
use Rattle.rules.specs.declared.MachineRefusal.TheVariants.{HistoryFull}
use Rattle.rules.specs.declared.Step.{Step}
use Rattle.promises.specs.Series.{State, state_of, left_by_load, afresh}

-- ---- saving and loading again

-- what lent slices hold by their types: every cell 32 bits, every byte of output 8
pub record Typed (m : Memory) : Type 0 where
  pub cells : (k : ℕ) → get_or m.cells.bits k 0 < 2 ^ 32
  pub bytes : (k : ℕ) → get_or m.output k 0 < 2 ^ 8

-- "Loading needs lent slices of the saved N", a history and an output within their ranges, and room for the bytes that are written
pub record RoomFor (r : Registers) (m : Memory) : Type 0 where
  pub bits : length m.cells.bits ≡ r.n
  pub tags : length m.cells.tags ≡ r.n
  pub history : length m.history ≤ max_history
  pub output : length m.output ≤ max_output
  pub room : r.written ≤ length m.output

-- the bytes that a save tells of: no more is loaded again
abbrev pub told_image : Saving → List ℕ
told_image o = take (length_of_saved o.answer) o.image

-- "keeps cells, tags, written output and registers, except that U and the kept number become 0 and H is the lent history's"; "It zeroes the history and the output's
-- rest"
abbrev pub carried_to : Memory → Registers → Memory → State
carried_to lent r m =
    record {
      registers = registers_holding (length lent.history) 0 0 r;
      memory =
          record {
            cells = m.cells;
            history = replicate (length lent.history) 0;
            output = take r.written m.output ++ replicate (length lent.output - r.written) 0;
          };
    }

-- what is promised of a state that is saved into a lent image, and loaded again into lent memory
pub record CarriedOver (p : Program) (r : Registers) (m : Memory) (image : List ℕ) (lent : Memory) : Type 0 where
  -- the save is accepted, and the length told is within the lent image
  pub saves : (save p r m image).answer ≡ Ok (length (told_image (save p r m image)))
  pub fits : length (told_image (save p r m image)) ≤ state_size
  -- and so is the load
  pub loads : IsOk (load (told_image (save p r m image)) p lent).answer
  pub keeps : left_by_load (load (told_image (save p r m image)) p lent) ≡ carried_to lent r m

-- ---- the saved session goes on

-- nothing stands behind the bytes that are written, as in every session: so a load leaves the whole output as it was
abbrev pub Unwritten : Registers → Memory → Type 0
Unwritten r m = drop r.written m.output ≡ replicate (length m.output - r.written) 0

-- the answer of the step after i steps
abbrev pub answer_after : Program → State → ℕ → Step
answer_after p o i = (Step.step p (afresh p o i).registers (afresh p o i).memory).answer

-- an answer is not 8
abbrev pub NotEight : Step → Type 0
NotEight a = number_of_step a ≡ machine_number HistoryFull → ⊥

abbrev pub RoomAfter : Program → State → ℕ → Type 0
RoomAfter p o i = NotEight (answer_after p o i)

-- the same cells and tags, the same registers but for H, U and the kept number, and the same bytes written in outputs of one length
pub record SameShown (s t : State) : Type 0 where
  pub cells : s.memory.cells ≡ t.memory.cells
  pub registers : others s.registers ≡ others t.registers
  pub size : length s.memory.output ≡ length t.memory.output
  pub written : take s.registers.written s.memory.output ≡ take s.registers.written t.memory.output

-- what is promised of two machines: until one of them answers 8, they show the same after each step, the whole output where they began with the same, and answer it
-- alike
pub record GoesOn (p : Program) (s t : State) : Type 0 where
  pub shown : (k : ℕ) → ((i : ℕ) → i < k → RoomAfter p s i × RoomAfter p t i) → SameShown (state_of (afresh p s k)) (state_of (afresh p t k))
  pub outputs : s.memory.output ≡ t.memory.output → (k : ℕ) → ((i : ℕ) → i < k → RoomAfter p s i × RoomAfter p t i)
      → (afresh p s k).memory.output ≡ (afresh p t k).memory.output
  pub answers : (k : ℕ) → ((i : ℕ) → i ≤ k → RoomAfter p s i × RoomAfter p t i) → number_of_step (answer_after p s k) ≡ number_of_step (answer_after p t k)
