-- Demand 3, as requests i and k have it. Demand 3: "From the latest accepted reset, with one program throughout, take any series of steps, limited runs and step-backs,
-- refused ones among them, with program, registers and memory handed back untouched between calls. If S steps (those inside runs too) and B step-backs were
-- accepted, ..". Request i: "Demand 3's series now has these calls too. If F is the sum of the k of those accepted, step-back is now refused exactly when S minus B
-- equals F (or H = 0). Demand 3's fresh run is now made with room for all its records ..". Request k: "demand 3 from then on reads "the latest reset or load", a fresh
-- load in place of a fresh reset, with S, B and F counted from there." Here is what they say, with request g's "How many steps can I take back?";
-- proofs/Demand3.antt and proofs/TakesBack.antt show it. Assumes nothing.
use Rattle.std.specs.Prelude.{ℕ, ◌+◌, ◌-◌, ◌≤◌, ◌<◌, min, ◌≡◌, true, ◌||◌, cond, List, [], ◌∷◌, map, length, take, drop, replicate, leb, ltb, eqb, Ok, Err, IsOk}
use Rattle.rules.specs.Table.{Program}
use Rattle.rules.specs.State.{Memory, steps_in_use, others, sound}
use Rattle.rules.specs.Numbers.{machine_number, forget_number, number_of_step, registers_after, number_of_forgot, registers_forgot}
use Rattle.rules.specs.Records.{records_in_use, whole_record, places_of}
use Rattle.rules.specs.Step.{Stepped, in_history, carried}
use Rattle.rules.specs.Step as Step
use Rattle.rules.specs.Back as Back
use Rattle.rules.specs.Run as Run
use Rattle.rules.specs.Reset as Reset
use Rattle.rules.specs.Forget as Forget
use Rattle.rules.specs.SavedState as SavedState
use Rattle.rules.specs.declared.Registers.{Registers}
use Rattle.rules.specs.declared.MachineRefusal.TheVariants.{NoHistory}
use Rattle.rules.specs.declared.ForgetRefusal.TheVariants.{TooManySteps}
use Rattle.rules.specs.declared.Step.{Step}
use Rattle.rules.specs.declared.Step.TheVariants.{Next, Refused}
use Rattle.rules.specs.Answers.{Forgot}
use Rattle.promises.specs.Unbounded.{Unbounded, unmoved, decided, moved}

-- ---- a series

-- what a technician asks of the machine: one step, a run with a limit, one step-back, to forget so many of the oldest kept steps
pub data Request : Type 0 where
  step : Request
  run : ℕ → Request
  back : Request
  forget : ℕ → Request

-- registers, the output's used count among them; and cells with their tags, history and output
pub record State : Type 0 where
  pub registers : Registers
  pub memory : Memory

-- of a run that keeps its records in a list of their own: the same machine, with no history
abbrev pub plain : Unbounded → State
plain x = record { registers = others x.registers; memory = record { cells = x.cells; history = []; output = x.output } }

-- what a run leaves
abbrev pub left_by_run : Run.Ran → State
left_by_run a = record { registers = a.answer.registers; memory = a.memory }

-- where a series stands, with S, the steps accepted, B, the step-backs accepted, and F, "the sum of the k of those accepted"
pub record Session : Type 0 where
  pub registers : Registers
  pub memory : Memory
  pub made : ℕ
  pub undone : ℕ
  pub forgotten : ℕ

abbrev pub state_of : Session → State
state_of s = record { registers = s.registers; memory = s.memory }

-- 1 for an answer that is no refusal, and k for a forget of k that is none
abbrev pub accepted : Step → ℕ
accepted (Next r) = 1
accepted (Refused e) = 0

abbrev pub accepted_of : ℕ → Forgot → ℕ
accepted_of k (Ok r) = k
accepted_of k (Err e) = 0

-- after a step, after a step-back, after a run, after a forget: a refused one leaves the registers as they were, and a run tells the steps it made
abbrev pub stepped : Session → Stepped → Session
stepped s o =
    record {
      registers = registers_after s.registers o.answer;
      memory = o.memory;
      made = s.made + accepted o.answer;
      undone = s.undone;
      forgotten = s.forgotten;
    }

abbrev pub backed : Session → Stepped → Session
backed s o =
    record {
      registers = registers_after s.registers o.answer;
      memory = o.memory;
      made = s.made;
      undone = s.undone + accepted o.answer;
      forgotten = s.forgotten;
    }

abbrev pub ran : Session → Run.Ran → Session
ran s a =
    record {
      registers = a.answer.registers;
      memory = a.memory;
      made = s.made + a.answer.steps;
      undone = s.undone;
      forgotten = s.forgotten;
    }

abbrev pub forgot : Session → ℕ → Forget.Forgets → Session
forgot s k o =
    record {
      registers = registers_forgot s.registers o.answer;
      memory = o.memory;
      made = s.made;
      undone = s.undone;
      forgotten = s.forgotten + accepted_of k o.answer;
    }

-- one request: exactly the definitions that the contracts of the public calls cite
abbrev pub ask : Program → Session → Request → Session
ask p s step = stepped s (Step.step p s.registers s.memory)
ask p s (run limit) = ran s (Run.run p limit s.registers s.memory)
ask p s back = backed s (Back.back p s.registers s.memory)
ask p s (forget k) = forgot s k (Forget.forget p k s.registers s.memory)

abbrev pub series : Program → List Request → Session → Session
series p [] s = s
series p (q ∷ qs) s = series p qs (ask p s q)

-- nothing is asked yet
abbrev pub begin : State → Session
begin o = record { registers = o.registers; memory = o.memory; made = 0; undone = 0; forgotten = 0 }

-- the same, with S, B and F counted from here on
abbrev pub from_here : Session → Session
from_here s = begin (state_of s)

-- k steps of the machine itself
abbrev pub afresh : Program → State → ℕ → Session
afresh p o k = series p (replicate k step) (begin o)

-- ---- where a series begins

-- what a reset leaves, and what a load leaves
abbrev pub left : Reset.Started → State
left o = record { registers = Reset.registers_begun o.answer; memory = o.memory }

abbrev pub left_by_load : SavedState.Loading → State
left_by_load o = record { registers = SavedState.registers_resumed o.answer; memory = o.memory }

-- "its other sizes the same": as many cells, tags and bytes of output, whatever they hold
pub record SameSizes (m m' : Memory) : Type 0 where
  pub bits : length m.cells.bits ≡ length m'.cells.bits
  pub tags : length m.cells.tags ≡ length m'.cells.tags
  pub output : length m.output ≡ length m'.output

-- The same start twice, with histories of any two lengths: what two resets leave that are accepted, or what two loads of one image leave that are accepted; of lent
-- memory of the same sizes but for its history. "The program handed to the load is demand 3's program from then on."
pub data SameStart (p : Program) (o t : State) : Type 0 where
  reset : (m m' : Memory) → IsOk (Reset.reset p m).answer → IsOk (Reset.reset p m').answer → SameSizes m m'
      → o ≡ left (Reset.reset p m) → t ≡ left (Reset.reset p m') → SameStart p o t
  load : (image : List ℕ) (m m' : Memory) → IsOk (SavedState.load image p m).answer → IsOk (SavedState.load image p m').answer → SameSizes m m'
      → o ≡ left_by_load (SavedState.load image p m) → t ≡ left_by_load (SavedState.load image p m') → SameStart p o t

-- of a machine, to run beside it without a history: no step is made
abbrev pub fresh : State → Unbounded
fresh o = unmoved o.registers o.memory

-- An origin o, "the latest reset or load", and x, where the fresh run beside it begins: at the same start, made again, whose history x does without
pub record Origin (p : Program) (o : State) (x : Unbounded) : Type 0 where
  pub other : State
  pub start : SameStart p o other
  pub begins : x ≡ fresh other

-- ---- what is promised

-- S minus B, and S minus B minus F
abbrev pub ahead : Session → ℕ
ahead s = s.made - s.undone

abbrev pub remembered : Session → ℕ
remembered s = s.made - s.undone - s.forgotten

-- "Demand 3's fresh run": S minus B steps "with room for all its records"
abbrev pub fresh_run : Program → Unbounded → Session → Unbounded
fresh_run p x s = moved p (ahead s) x

-- what is promised of a session s that began at the origin o, beside the fresh run from x
pub record Promised (p : Program) (o : State) (x : Unbounded) (s : Session) : Type 0 where
  -- no more is taken back and forgotten than was made
  pub within : s.undone + s.forgotten ≤ s.made
  -- each step of the fresh run is accepted
  pub steps : length (fresh_run p x s).records ≡ ahead s
  -- "Cells, tags, registers other than H, U and the kept number, and output equal that run's"
  pub cells : s.memory.cells ≡ (fresh_run p x s).cells
  pub registers : others s.registers ≡ others (fresh_run p x s).registers
  pub output : s.memory.output ≡ (fresh_run p x s).output
  -- "H stays as it began."
  pub h : s.registers.h ≡ o.registers.h
  -- "With H above 0, the first U places are exactly the newest S minus B minus F records of that run"
  pub history : 0 < s.registers.h → take s.registers.used s.memory.history ≡ places_of (take (remembered s) (fresh_run p x s).records)
  -- "and the other places are zero"
  pub rest : drop s.registers.used s.memory.history ≡ replicate (s.registers.h - s.registers.used) 0
  -- "with H = 0 there is no history and U is 0."
  pub none : s.registers.h ≡ 0 → (s.memory.history ≡ []) × (s.registers.used ≡ 0)
  -- "The kept number, with H above 0, is now S minus B minus F.", and 0 with H = 0 (02 g)
  pub kept : s.registers.kept ≡ cond (ltb 0 s.registers.h) (remembered s) 0
  -- it "equals the number of step places in use in every state reached" (02 g)
  pub in_use : s.registers.kept ≡ steps_in_use s.registers s.memory
  -- and cutting the used places finds that many records, the newest of the run
  pub records : map whole_record (records_in_use s.registers s.memory) ≡ take s.registers.kept (fresh_run p x s).records
  -- "step-back is now refused exactly when S minus B equals F (or H = 0)": with 9; else it is done, with 0
  pub refused : number_of_step (Back.back p s.registers s.memory).answer
      ≡ cond (eqb s.registers.h 0 || eqb (ahead s) s.forgotten) (machine_number NoHistory) 0
  -- "the room gained, which later steps use": the next step is what that run does next, where H less U places are enough for its record or there is no history; else
  -- it is 8
  pub next : Step.step p s.registers s.memory
      ≡ carried s.registers s.memory (in_history s.registers (decided p (fresh_run p x s)))
  -- a forget is refused exactly "when k is above the kept number", with 14; else it is done, with 0
  pub forgets : (k : ℕ) → number_of_forgot (Forget.forget p k s.registers s.memory).answer
      ≡ cond (leb k s.registers.kept) 0 (forget_number TooManySteps)
  -- no such state is broken, neither that of the run nor that of the session
  pub run_sound : sound p (plain (fresh_run p x s)).registers (plain (fresh_run p x s)).memory ≡ true
  pub sound : sound p s.registers s.memory ≡ true

-- request g: "How many steps can I take back?" Of so many step-backs one after the other, the kept number is accepted, or all of them where they are fewer
abbrev pub TakesBack : Program → Session → Type 0
TakesBack p s = (k : ℕ) → (series p (replicate k back) s).undone ≡ s.undone + min k s.registers.kept
