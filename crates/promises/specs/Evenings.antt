-- Request n: evenings worked by hand from its words, with histories of different room beside one another, and runs with different limits; antt computes what
-- specs/Rooms.antt compares. A step's record takes as many places as it writes cells, and one. Assumes nothing.
use Rattle.std.specs.Prelude.{ℕ, zero, suc, ◌≡◌, refl, Bool, true, ◌&&◌, List, [], ◌∷◌, length, replicate, eqb}
use Prim.Native.String.{String}
use Rattle.std.proofs.Common.{sym, ◌∙◌, arith}
use Rattle.rules.specs.Lists.{every}
use Rattle.rules.specs.Sizes.{max_history, state_size}
use Rattle.rules.specs.Tags.{INT, FLOAT, MA}
use Rattle.rules.specs.Table.{Program}
use Rattle.rules.specs.State.{Memory, memory}
use Rattle.rules.specs.Numbers.{number_of_step}
use Rattle.rules.specs.Step as Step
use Rattle.rules.specs.Run.{Ran, ended}
use Rattle.rules.specs.Reset.{reset}
use Rattle.rules.specs.SavedState.{save, load}
use Rattle.rules.specs.SavedState as SavedState
use Rattle.rules.specs.Records as Records
use Rattle.rules.specs.Forget as Forget
use Rattle.rules.specs.Examples.{program_of, holds}
use Rattle.rules.specs.declared.MachineRefusal.TheVariants.{TooFewValues, Broken}
use Rattle.rules.specs.declared.Ending.TheVariants.{Stopped}
use Rattle.promises.specs.Series.{Request, step, run, back, forget, State, state_of, series, begin, afresh, left, left_by_load, SameStart, reset as fromTwoResets, load as fromTwoLoads, ahead}
use Rattle.promises.specs.Carried.{told_image}
use Rattle.promises.specs.Rooms.{without_history, number_after, AnswerAlike, end_number, run_of}

-- ---- where an evening begins

abbrev lent : (n h output : ℕ) → Memory
lent n h output = memory (replicate n 0) (replicate n 0) (replicate h 0) (replicate output 0)

-- a reset, with N cells, H history places and so many bytes of output
abbrev from_reset : Program → (n h output : ℕ) → State
from_reset p n h output = left (reset p (lent n h output))

-- the image that is saved after two steps of a machine with 16 cells, no history and two bytes of output; and a load of it
abbrev saved : Program → List ℕ
saved p = let s = afresh p (from_reset p 16 0 2) 2 in told_image (save p s.registers s.memory (replicate state_size 0))

abbrev from_load : Program → (h : ℕ) → State
from_load p h = left_by_load (load (saved p) p (lent 16 h 2))

-- ---- what is seen of it

-- the answers from the i-th step on
abbrev answers_from : Program → State → (i : ℕ) → List ℕ → Bool
answers_from p o i [] = true
answers_from p o i (number ∷ numbers) = eqb (number_after p o i) number && answers_from p o (suc i) numbers

abbrev answers : (n h output : ℕ) → String → List ℕ → Bool
answers n h output source = let p = program_of source in answers_from p (from_reset p n h output) 0

abbrev answers_on : (h : ℕ) → String → List ℕ → Bool
answers_on h source = let p = program_of source in answers_from p (from_load p h) 0

-- after so many steps with 16 cells, a run with that limit: the number that it ends with, and its steps
abbrev runs : (h : ℕ) → String → (before limit number steps : ℕ) → Bool
runs h source before limit number steps =
    let p = program_of source in
    let a = run_of p (afresh p (from_reset p 16 h 0) before) limit in
    eqb (end_number a) number && eqb a.answer.steps steps

-- and after these requests: S minus B, and the answer of the next step
abbrev after_all : (h : ℕ) → String → List Request → (far number : ℕ) → Bool
after_all h source qs far number =
    let p = program_of source in
    let s = series p qs (begin (from_reset p 16 h 0)) in
    eqb (ahead s) far && eqb (number_of_step (Step.step p s.registers s.memory).answer) number

unfoldable pub evenings : List Bool
evenings =
    -- seven places for four steps, and then 1: the same with no history, with the most, and with just enough; with less, 8 where the others are done, and again
    answers 16 0 0 "PUSHIMM 1 PUSHIMM 2 ADD STOP" (0 ∷ 0 ∷ 0 ∷ 0 ∷ 1 ∷ 1 ∷ [])
    ∷ answers 16 max_history 0 "PUSHIMM 1 PUSHIMM 2 ADD STOP" (0 ∷ 0 ∷ 0 ∷ 0 ∷ 1 ∷ 1 ∷ [])
    ∷ answers 16 7 0 "PUSHIMM 1 PUSHIMM 2 ADD STOP" (0 ∷ 0 ∷ 0 ∷ 0 ∷ 1 ∷ 1 ∷ [])
    ∷ answers 16 6 0 "PUSHIMM 1 PUSHIMM 2 ADD STOP" (0 ∷ 0 ∷ 0 ∷ 8 ∷ 8 ∷ 8 ∷ [])
    ∷ answers 16 5 0 "PUSHIMM 1 PUSHIMM 2 ADD STOP" (0 ∷ 0 ∷ 8 ∷ 8 ∷ 8 ∷ 8 ∷ [])
    ∷ answers 16 1 0 "PUSHIMM 1 PUSHIMM 2 ADD STOP" (8 ∷ 8 ∷ [])
    -- one saved state, after two of these steps
    ∷ answers_on 0 "PUSHIMM 1 PUSHIMM 2 ADD STOP" (0 ∷ 0 ∷ 1 ∷ 1 ∷ [])
    ∷ answers_on 3 "PUSHIMM 1 PUSHIMM 2 ADD STOP" (0 ∷ 0 ∷ 1 ∷ 1 ∷ [])
    ∷ answers_on 2 "PUSHIMM 1 PUSHIMM 2 ADD STOP" (0 ∷ 8 ∷ 8 ∷ 8 ∷ [])
    ∷ answers_on 1 "PUSHIMM 1 PUSHIMM 2 ADD STOP" (8 ∷ 8 ∷ [])
    -- one that has halted, and one that has written
    ∷ answers_on 0 "PUSHIMM 1 STOP" (1 ∷ 1 ∷ [])
    ∷ answers_on 1 "PUSHIMM 1 STOP" (1 ∷ 1 ∷ [])
    ∷ answers_on 0 "PUSHIMMCH 65 WRITECH PUSHIMMCH 66 WRITECH DUP" (0 ∷ 0 ∷ 3 ∷ [])
    ∷ answers_on 3 "PUSHIMMCH 65 WRITECH PUSHIMMCH 66 WRITECH DUP" (0 ∷ 0 ∷ 3 ∷ [])
    ∷ answers_on 2 "PUSHIMMCH 65 WRITECH PUSHIMMCH 66 WRITECH DUP" (0 ∷ 8 ∷ 8 ∷ [])
    -- a refusal is the same with no place left: 5, 7 and 12 are no matter of the history
    ∷ answers 16 0 0 "PUSHIMM 1 PUSHIMM 0 DIV" (0 ∷ 0 ∷ 5 ∷ 5 ∷ [])
    ∷ answers 16 4 0 "PUSHIMM 1 PUSHIMM 0 DIV" (0 ∷ 0 ∷ 5 ∷ 5 ∷ [])
    ∷ answers 16 3 0 "PUSHIMM 1 PUSHIMM 0 DIV" (0 ∷ 8 ∷ 8 ∷ 8 ∷ [])
    ∷ answers 2 0 0 "PUSHIMM 1 PUSHIMM 2" (0 ∷ 7 ∷ 7 ∷ [])
    ∷ answers 2 2 0 "PUSHIMM 1 PUSHIMM 2" (0 ∷ 7 ∷ 7 ∷ [])
    ∷ answers 2 1 0 "PUSHIMM 1 PUSHIMM 2" (8 ∷ 8 ∷ [])
    ∷ answers 16 0 1 "PUSHIMMCH 65 WRITECH PUSHIMMCH 66 WRITECH" (0 ∷ 0 ∷ 0 ∷ 12 ∷ 12 ∷ [])
    ∷ answers 16 5 1 "PUSHIMMCH 65 WRITECH PUSHIMMCH 66 WRITECH" (0 ∷ 0 ∷ 0 ∷ 12 ∷ 12 ∷ [])
    ∷ answers 16 4 1 "PUSHIMMCH 65 WRITECH PUSHIMMCH 66 WRITECH" (0 ∷ 0 ∷ 8 ∷ 8 ∷ 8 ∷ [])
    -- and so is what is done: a cell that PUSHIND reaches, with four places used
    ∷ answers 16 0 0 "PUSHIMM 5 PUSHFBR PUSHIND" (0 ∷ 0 ∷ 0 ∷ 2 ∷ [])
    ∷ answers 16 6 0 "PUSHIMM 5 PUSHFBR PUSHIND" (0 ∷ 0 ∷ 0 ∷ 2 ∷ [])
    ∷ answers 16 5 0 "PUSHIMM 5 PUSHFBR PUSHIND" (0 ∷ 0 ∷ 8 ∷ 8 ∷ [])
    -- a machine without a history goes on beside one that has no place left
    ∷ answers 16 0 0 "JUMP 0" (0 ∷ 0 ∷ 0 ∷ 0 ∷ [])
    ∷ answers 16 3 0 "JUMP 0" (0 ∷ 0 ∷ 0 ∷ 8 ∷ [])
    -- a larger limit may change a 50 and nothing else: from the first limit that gives 0, 3 or 8 on, every larger one gives the same after the same number of steps;
    -- the refused step is not counted
    ∷ runs 0 "JUMP 0" 0 0 50 0
    ∷ runs 0 "PUSHIMM 1 STOP" 0 1 50 1
    ∷ runs 0 "PUSHIMM 1 STOP" 0 2 0 2
    ∷ runs 0 "PUSHIMM 1 STOP" 0 3 0 2
    ∷ runs 0 "PUSHIMM 1 STOP" 0 1_000_000 0 2
    ∷ runs 0 "PUSHIMM 1 ADD" 0 1 50 1
    ∷ runs 0 "PUSHIMM 1 ADD" 0 2 3 1
    ∷ runs 0 "PUSHIMM 1 ADD" 0 3 3 1
    ∷ runs 0 "PUSHIMM 1 ADD" 0 1_000_000 3 1
    ∷ runs 3 "JUMP 0" 0 3 50 3
    ∷ runs 3 "JUMP 0" 0 4 8 3
    ∷ runs 3 "JUMP 0" 0 1_000_000 8 3
    -- a machine that has halted: 0 with no step, whatever the limit
    ∷ runs 0 "PUSHIMM 1 STOP" 2 0 0 0
    ∷ runs 0 "PUSHIMM 1 STOP" 2 1_000_000 0 0
    -- the same limit beside another history: the same while there is room, and where there is none 8
    ∷ runs 3 "PUSHIMM 1 STOP" 0 1_000_000 0 2
    ∷ runs 2 "PUSHIMM 1 STOP" 0 1_000_000 8 1
    ∷ runs 2 "PUSHIMM 1 ADD" 0 1_000_000 3 1
    ∷ runs 0 "JUMP 0" 0 4 50 4
    ∷ runs 4 "JUMP 0" 0 4 50 4
    -- "a limit above 1,000,000" is 11 beside any history
    ∷ runs 0 "JUMP 0" 0 1_000_001 11 0
    ∷ runs 4 "JUMP 0" 0 1_000_001 11 0
    -- in the middle of an evening, four steps ahead: with three places after an 8, a forget and a step; with eight after a step-back and a run; with none
    ∷ after_all 3 "JUMP 0" (step ∷ step ∷ step ∷ step ∷ forget 1 ∷ step ∷ []) 4 8
    ∷ after_all 8 "JUMP 0" (step ∷ step ∷ step ∷ back ∷ run 2 ∷ []) 4 0
    ∷ after_all 0 "JUMP 0" (step ∷ step ∷ step ∷ step ∷ []) 4 0
    ∷ []

pub all_evenings : every evenings ≡ true
unfolding evenings holds Records.cut_down Forget.forget SavedState.state_bits SavedState.save SavedState.registers_in SavedState.column_in SavedState.bytes_in SavedState.entry SavedState.load
all_evenings = refl

-- ---- what both hold

-- a machine without a history: PC, SP, FBR, HALT and the output's count, the cells with their tags, and the output; N is the number of cells
abbrev by_hand : (pc sp fbr halt written : ℕ) → (bits tags output : List ℕ) → State
by_hand pc sp fbr halt written bits tags output =
    record {
      registers = record { n = length bits; h = 0; pc = pc; sp = sp; fbr = fbr; halt = halt; used = 0; kept = 0; written = written };
      memory = memory bits tags [] output;
    }

-- four cells, a byte written of two, a frame, and STOP: eight places for five steps
abbrev panel : Program
panel = program_of "PUSHIMM 7 PUSHIMMCH 66 WRITECH LINK STOP"

abbrev held : State
held = by_hand 4 2 1 1 1 (7 ∷ 0 ∷ 0 ∷ 0 ∷ []) (INT ∷ MA ∷ INT ∷ INT ∷ []) (66 ∷ 0 ∷ [])

-- with no history, with just enough, and with the most
pub same_held : (without_history (state_of (afresh panel (from_reset panel 4 0 2) 5)) ≡ held)
    × (without_history (state_of (afresh panel (from_reset panel 4 8 2) 5)) ≡ held)
    × (without_history (state_of (afresh panel (from_reset panel 4 max_history 2) 5)) ≡ held)
unfolding holds
same_held = (refl, refl, refl)

-- the complaint: the 40 tenths, and 2.5 seconds that are stored over them; with the store taken back it holds what two steps without a history do
abbrev complaint : Program
complaint = program_of "PUSHIMM 40 PUSHIMMF #40200000 STOREOFF 0"

abbrev tenths : State
tenths = by_hand 2 2 0 0 0 (40 ∷ 0x40200000 ∷ 0 ∷ 0 ∷ []) (INT ∷ FLOAT ∷ INT ∷ INT ∷ []) []

pub same_taken_back : (without_history (state_of (series complaint (step ∷ step ∷ step ∷ back ∷ []) (begin (from_reset complaint 4 8 0)))) ≡ tenths)
    × (without_history (state_of (afresh complaint (from_reset complaint 4 0 0) 2)) ≡ tenths)
unfolding holds
same_taken_back = (refl, refl)

-- ---- what is asked of two machines can be met

-- the same start with no history and with the most, or with three places: by resets, and by loads of one image
pub starts : SameStart panel (from_reset panel 4 0 2) (from_reset panel 4 max_history 2) × SameStart panel (from_load panel 0) (from_load panel 3)
unfolding holds SavedState.state_bits SavedState.save SavedState.registers_in SavedState.column_in SavedState.bytes_in SavedState.entry SavedState.load
starts = (
  fromTwoResets (lent 4 0 2) (lent 4 max_history 2) refl refl (record { bits = refl; tags = refl; output = refl }) refl refl,
  fromTwoLoads (saved panel) (lent 16 0 2) (lent 16 3 2) refl refl (record { bits = refl; tags = refl; output = refl }) refl refl,
)

-- three steps that are answered alike, before the fourth, which is not
abbrev sum : Program
sum = program_of "PUSHIMM 1 PUSHIMM 2 ADD STOP"

both_done : {one other : ℕ} → one ≡ 0 → other ≡ 0 → one ≡ other
both_done e f = e ∙ sym f

pub three_alike : AnswerAlike sum (from_reset sum 16 7 0) (from_reset sum 16 6 0) 3
unfolding holds
three_alike zero low = both_done refl refl
three_alike (suc zero) low = both_done refl refl
three_alike (suc (suc zero)) low = both_done refl refl
three_alike (suc (suc (suc i))) low = absurd (let z : ⊥ = omega (arith, low) in z)

-- ---- larger limits, and all that is left

-- just enough, and the most: 3 after one step, in two cells
abbrev few : Program
few = program_of "PUSHIMM 1 ADD"

abbrev few_left : State
few_left = by_hand 1 1 0 0 0 (1 ∷ 0 ∷ []) (INT ∷ INT ∷ []) []

abbrev few_ended : Ran
few_ended = ended 1 (Stopped TooFewValues) few_left.registers few_left.memory

pub same_run : (run_of few (begin (from_reset few 2 0 0)) 2 ≡ few_ended) × (run_of few (begin (from_reset few 2 0 0)) 1_000_000 ≡ few_ended)
unfolding holds
same_run = (refl, refl)

-- a broken state, SP at N, with two limits in range
abbrev broken : State
broken = by_hand 0 1 0 0 0 (0 ∷ []) (INT ∷ []) []

pub same_broken : (run_of sum (begin broken) 1 ≡ ended 0 (Stopped Broken) broken.registers broken.memory)
    × (run_of sum (begin broken) 1_000_000 ≡ ended 0 (Stopped Broken) broken.registers broken.memory)
unfolding holds
same_broken = (refl, refl)
