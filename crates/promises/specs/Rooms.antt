-- Request n: "More room, same evening. A site that turned history on asked whether its tuning could differ."
--
-- It cannot, but for this: a machine whose history has too few free places for its next step answers 8, and stands still until steps are taken back or forgotten.
--
-- Two machines get the same program, the same number of cells and an output of the same length. Both are reset, or one saved state is loaded into both. One may have
-- room for a long history, the other for a short one or for none. Then:
--
-- 1. For as long as both accept their steps, both hold the same after each: cells, tags, output with its count, PC, SP, FBR and HALT. All but the history is the same;
--    below this is "hold the same".
-- 2. The first time that they answer a step differently, one of them answers 8, since its history has too few free places for this step, and the other has made the
--    step: it has no history, or one with more room.
-- 3. Whenever neither of them answers 8, both give the same answer, and hold the same after it.
-- 4. So it is in the middle of an evening, whatever steps, runs, step-backs and forgets were asked of either: where both are the same number of steps ahead, those made
--    less those taken back, both hold the same, the door board reads the same dwell off both, and they answer the next step alike, or one with 8 and the other makes it.
-- 5. From there both run with the same limit: unless one of the runs ends with 8, both end with the same answer after the same number of steps, both hold the same, and
--    the door board reads the same dwell off both.
-- 6. One machine, two limits: a run that ended with 0, or with the refusal of a step, that is with anything but 50, ends so with every larger limit up to 1,000,000: with
--    the same answer after the same number of steps, and with the same registers and memory, history included.
--
-- 1 to 5 follow from request i: whatever room it has, a machine does what the one run does that has room for all its records (specs/Unbounded.antt), or answers 8.
-- proofs/Rooms.antt shows them, and proofs/LargerLimit.antt shows 6. Assumes nothing.
use Rattle.std.specs.Prelude.{ℕ, suc, ◌≤◌, ◌<◌, ◌≡◌, ◌⊎◌, List}
use Rattle.rules.specs.Sizes.{max_limit}
use Rattle.rules.specs.Table.{Program}
use Rattle.rules.specs.Numbers.{machine_number, number_of_step, number_of_ending}
use Rattle.rules.specs.Step as Step
use Rattle.rules.specs.Run.{Ran}
use Rattle.rules.specs.Run as Run
use Rattle.rules.specs.declared.MachineRefusal.TheVariants.{HistoryFull}
use Rattle.rules.specs.declared.Ending.TheVariants.{LimitReached}
use Rattle.promises.specs.Series.{Request, run, State, plain, Session, state_of, ask, series, begin, afresh, left_by_run, SameStart, fresh, ahead}
use Rattle.promises.specs.Carried.{answer_after, RoomAfter}
use Rattle.promises.specs.Dwells.{read_in}

-- ---- what is compared

-- "cells, tags, output, PC, SP, FBR and HALT", with the output's count and N: the machine with its history taken away, where H, U and the kept number are 0
abbrev pub without_history : State → State
without_history s = plain (fresh s)

abbrev pub HoldTheSame : State → State → Type 0
HoldTheSame s t = without_history s ≡ without_history t

-- 8: "H above 0 and fewer than (cells written + 1) places free"
abbrev pub full : ℕ
full = machine_number HistoryFull

-- of two answers to a step: they are the same, or one of them is 8 and the other is 0, done
abbrev pub SameOrFull : ℕ → ℕ → Type 0
SameOrFull one other = (one ≡ other) ⊎ (((one ≡ full) × (other ≡ 0)) ⊎ ((one ≡ 0) × (other ≡ full)))

-- ---- 1 to 3: sessions of steps

-- the answer to the step after i steps, as a number
abbrev pub number_after : Program → State → ℕ → ℕ
number_after p s i = number_of_step (answer_after p s i)

-- each of k steps is accepted
abbrev pub Accepts : Program → State → ℕ → Type 0
Accepts p s k = (i : ℕ) → i < k → number_after p s i ≡ 0

-- each of k steps is answered alike, accepted or refused
abbrev pub AnswerAlike : Program → State → State → ℕ → Type 0
AnswerAlike p s t k = (i : ℕ) → i < k → number_after p s i ≡ number_after p t i

-- s has a history, and t has none or one of more places
abbrev pub LessRoom : State → State → Type 0
LessRoom s t = (0 < s.registers.h) × ((t.registers.h ≡ 0) ⊎ (s.registers.h < t.registers.h))

-- after k steps s answers 8, t makes the step, and s has less room
pub record FullFirst (p : Program) (s t : State) (k : ℕ) : Type 0 where
  pub refused : number_after p s k ≡ full
  pub done : number_after p t k ≡ 0
  pub less : LessRoom s t

-- what is promised of two machines that stand at s and at t, the same start with any two histories (specs/Series.antt, SameStart)
pub record SameEvening (p : Program) (s t : State) : Type 0 where
  -- 1. "the same cells, tags, output, PC, SP, FBR and HALT for as many steps as both accept"
  pub holds : (k : ℕ) → Accepts p s k → Accepts p t k → HoldTheSame (state_of (afresh p s k)) (state_of (afresh p t k))
  -- 2. "their answers differ first only by an 8"
  pub first : (k : ℕ) → AnswerAlike p s t k → (number_after p s k ≡ number_after p t k) ⊎ (FullFirst p s t k ⊎ FullFirst p t s k)
  -- 3. the step after k steps, answered by neither with 8, whatever was answered before
  pub answers : (k : ℕ) → RoomAfter p s k → RoomAfter p t k → number_after p s k ≡ number_after p t k
  pub leaves : (k : ℕ) → RoomAfter p s k → RoomAfter p t k → HoldTheSame (state_of (afresh p s (suc k))) (state_of (afresh p t (suc k)))

-- ---- 4 and 5: sessions of any kind, and their runs

-- the number that a run ended with
abbrev pub end_number : Ran → ℕ
end_number a = number_of_ending a.answer.ending

pub record EndAlike (a b : Ran) : Type 0 where
  pub number : end_number a ≡ end_number b
  pub steps : a.answer.steps ≡ b.answer.steps
  pub holds : HoldTheSame (left_by_run a) (left_by_run b)

-- a run of a session, with that limit
abbrev pub run_of : Program → Session → ℕ → Ran
run_of p u limit = Run.run p limit u.registers u.memory

-- two runs differ only where one ended with 8
abbrev pub AlikeUnlessFull : Ran → Ran → Type 0
AlikeUnlessFull a b = (end_number a ≡ full → ⊥) → (end_number b ≡ full → ⊥) → EndAlike a b

-- they are the same number of steps ahead: S minus B, those made less those taken back
abbrev pub AsFar : Session → Session → Type 0
AsFar a b = ahead a ≡ ahead b

-- what is promised of two sessions from such starts that are as far
pub record SameSoFar (p : Program) (a b : Session) : Type 0 where
  -- 4. what both hold
  pub holds : HoldTheSame (state_of a) (state_of b)
  -- "whether its tuning could differ": the dwell, or its refusal
  pub dwell : read_in p a ≡ read_in p b
  pub next : SameOrFull (number_of_step (Step.step p a.registers a.memory).answer) (number_of_step (Step.step p b.registers b.memory).answer)
  -- 5. runs from there, and the dwell after them
  pub runs : (limit : ℕ) → AlikeUnlessFull (run_of p a limit) (run_of p b limit)
  pub tunes : (limit : ℕ) → (end_number (run_of p a limit) ≡ full → ⊥) → (end_number (run_of p b limit) ≡ full → ⊥)
      → read_in p (ask p a (run limit)) ≡ read_in p (ask p b (run limit))

-- ---- 6: a larger limit

-- "Where a run ended with 0 or a step's refusal, any larger limit in range gives the same answer, step count and final state.": where it ended with anything but 50,
-- of every state, broken ones among them, which are 10 with every limit in range
abbrev pub LargerLimit : Program → State → Type 0
LargerLimit p s =
    (limit larger : ℕ) → limit ≤ larger → larger ≤ max_limit → (end_number (Run.run p limit s.registers s.memory) ≡ number_of_ending LimitReached → ⊥)
    → Run.run p larger s.registers s.memory ≡ Run.run p limit s.registers s.memory

-- ---- the whole, of every program

pub record MoreRoomSameEvening (p : Program) : Type 0 where
  -- "two sessions of steps with the same program, N, output length and start (a reset or one saved state), and any two history rooms"
  pub steps : (s t : State) → SameStart p s t → SameEvening p s t
  -- and two sessions of any requests from there
  pub sessions : (s t : State) → SameStart p s t → (qs qs' : List Request) → AsFar (series p qs (begin s)) (series p qs' (begin t))
      → SameSoFar p (series p qs (begin s)) (series p qs' (begin t))
  pub limits : (s : State) → LargerLimit p s
