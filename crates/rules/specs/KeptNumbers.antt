-- Document 02, letter g: kept numbers worked by hand from its words, as one list, and the one statement that each of them holds; antt computes it.
-- Assumes nothing.
use Rattle.std.specs.Prelude.{ℕ, zero, suc, ◌≡◌, refl, Bool, true, ◌&&◌, List, [], ◌∷◌, length, eqb}
use Prim.Native.String.{String}
use Rattle.rules.specs.Dwell as Dwell
use Rattle.rules.specs.Lists.{every}
use Rattle.rules.specs.Sizes.{max_limit}
use Rattle.rules.specs.Table.{Program}
use Rattle.rules.specs.State.{Memory, memory, steps_in_use}
use Rattle.rules.specs.Numbers.{number_of_step, registers_after, number_of_ending, number_of_dwell}
use Rattle.rules.specs.Step.{Stepped, step}
use Rattle.rules.specs.Back.{back}
use Rattle.rules.specs.Run.{Ran, run}
use Rattle.rules.specs.Examples.{program_of, ran_from, holds}
use Rattle.rules.specs.declared.Registers.{Registers}

-- the number that a call gave, and what it left
pub record Seen : Type 0 where
  pub number : ℕ
  pub registers : Registers
  pub memory : Memory

abbrev pub seen_step : Registers → Stepped → Seen
seen_step r o = record { number = number_of_step o.answer; registers = registers_after r o.answer; memory = o.memory }

abbrev pub seen_run : Ran → Seen
seen_run a = record { number = number_of_ending a.answer.ending; registers = a.answer.registers; memory = a.memory }

-- that many step-backs, one after the other
unfoldable pub backs : Program → ℕ → Seen → Seen
backs p zero s = s
backs p (suc k) s = backs p k (seen_step s.registers (back p s.registers s.memory))

abbrev gives : Seen → (number kept : ℕ) → Bool
gives s number kept = eqb s.number number && eqb s.registers.kept kept

-- ---- from a reset, with 16 cells and that many history places: "the number of step places in use"

-- a run with that limit, and then so many step-backs: the number of the last call, and the kept number
abbrev after : (h : ℕ) → String → (limit back : ℕ) → (number kept : ℕ) → Bool
after h source limit back number kept =
    let p = program_of source in
    let s = backs p back (seen_run (ran_from p 16 h limit)) in
    gives s number kept && eqb (steps_in_use s.registers s.memory) kept

-- ---- states made by hand, of two cells under `JUMP 0`, with these history places, the first so many of them used

abbrev registers_given : List ℕ → (used kept : ℕ) → Registers
registers_given l used kept = record { n = 2; h = length l; pc = 0; sp = 0; fbr = 0; halt = 0; used = used; kept = kept; written = 0 }

abbrev memory_given : List ℕ → Memory
memory_given l = memory (0 ∷ 0 ∷ []) (0 ∷ 0 ∷ []) l []

-- the place of a JUMP at PC 0, and of a step that says it wrote one cell
abbrev pub jumped : ℕ
jumped = 0x8000000000000000

abbrev pub wrote : ℕ
wrote = 0x8000000000400000

-- "10": a step, a step-back and a run leave the kept number as it is, and a dwell tells 10 too
abbrev broken : List ℕ → (used kept : ℕ) → Bool
broken l used kept =
    let p = program_of "JUMP 0" in
    let r = registers_given l used kept in
    gives (seen_step r (step p r (memory_given l))) 10 kept
    && gives (seen_step r (back p r (memory_given l))) 10 kept
    && gives (seen_run (run p 1 r (memory_given l))) 10 kept
    && eqb (number_of_dwell (Dwell.dwell p r (memory_given l))) 10

-- a step, a run of two, and a step-back: the number and the kept number after each
abbrev step_gives : List ℕ → (used kept : ℕ) → (number after : ℕ) → Bool
step_gives l used kept number after =
    let r = registers_given l used kept in gives (seen_step r (step (program_of "JUMP 0") r (memory_given l))) number after

abbrev run_gives : List ℕ → (used kept : ℕ) → (number after : ℕ) → Bool
run_gives l used kept number after =
    let r = registers_given l used kept in gives (seen_run (run (program_of "JUMP 0") 2 r (memory_given l))) number after

abbrev backs_give : List ℕ → (used kept : ℕ) → (back number after : ℕ) → Bool
backs_give l used kept back number after =
    gives (backs (program_of "JUMP 0") back (record { number = 0; registers = registers_given l used kept; memory = memory_given l })) number after

unfoldable pub kept_numbers : List Bool
kept_numbers =
    -- "With H above 0 it equals S minus B": four steps, two places each but the last, and each of them taken back; then 9
    after 16 "PUSHIMM 1 PUSHIMM 2 ADD STOP" 0 0 50 0
    ∷ after 16 "PUSHIMM 1 PUSHIMM 2 ADD STOP" 1 0 50 1
    ∷ after 16 "PUSHIMM 1 PUSHIMM 2 ADD STOP" max_limit 0 0 4
    ∷ after 16 "PUSHIMM 1 PUSHIMM 2 ADD STOP" max_limit 1 0 3
    ∷ after 16 "PUSHIMM 1 PUSHIMM 2 ADD STOP" max_limit 3 0 1
    ∷ after 16 "PUSHIMM 1 PUSHIMM 2 ADD STOP" max_limit 4 0 0
    ∷ after 16 "PUSHIMM 1 PUSHIMM 2 ADD STOP" max_limit 5 9 0
    -- a record is one step, of one place or of six: a jump, and five cells written
    ∷ after 16 "JUMP 1 ADDSP 5 STOP" max_limit 0 0 3
    ∷ after 16 "JUMP 1 ADDSP 5 STOP" max_limit 2 0 1
    -- a step that is refused is not kept: 3, and 8 with room for one place
    ∷ after 16 "PUSHIMM 1 ADD" max_limit 0 3 1
    ∷ after 3 "PUSHIMM 1 PUSHIMM 2" max_limit 0 8 1
    ∷ after 3 "JUMP 0" max_limit 0 8 3
    -- "with H = 0 it is 0"
    ∷ after 0 "PUSHIMM 1 PUSHIMM 2 ADD STOP" max_limit 0 0 0
    ∷ after 0 "PUSHIMM 1 PUSHIMM 2 ADD STOP" max_limit 1 9 0
    -- "10 also when the kept number is above U": by one, by more, with U = 0, with H = 0
    ∷ broken (jumped ∷ jumped ∷ 0 ∷ 0 ∷ []) 2 3
    ∷ broken (jumped ∷ jumped ∷ 0 ∷ 0 ∷ []) 2 18446744073709551615
    ∷ broken (0 ∷ 0 ∷ []) 0 1
    ∷ broken [] 0 1
    -- "or is 0 with U above 0"
    ∷ broken (jumped ∷ jumped ∷ 0 ∷ 0 ∷ []) 2 0
    ∷ broken (jumped ∷ []) 1 0
    -- what is neither is not 10, whatever the history holds: a kept number less than the step places, or more
    ∷ step_gives (jumped ∷ jumped ∷ 0 ∷ 0 ∷ []) 2 2 0 3
    ∷ step_gives (jumped ∷ jumped ∷ 0 ∷ 0 ∷ []) 2 1 0 2
    ∷ step_gives (0 ∷ jumped ∷ 0 ∷ 0 ∷ []) 2 2 0 3
    ∷ run_gives (jumped ∷ jumped ∷ 0 ∷ 0 ∷ []) 2 1 50 3
    ∷ run_gives (jumped ∷ jumped ∷ jumped ∷ 0 ∷ []) 3 1 8 2
    -- a step-back lowers it by 1 whatever it was, and may so leave a state that the next call refuses: 0 with U = 1, or 2 with U = 1
    ∷ backs_give (jumped ∷ jumped ∷ 0 ∷ 0 ∷ []) 2 2 1 0 1
    ∷ backs_give (jumped ∷ jumped ∷ 0 ∷ 0 ∷ []) 2 1 1 0 0
    ∷ backs_give (jumped ∷ jumped ∷ 0 ∷ 0 ∷ []) 2 1 2 10 0
    ∷ backs_give (jumped ∷ 0 ∷ wrote ∷ 0 ∷ []) 3 3 1 0 2
    ∷ backs_give (jumped ∷ 0 ∷ wrote ∷ 0 ∷ []) 3 3 2 10 2
    -- a step-back that is refused leaves it
    ∷ backs_give (0 ∷ 0 ∷ []) 0 0 1 9 0
    ∷ backs_give (0 ∷ 0 ∷ []) 2 1 1 10 1
    ∷ []

pub all_kept : every kept_numbers ≡ true
unfolding kept_numbers backs holds Dwell.dwell
all_kept = refl
