-- Document 02, letter i: "Add a call that forgets the k oldest kept steps, moves the rest down, and zeroes the room gained, which later steps use." Assumes
-- nothing.
use Rattle.std.specs.Prelude.{ℕ, ◌-◌, cond, List, ◌++◌, drop, replicate, leb, Ok, Err}
use Rattle.rules.specs.Lists.{every, part}
use Rattle.rules.specs.Table.{Program}
use Rattle.rules.specs.State.{Memory, registers_holding}
use Rattle.rules.specs.Records.{records_in_use, record_tests, places_taken}
use Rattle.rules.specs.declared.Registers.{Registers}
use Rattle.rules.specs.declared.ForgetRefusal.{ForgetRefusal}
use Rattle.rules.specs.declared.ForgetRefusal.TheVariants.{RecordsBroken, TooManySteps}
use Rattle.rules.specs.Answers.{Forgot}

-- an answer, and the memory that it leaves
pub record Forgets : Type 0 where
  pub answer : Forgot
  pub memory : Memory

-- how many places "the k oldest kept steps" take: their records come last, behind those that stay
abbrev pub freed : ℕ → Registers → Memory → ℕ
freed k r m = places_taken (drop (r.kept - k) (records_in_use r m))

-- "moves the rest down, and zeroes the room gained": of `used` places the first `free` are given up; those that were not used stay as they are
abbrev pub moved_down : (free used : ℕ) → List ℕ → List ℕ
moved_down free used history = part free (used - free) history ++ (replicate free 0 ++ drop used history)

-- U and the kept number fall; cells and output stay
abbrev pub forgotten : (free k : ℕ) → Registers → Memory → Forgets
forgotten free k r m =
    record {
      answer = Ok (registers_holding r.h (r.used - free) (r.kept - k) r);
      memory = record { cells = m.cells; history = moved_down free r.used m.history; output = m.output };
    }

-- "a refusal changes nothing"
abbrev pub not_forgotten : Memory → ForgetRefusal → Forgets
not_forgotten m e = record { answer = Err e; memory = m }

-- "10 first ..; then 14 when k is above the kept number"
unfoldable pub forget : Program → ℕ → Registers → Memory → Forgets
forget p k r m =
    cond (every (record_tests p r m))
    (cond (leb k r.kept) (forgotten (freed k r m) k r m) (not_forgotten m TooManySteps))
    (not_forgotten m RecordsBroken)
