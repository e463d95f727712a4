-- A run's answer with the lent slices that it leaves, as one record; and what a run of one step says of that step. Assumes nothing.
use Rattle.std.specs.Prelude.{ℕ, List}
use Rattle.rules.specs.State.{memory}
use Rattle.rules.specs.Run.{Ran}
use Rattle.rules.specs.declared.Run.{Run}
use Rattle.rules.specs.declared.Registers.{Registers}
use Rattle.rules.specs.declared.Ending.{Ending}
use Rattle.rules.specs.declared.Ending.TheVariants.{Halted, LimitReached, Stopped}
use Rattle.rules.specs.declared.Step.{Step}
use Rattle.rules.specs.declared.Step.TheVariants.{Next, Refused}

abbrev pub ran : Run → List ℕ → List ℕ → List ℕ → List ℕ → Ran
ran a bits tags history output = record { answer = a; memory = memory bits tags history output }

-- the step was made, whether it halted or not, or it was refused
abbrev pub only_step : Ending → Registers → Step
only_step Halted r = Next r
only_step LimitReached r = Next r
only_step (Stopped x) r = Refused x
