-- A call's answer with the lent slices that it leaves, as one record each, so that one equation says both. Assumes nothing.
use Rattle.std.specs.Prelude.{ℕ, List}
use Rattle.rules.specs.State.{memory}
use Rattle.rules.specs.Step.{Stepped}
use Rattle.rules.specs.Reset.{Started}
use Rattle.rules.specs.Answers.{Begun}
use Rattle.rules.specs.declared.Step.{Step}

abbrev pub stepped : Step → List ℕ → List ℕ → List ℕ → List ℕ → Stepped
stepped a bits tags history output = record { answer = a; memory = memory bits tags history output }

abbrev pub started : Begun → List ℕ → List ℕ → List ℕ → List ℕ → Started
started a bits tags history output = record { answer = a; memory = memory bits tags history output }
