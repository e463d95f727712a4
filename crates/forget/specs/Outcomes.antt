-- A forget's answer with the lent slices that it leaves, as one record, so that one equation says both. Assumes nothing.
use Rattle.std.specs.Prelude.{ℕ, List}
use Rattle.rules.specs.State.{memory}
use Rattle.rules.specs.Forget.{Forgets}
use Rattle.rules.specs.Answers.{Forgot}

abbrev pub forgot : Forgot → List ℕ → List ℕ → List ℕ → List ℕ → Forgets
forgot a bits tags history output = record { answer = a; memory = memory bits tags history output }
