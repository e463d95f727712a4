-- An answer with what it leaves, as one record each, so that one equation says both. Assumes nothing.
use Rattle.std.specs.Prelude.{ℕ, List}
use Rattle.rules.specs.State.{memory}
use Rattle.rules.specs.SavedState.{Saving, Loading}
use Rattle.rules.specs.Answers.{Saved, Resumed}

abbrev pub saving : Saved → List ℕ → Saving
saving a image = record { answer = a; image = image }

abbrev pub loading : Resumed → List ℕ → List ℕ → List ℕ → List ℕ → Loading
loading a bits tags history output = record { answer = a; memory = memory bits tags history output }
