-- What is known where the rules of the places are asked: 10, 64 and 65 were not given. Assumes nothing.
use Rattle.std.specs.Prelude.{ℕ, ◌≤◌, ◌<◌, ◌≡◌, Bool, true, false, cond, List, length, eqb, Option, Some, None}
use Rattle.rules.specs.Instructions.{codes, row_of}
use Rattle.rules.specs.Table.{Program, sound_table}
use Rattle.rules.specs.DepthList.{forbidden, allowed_at, first_failing}

-- the first place that fails a test, of so many, if any
abbrev pub failing : (ℕ → Bool) → (count : ℕ) → Option ℕ
failing test count = cond (eqb (first_failing test count 0) count) None (Some (first_failing test count 0))

-- of an instruction
pub record Known (code : ℕ) : Type 0 where
  pub coded : code < codes
  pub allows : forbidden (row_of code) ≡ false

-- of a program and its list
pub record Judgeable (p : Program) (depths : List ℕ) : Type 0 where
  pub table : sound_table p ≡ true
  pub places : p.count ≤ length p.places
  pub long : length depths ≡ p.count
  pub allows : failing (allowed_at p) p.count ≡ None
