-- How many values an instruction needs, and how many it leaves in their place, by its row in the table of instructions. Assumes nothing.
use Rattle.std.specs.Prelude.{ℕ}
use Rattle.rules.specs.Decide.{Action}
use Rattle.rules.specs.DepthList.{depth_after}
use Rattle.program.specs.declared.moves.Moves.{Moves}

-- what it leaves is the depth after, where nothing lies below what it needs; of POPSP, which no list may hold, with 0 on top
abbrev pub moves_of : Action → (operand : ℕ) → Moves
moves_of a n = record { needs = a.needs n; leaves = depth_after a n (a.needs n) }
