-- What the top record leans on when it is taken back: its step place is `top`, and it `shows` a byte or not. Assumes nothing.
use Rattle.std.specs.Prelude.{ℕ, ◌-◌, ◌≤◌, ◌<◌, ◌≡◌, Bool, true, not, ◌||◌, List, ltb, length, get_or}
use Rattle.rules.specs.Lists.{part}
use Rattle.rules.specs.Places.{cell_address, step_count}
use Rattle.rules.specs.State.{Memory}
use Rattle.rules.specs.declared.Registers.{Registers}

-- its cell places
abbrev pub record_cells : ℕ → Registers → Memory → List ℕ
record_cells top r m = part (r.used - 1 - step_count top) (step_count top) m.history

-- there is a tag for each cell, a step is kept, the record lies within the places used and these within the history, its addresses are those of cells, and
-- what it showed is among the bytes written and these within the output
pub record Undoable (top : ℕ) (shows : Bool) (r : Registers) (m : Memory) : Type 0 where
  pub tagged : length m.cells.bits ≡ length m.cells.tags
  pub kept : 0 < r.kept
  pub count : step_count top < r.used
  pub used : r.used ≤ length m.history
  pub addresses : (k : ℕ) → k < length (record_cells top r m) → cell_address (get_or (record_cells top r m) k 0) < length m.cells.bits
  pub drops : (not shows || ltb 0 r.written) ≡ true
  pub written : r.written ≤ length m.output
