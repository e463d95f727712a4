-- `state::are_sound_cells` meets its contract. The loop's invariant: all cells are sound exactly where those left are. Assumes nothing.
use mathlib.Core.Path.{◌≡◌}
use lib.ListN.{drop}
use Rattle.rules.specs.State.{sound_cells}
use Rattle.state.proofs.are_sound_cells.Given as goal

abbrev pub invariant-loop-cell : goal.invariant-loop-cell
invariant-loop-cell l = sound_cells l.count (drop l.cell l.tags) (drop l.cell l.bits) ≡ sound_cells l.count l.tags l.bits
