-- `back::restore` meets its contract. The loop's invariant: what is left to restore, restored, gives what all restores give. Assumes nothing.
use mathlib.Core.Path.{◌≡◌}
use lib.ListN.{drop}
use Rattle.rules.specs.Places.{cell_tag, cell_bits}
use Rattle.rules.specs.Back.{restored}
use Rattle.back.proofs.restore.Given as goal

abbrev pub invariant-loop-place : goal.invariant-loop-place
invariant-loop-place l =
    (restored cell_bits (drop l.place-index l.cells) l.bits ≡ restored cell_bits l.cells l.initial.bits)
    × (restored cell_tag (drop l.place-index l.cells) l.tags ≡ restored cell_tag l.cells l.initial.tags)
