-- `records::parts::are_formed_cells` meets its contract. The loop's invariant: all cell places are well formed exactly where those left are, from the
-- address after the last one on. Assumes nothing.
use mathlib.Core.Path.{◌≡◌}
use lib.ListN.{drop}
use Rattle.rules.specs.Records.{formed_cells}
use Rattle.records.proofs.parts.are_formed_cells.Given as goal

abbrev pub invariant-loop-place : goal.invariant-loop-place
invariant-loop-place l = formed_cells l.n l.count l.low (drop l.place-index l.cells) ≡ formed_cells l.n l.count 0 l.cells
