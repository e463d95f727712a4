-- `machine::commit::zero_cells` meets its contract. The loop's invariant: the zeros left to write give what all of them give. Assumes nothing.
use lib.ListN.{replicate}
use Rattle.rules.proofs.Stored.{Stored}
use Rattle.machine.proofs.commit.zero_cells.Given as goal

abbrev pub invariant-loop-i : goal.invariant-loop-i
invariant-loop-i l = Stored l.initial.bits l.bits (replicate l.count 0) l.from l.i × Stored l.initial.tags l.tags (replicate l.count 0) l.from l.i
