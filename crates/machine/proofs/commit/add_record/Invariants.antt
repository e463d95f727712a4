-- `machine::commit::add_record` meets its contract. The loop's invariant: the cell places left to write give what all of them give. Assumes nothing.
use Rattle.rules.specs.Lists.{part}
use Rattle.rules.specs.Commit.{cell_places}
use Rattle.rules.proofs.Stored.{Stored}
use Rattle.machine.proofs.commit.add_record.Given as goal

abbrev pub invariant-loop-i : goal.invariant-loop-i
invariant-loop-i l = Stored l.initial.history l.history (cell_places l.at (part l.at l.count l.tags) (part l.at l.count l.bits)) l.used l.i
