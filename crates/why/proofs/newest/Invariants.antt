-- `why::newest` meets its contract. The loop's invariant: the places left tell what all do. Assumes nothing.
use Rattle.std.specs.Slice.Iter.{iter_rest}
use Rattle.why.proofs.Looking.{Looking}
use Rattle.why.proofs.newest.Given as goal

abbrev pub invariant-loop-place : goal.invariant-loop-place
invariant-loop-place l = Looking l.table l.history l.used l.cell (iter_rest l.place-iterator.iter) l.back l.step
