-- `blank` meets its contract. The loop's invariant: the elements passed are the zero. Assumes nothing.
use Rattle.std.proofs.Common.{◌≡◌, take, replicate}
use Rattle.lent.proofs.blank.Given as goal

abbrev pub invariant-loop-x : goal.invariant-loop-x
invariant-loop-x g l = take l.x-index l.out ≡ replicate l.x-index l.zero
