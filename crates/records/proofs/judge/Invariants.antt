-- `records::judge` meets its contract. The loop's invariant: so many records are passed, each well formed, and so many places left. Assumes nothing.
use Rattle.records.proofs.Walks.{Walking}
use Rattle.records.proofs.judge.Given as goal

abbrev pub invariant-loop-left : goal.invariant-loop-left
invariant-loop-left l = Walking l.n l.count l.stay l.used l.history l.left l.passed l.below

abbrev pub decreases-loop-left : goal.decreases-loop-left
decreases-loop-left l = l.left
