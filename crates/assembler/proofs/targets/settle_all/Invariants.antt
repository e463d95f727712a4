-- `assembler::targets::settle_all` meets its contract. Invariant: the words so far are settled, and in front of the items behind them they give what all items give. Assumes nothing.
use Rattle.assembler.specs.Held.{labels_of}
use Rattle.assembler.proofs.Settle.{Settled}
use Rattle.assembler.proofs.targets.settle_all.Given as goal

abbrev pub invariant-loop-item : goal.invariant-loop-item
invariant-loop-item l = Settled l.source l.initial.items (labels_of l.source l.labels) l.items l.item-index
