-- The measures of the cycle of calls {chain, operand, side}, and the loop of `chain`: at one nesting a sum, its side, a product, its side and an operand, one below the
-- other; an operand reads on at one less. The loop stands where the chain has come to. Assumes nothing.
use Rattle.std.proofs.Common.{◌≡◌, ◌+◌, ℕ, ◌*◌, length}
use Rattle.formula.specs.declared.reading.Level.{Level}
use Rattle.formula.specs.declared.reading.Level.TheVariants.{Sum, Product}
use Rattle.formula.specs.Scans.{tokens_from}
use Rattle.formula.proofs.Chains.{Turning}
use Rattle.formula.proofs.reading.+chain_operand_side.Given as goal

abbrev weight : Level → ℕ
weight Sum = 2
weight Product = 0

abbrev pub decreases-chain : goal.decreases-chain
decreases-chain l = 5 * l.from.nesting + 2 + weight l.level

abbrev pub decreases-operand : goal.decreases-operand
decreases-operand l = 5 * l.from.nesting

abbrev pub decreases-side : goal.decreases-side
decreases-side l = 5 * l.from.nesting + 1 + weight l.level

-- the table's length stays; and of all that `chain` reads, the chain stands at what was read
abbrev pub invariant-chain-loop-operator : goal.invariant-chain-loop-operator
invariant-chain-loop-operator l = (length l.table ≡ length l.fn.table) × Turning l.formula l.level l.fn.table l.from l.table l.left

abbrev pub decreases-chain-loop-operator : goal.decreases-chain-loop-operator
decreases-chain-loop-operator l = length (tokens_from l.formula l.left.at)
