-- `operands::numeral_of` meets its contract. Invariant: all digits make what those from the index on make after `n`, and `n` is below 17 to the digits read.
-- Assumes nothing.
use Rattle.rules.specs.Operands.{numeral}
use lib.ListN.{drop}
use Prim.Native.Nat.{◌<◌, ◌^◌}
use mathlib.Core.Path.{◌≡◌}
use Rattle.operands.proofs.numeral_of.Given as goal

abbrev pub invariant-loop-b : goal.invariant-loop-b
invariant-loop-b l = (l.n < 17 ^ l.b-index) × (numeral l.base 0 l.ds ≡ numeral l.base l.n (drop l.b-index l.ds))
