-- `formula::scan::number` meets its contract. Invariant: the tokens are those behind digits that end at `end` and make `value`. Assumes nothing.
use Prim.Native.Nat.{◌≤◌}
use mathlib.Core.Path.{◌≡◌}
use Rattle.rules.specs.Sizes.{max_integer}
use Rattle.formula.specs.Scans.{number_from}
use Rattle.formula.proofs.scan.number.Given as goal

abbrev pub invariant-loop-end : goal.invariant-loop-end
invariant-loop-end l = (number_from 0 l.formula l.start ≡ number_from l.value l.formula l.end) × (l.value ≤ max_integer)
