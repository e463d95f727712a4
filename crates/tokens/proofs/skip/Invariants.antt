-- `tokens::skip` meets its contract. Invariant: the tokens from `at` are those from `i`. Assumes nothing.
use Rattle.tokens.specs.Next.{from}
use lib.ListN.{length}
use Prim.Native.Nat.{◌≤◌, ◌-◌}
use mathlib.Core.Path.{◌≡◌}
use Rattle.tokens.proofs.skip.Given as goal

abbrev pub invariant-loop-i : goal.invariant-loop-i
invariant-loop-i l = (l.at ≤ l.i) × (l.i ≤ length l.src) × (from l.src l.at ≡ from l.src l.i)

abbrev pub decreases-loop-i : goal.decreases-loop-i
decreases-loop-i l = length l.src - l.i
