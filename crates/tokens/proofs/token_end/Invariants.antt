-- `tokens::token_end` meets its contract. Invariant: the bytes before i are those of a token, and wherever the token ends that the last of them
-- starts, the one at `at` ends. Assumes nothing.
use Rattle.rules.specs.Tokens.{stops}
use Rattle.tokens.specs.Next.{Ended}
use lib.ListN.{length, drop}
use Prim.Native.Nat.{ℕ, ◌≤◌, ◌<◌, ◌-◌}
use mathlib.Core.Bool.{false}
use mathlib.Core.Path.{◌≡◌}
use Rattle.tokens.proofs.token_end.Given as goal

abbrev pub invariant-loop-i : goal.invariant-loop-i
invariant-loop-i l = (l.at < l.i) × (l.i ≤ length l.src) × (stops (drop (l.i - 1) l.src) ≡ false) × ((e : ℕ) → Ended l.src (l.i - 1) e → Ended l.src l.at e)
