-- `tokens::comment_end` meets its contract. Invariant: what is open at `at` leaves the same tokens as at `i`. Assumes nothing.
use mathlib.Core.Path.{◌≡◌}
use Rattle.tokens.specs.Next.{inside}
use Rattle.tokens.proofs.comment_end.Given as goal

abbrev pub invariant-loop-i : goal.invariant-loop-i
invariant-loop-i l = inside l.src l.at ≡ inside l.src l.i
