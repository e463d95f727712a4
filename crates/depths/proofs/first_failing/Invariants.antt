-- The loop's invariant: each place before this one passes. Assumes nothing.
use Prim.Native.Nat.{ℕ, ◌<◌}
use mathlib.Core.Path.{◌≡◌}
use mathlib.Core.Bool.{true}
use Rattle.program.specs.Lent.{program_of}
use Rattle.rules.specs.DepthList.{rule}
use Rattle.depths.proofs.first_failing.Given as goal

abbrev pub invariant-loop-place : goal.invariant-loop-place
invariant-loop-place l = (k : ℕ) → k < l.place → rule (program_of l.p) l.n l.depths k ≡ true
