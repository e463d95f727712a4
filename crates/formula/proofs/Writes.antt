-- One place written, and two beside each other, as blocks. Assumes nothing.
use Prim.Native.Nat.{ℕ, ◌+◌, ◌≤◌, ◌<◌}
use mathlib.Core.Path.{◌≡◌, ap, ◌∙◌}
use mathlib.Core.List.{List, [], ◌∷◌}
use native.Mathlib.Numerals.{add-one}
use native.Mathlib.Omega.{arith}
use lib.ListN.{length, set}
use Rattle.rules.specs.Lists.{splice}
use Rattle.rules.proofs.Splice.{sets_splice}

pub one_written : (l : List ℕ) (i v : ℕ) → i < length l → set l i v ≡ splice l i (v ∷ [])
one_written l i v h = sets_splice (v ∷ []) l i (omega arith)

pub two_written : (l : List ℕ) (i v w : ℕ) → i + 2 ≤ length l → set (set l i v) (i + 1) w ≡ splice l i (v ∷ w ∷ [])
two_written l i v w h = ap (λ (j : ℕ). set (set l i v) j w) (add-one i) ∙ sets_splice (v ∷ w ∷ []) l i (omega arith)

pub ruleset writes = (one_written, two_written)
