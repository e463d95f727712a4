-- Of two whole numbers one is no larger. Assumes nothing.
use mathlib.Core.Logic.{◌⊎◌, inl, inr}
use mathlib.Core.Bool.{Bool, true, false, not}
use Prim.Native.Nat.{ℕ, ◌≤◌, ◌<◌}
use lib.Dec.{T, leb, leb→le, nleb→lt}

pub either_way : (a b : ℕ) → (a ≤ b) ⊎ (b < a)
either_way a b = go (leb a b) (leb→le a b) (nleb→lt a b)
  where
    go : (t : Bool) → (T t → a ≤ b) → (T (not t) → b < a) → (a ≤ b) ⊎ (b < a)
    go true h k = inl (h tt)
    go false h k = inr (k tt)
