-- `all` of the rules is the library's test over a list, so that a chain answers it. Assumes nothing.
use Prim.Native.Nat.{ℕ}
use mathlib.Core.Path.{◌≡◌, refl, ap}
use mathlib.Core.Bool.{Bool, ◌&&◌}
use mathlib.Core.List.{List, [], ◌∷◌}
use Rattle.std.specs.List.{list_all}
use Rattle.rules.specs.Lists.{all}

pub list_all_is : (p : ℕ → Bool) (xs : List ℕ) → list_all p xs ≡ all p xs
unfolding all
list_all_is p [] = refl
list_all_is p (x ∷ xs) = ap (λ (b : Bool). p x && b) (list_all_is p xs)
