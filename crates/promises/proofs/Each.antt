-- What holds of each of a list, and of one more. Assumes nothing.
use mathlib.Core.List.{List, [], ◌∷◌, ◌++◌}
use Rattle.promises.specs.Each.{Each}

pub each_one_more : {A : Type 0} (P : A → Type 0) (xs : List A) (x : A) → Each P xs → P x → Each P (xs ++ x ∷ [])
each_one_more P [] x h k = (k, tt)
each_one_more P (y ∷ xs) x h k = (h.0, each_one_more P xs x h.1 k)
