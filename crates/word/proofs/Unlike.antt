-- The difference of two truths, as the language has it and as XOR has it. Assumes nothing.
use Rattle.std.proofs.Common.{◌≡◌, Bool, true, false, not, refl}
use mathlib.Core.Bool.{beq}
use Rattle.rules.specs.Words.{unlike}

pub unlike_is : (x y : Bool) → not (beq x y) ≡ unlike x y
unlike_is true true = refl
unlike_is true false = refl
unlike_is false true = refl
unlike_is false false = refl
