-- A number that is too large stays so, however many digits follow. Assumes nothing.
use Prim.Native.Nat.{ℕ, ◌-◌, ◌*◌, ◌+◌, ◌<◌}
use mathlib.Core.Path.{refl}
use mathlib.Core.List.{List, [], ◌∷◌}
use native.Mathlib.Omega.{arith}
use Rattle.rules.specs.Sizes.{max_integer}
use Rattle.rules.specs.Bytes.{zero_digit}
use Rattle.rules.specs.Grammar.{digit, before, tokens, number_then}
use Rattle.rules.proofs.Tests.{by_test}
use Rattle.formula.specs.Scans.{Above}

pub above_grown : (n : ℕ) (s : List ℕ) → max_integer < n → Above (number_then n s)
unfolding tokens
above_grown n [] h = record { total = n; rest = []; first = refl; large = h }
above_grown n (b ∷ s) h =
    by_test (digit b)
    (λ d. rw d (above_grown (n * 10 + (b - zero_digit)) s (omega arith)))
    (λ d. rw d (record { total = n; rest = before b (tokens s); first = refl; large = h }))
