-- What a refused writer leaves, by the length of its output. Assumes nothing.
use Prim.Native.Nat.{ℕ}
use mathlib.Core.Path.{◌≡◌}
use mathlib.Core.List.{List}
use lib.ListN.{length, replicate}
use borrow.Author.Tests.{eq-eqb, ne_eqb}
use Rattle.rules.specs.Outputs.{blanked}

module _ (size : ℕ) (out : List ℕ) where
  pub blanked_right : length out ≡ size → blanked size out ≡ replicate size 0
  blanked_right h = rw (eq-eqb (length out) size h)

  pub blanked_wrong : (length out ≡ size → ⊥) → blanked size out ≡ out
  blanked_wrong h = rw (ne_eqb (length out) size h)
