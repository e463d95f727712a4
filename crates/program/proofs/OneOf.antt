-- What the `_` of a match over codes knows: the code is none of those that have an arm; and what is so of every code but those is so of it. Assumes nothing.
use Prim.Native.Nat.{ℕ, ◌<◌}
use mathlib.Core.Path.{◌≡◌, refl, sym, ap, ◌∙◌}
use mathlib.Core.Bool.{Bool, true, false, ◌||◌}
use mathlib.Core.List.{List, [], ◌∷◌}
use lib.Dec.{eqb}
use borrow.Author.Tests.{ne_eqb}
use Rattle.rules.proofs.Tests.{below, at_below}

-- one of the numbers
unfoldable pub one_of : List ℕ → ℕ → Bool
one_of [] c = false
one_of (x ∷ xs) c = eqb c x || one_of xs c

-- none of the numbers, as the `_` of a match has it, the last arm's first
abbrev pub NoneOf : List ℕ → ℕ → Type 0
NoneOf [] c = Unit {0}
NoneOf (x ∷ xs) c = NoneOf xs c × (c ≡ x → ⊥)

none_one : (l : List ℕ) (c : ℕ) → NoneOf l c → one_of l c ≡ false
unfolding one_of
none_one [] c n = refl
none_one (x ∷ xs) c n = rw (ne_eqb c x n.1, none_one xs c n.0)

-- a test that is computed of every number below a bound, but those of the list
pub elsewhere : (l : List ℕ) (test : ℕ → Bool) (bound : ℕ) → below (λ k. one_of l k || test k) bound ≡ true → (c : ℕ) → c < bound → NoneOf l c → test c ≡ true
elsewhere l test bound h c low n = sym (ap (λ (b : Bool). b || test c) (none_one l c n)) ∙ at_below (λ k. one_of l k || test k) bound h c low
