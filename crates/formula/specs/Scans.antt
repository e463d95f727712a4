-- What stands next in a formula: the tokens from a place on, and what the scanner answers of them. Assumes nothing.
use Rattle.std.specs.Prelude.{ℕ, ◌<◌, ◌≤◌, ◌≡◌, List, [], ◌∷◌, drop}
use Rattle.rules.specs.Sizes.{max_integer, name_cells}
use Rattle.rules.specs.Grammar.{Token, digits, letter, sign, opening, closing, forbidden, tokens, number_then}
use Rattle.rules.specs.declared.FormulaRefusal.{FormulaRefusal}
use Rattle.rules.specs.declared.FormulaRefusal.TheVariants.{FormulaByte, CannotGoOn}
use Rattle.formula.specs.declared.scan.Next.{Next}
use Rattle.formula.specs.declared.scan.Next.TheVariants.{Number, TooLarge, Name, Sign, Opening, Closing, Forbidden, End}

-- the tokens of a formula from the place i on, and those behind digits that end there
abbrev pub tokens_from : List ℕ → ℕ → List Token
tokens_from f i = tokens (drop i f)

abbrev pub number_from : ℕ → List ℕ → ℕ → List Token
number_from n f i = number_then n (drop i f)

-- a number above the largest, before any tokens
pub record Above (ts : List Token) : Type 0 where
  pub total : ℕ
  pub rest : List Token
  pub first : ts ≡ digits total ∷ rest
  pub large : max_integer < total

-- what stands first among the tokens, and where the next one may start
abbrev pub Stands : List ℕ → List Token → Next → Type 0
Stands f ts (Number n end) = (ts ≡ digits n ∷ tokens_from f end) × (n ≤ max_integer)
Stands f ts TooLarge = Above ts
Stands f ts (Name k end) = (ts ≡ letter k ∷ tokens_from f end) × (k < name_cells)
Stands f ts (Sign o end) = ts ≡ sign o ∷ tokens_from f end
Stands f ts (Opening end) = ts ≡ opening ∷ tokens_from f end
Stands f ts (Closing end) = ts ≡ closing ∷ tokens_from f end
Stands f ts Forbidden = ts ≡ forbidden ∷ drop 1 ts
Stands f ts End = ts ≡ []

-- "70 forbidden byte, 71 the formula cannot go on or end here": of what has no place here
abbrev pub misplaced_by : Next → FormulaRefusal
misplaced_by Forbidden = FormulaByte
misplaced_by _ = CannotGoOn
