-- Document 02, letter m: what a formula is worth: "With those cells in place .. a plain run leaves the formula's number on top .., with arithmetic as in document
-- 01; it meets 5 exactly when the formula divides by zero." Assumes nothing.
use Rattle.std.specs.Prelude.{ℕ, cond, neg_ℤ, ◌+ℤ◌, ◌-ℤ◌}
use Rattle.rules.specs.Words.{signed, word, times, quotient, holds}
use Rattle.rules.specs.Grammar.{Tree, number, name, negative, joined}
use Rattle.rules.specs.declared.Operator.{Operator}
use Rattle.rules.specs.declared.Operator.TheVariants.{Add, Subtract, Multiply, Divide}

-- the 32 bits of a number; or none, where the formula divides by zero
pub data Value : Type 0 where
  value : ℕ → Value
  no_value : Value

abbrev pub and_then : (ℕ → Value) → Value → Value
and_then f (value b) = f b
and_then f no_value = no_value

-- "the sum, difference and product are taken modulo 2^32", "DIV rounds toward zero; .. −2^31 by −1 gives −2^31"
abbrev pub applied : Operator → ℕ → ℕ → Value
applied Add b t = value (word (signed b +ℤ signed t))
applied Subtract b t = value (word (signed b -ℤ signed t))
applied Multiply b t = value (times b t)
applied Divide b t = cond (holds t) (value (quotient b t)) no_value

-- the value of a tree where the names have these words: a division by zero in any part leaves the whole without one
unfoldable pub worth : (ℕ → ℕ) → Tree → Value
worth names (number n) = value n
worth names (name k) = value (names k)
worth names (negative t) = and_then (λ b. value (word (neg_ℤ (signed b)))) (worth names t)
worth names (joined o left right) = and_then (λ b. and_then (applied o b) (worth names right)) (worth names left)
