-- Document 02, letter m: what a formula is: "A formula has integers 0 to 2147483647, names a to h, + - * /, unary minus and round brackets, with * and /
-- before + and -, all four grouping to the left, unary minus before them all; spaces are allowed." Its text as tokens, and the tokens as a tree, by a
-- grammar, or the refusal of the first token from the left that cannot stand. Assumes nothing.
use Rattle.std.specs.Prelude.{ℕ, zero, suc, ◌+◌, ◌-◌, ◌*◌, Bool, true, false, cond, ◌&&◌, List, [], ◌∷◌, eqb, leb, length}
use Prim.Native.Char.{code}
use Rattle.rules.specs.Sizes.{max_program, max_integer, max_nesting}
use Rattle.rules.specs.Bytes.{space, zero_digit}
use Rattle.rules.specs.declared.Operator.{Operator}
use Rattle.rules.specs.declared.Operator.TheVariants.{Add, Subtract, Multiply, Divide}
use Rattle.rules.specs.declared.FormulaRefusal.{FormulaRefusal}
use Rattle.rules.specs.declared.FormulaRefusal.TheVariants.{FormulaByte, CannotGoOn, NumberTooLarge, NestedTooDeep, CostTooHigh}

-- ---- a formula, as a tree

-- brackets leave no trace in it
pub data Tree : Type 0 where
  -- "integers 0 to 2147483647"
  number : ℕ → Tree
  -- "names a to h", as 0 to 7
  name : ℕ → Tree
  -- "unary minus"
  negative : Tree → Tree
  -- an operator between its two sides
  joined : Operator → Tree → Tree → Tree

-- ---- tokens

pub data Token : Type 0 where
  -- a run of digits, by its number
  digits : ℕ → Token
  letter : ℕ → Token
  sign : Operator → Token
  opening : Token
  closing : Token
  -- any other byte
  forbidden : Token

-- a byte that is no digit and no space
unfoldable pub sorted : ℕ → Token
sorted b =
    cond (leb (code "a") b && leb b (code "h")) (letter (b - code "a"))
    (cond (eqb b (code "+")) (sign Add)
    (cond (eqb b (code "-")) (sign Subtract)
    (cond (eqb b (code "*")) (sign Multiply)
    (cond (eqb b (code "/")) (sign Divide)
    (cond (eqb b (code "(")) opening
    (cond (eqb b (code ")")) closing forbidden))))))

unfoldable pub digit : ℕ → Bool
digit b = leb (code "0") b && leb b (code "9")

-- "spaces are allowed": a byte that is no digit, before the tokens that follow it
unfoldable pub before : ℕ → List Token → List Token
before b rest = cond (eqb b space) rest (sorted b ∷ rest)

unfoldable mutual
  -- the tokens of a text: single bytes but for runs of digits
  pub tokens : List ℕ → List Token
  tokens [] = []
  tokens (b ∷ s) =
      let run = number_then (b - zero_digit) s in
      let rest = before b (tokens s) in
      cond (digit b) run rest

  -- the tokens of a text that stands behind digits which make n
  pub number_then : ℕ → List ℕ → List Token
  number_then n [] = digits n ∷ []
  number_then n (b ∷ s) =
      let run = number_then (n * 10 + (b - zero_digit)) s in
      let rest = digits n ∷ before b (tokens s) in
      cond (digit b) run rest

-- ---- what is read of the tokens

-- a tree, with what is spent so far ("Each number, name and two-sided operator costs one instruction, unary minus two (PUSHIMM -1, TIMES), STOP one"), and the
-- tokens that are left; or a refusal
pub data Reading : Type 0 where
  read : Tree → ℕ → List Token → Reading
  refused : FormulaRefusal → Reading

-- what reads the tokens from some place on, where so much is spent
abbrev pub Reader : Type 0
Reader = ℕ → List Token → Reading

-- what is read, where the test holds: "70 .., 71 .., 72 .., 73 .., 28 ..", the first test that fails decides
abbrev pub require : Bool → FormulaRefusal → Reading → Reading
require true e r = r
require false e r = refused e

-- "28 this token's cost, with STOP, passes 1,024": not so
abbrev pub affordable : ℕ → Bool
affordable spent = leb spent max_program

-- "70 forbidden byte, 71 the formula cannot go on or end here": of the first token, where it can have no place here, or of the end
abbrev pub misplaced : List Token → FormulaRefusal
misplaced [] = CannotGoOn
misplaced (digits n ∷ ts) = CannotGoOn
misplaced (letter k ∷ ts) = CannotGoOn
misplaced (sign o ∷ ts) = CannotGoOn
misplaced (opening ∷ ts) = CannotGoOn
misplaced (closing ∷ ts) = CannotGoOn
misplaced (forbidden ∷ ts) = FormulaByte

abbrev pub after : (Tree → ℕ → List Token → Reading) → Reading → Reading
after f (read t spent ts) = f t spent ts
after f (refused e) = refused e

-- ---- the grammar

-- "* and / before + and -"
abbrev pub is_product : Operator → Bool
is_product Add = false
is_product Subtract = false
is_product Multiply = true
is_product Divide = true

abbrev pub is_sum : Operator → Bool
is_sum Add = true
is_sum Subtract = true
is_sum Multiply = false
is_sum Divide = false

-- whether one of these operators stands first, and what is behind it
pub data Following : Type 0 where
  operator : Operator → List Token → Following
  none : Following

abbrev pub following : (Operator → Bool) → List Token → Following
following these [] = none
following these (digits n ∷ ts) = none
following these (letter k ∷ ts) = none
following these (sign o ∷ ts) = cond (these o) (operator o ts) none
following these (opening ∷ ts) = none
following these (closing ∷ ts) = none
following these (forbidden ∷ ts) = none

abbrev pub goes_on : (Operator → List Token → Reading) → Reading → Following → Reading
goes_on f end (operator o ts) = f o ts
goes_on f end none = end

-- "all four grouping to the left": the tree so far is the left side of an operator of these that follows, and what the reader reads next is its right
-- side; and so on. Each turn takes a token, so that as many turns as there are tokens are enough.
unfoldable pub chain : (Operator → Bool) → Reader → (turns : ℕ) → Tree → Reader
chain these reads zero left spent ts = read left spent ts
chain these reads (suc turns) left spent ts =
    goes_on
    (λ o rest.
    let more = after (λ right. chain these reads turns (joined o left right)) (reads (spent + 1) rest) in
    require (affordable (spent + 1)) CostTooHigh more)
    (read left spent ts)
    (following these ts)

-- one or more of what the reader reads, with these operators between them
abbrev pub chained : (Operator → Bool) → Reader → Reader
chained these reads spent ts = after (chain these reads (length ts)) (reads spent ts)

-- product = operand { ( * | / ) operand }, sum = product { ( + | - ) product }
abbrev pub sum : Reader → Reader
sum operands = chained is_sum (chained is_product operands)

abbrev pub negated : Reading → Reading
negated r = after (λ t. read (negative t)) r

-- "unary minus before them all": an operand behind the sign
abbrev pub minus : Reader → Reader
minus operands spent ts =
    let inner = negated (operands (spent + 2) ts) in
    require (affordable (spent + 2)) CostTooHigh inner

-- the closing bracket behind a sum
abbrev pub closed_by : Tree → ℕ → List Token → Reading
closed_by t spent [] = refused (misplaced [])
closed_by t spent (digits n ∷ ts) = refused (misplaced (digits n ∷ ts))
closed_by t spent (letter k ∷ ts) = refused (misplaced (letter k ∷ ts))
closed_by t spent (sign o ∷ ts) = refused (misplaced (sign o ∷ ts))
closed_by t spent (opening ∷ ts) = refused (misplaced (opening ∷ ts))
closed_by t spent (closing ∷ ts) = read t spent ts
closed_by t spent (forbidden ∷ ts) = refused (misplaced (forbidden ∷ ts))

-- a sum in brackets, whose opening one was read
abbrev pub bracketed : Reader → Reader
bracketed operands spent ts = after closed_by (sum operands spent ts)

abbrev pub too_deep : Reader
too_deep spent ts = refused NestedTooDeep

-- operand = number | name | - operand | ( sum ), by what reads on behind a minus sign and behind an opening bracket
abbrev pub operand_by : (behindSign behindBracket : Reader) → Reader
operand_by s b spent [] = refused (misplaced [])
operand_by s b spent (digits n ∷ ts) =
    require (leb n max_integer) NumberTooLarge (require (affordable (spent + 1)) CostTooHigh (read (number n) (spent + 1) ts))
operand_by s b spent (letter k ∷ ts) = require (affordable (spent + 1)) CostTooHigh (read (name k) (spent + 1) ts)
operand_by s b spent (sign Add ∷ ts) = refused (misplaced (sign Add ∷ ts))
operand_by s b spent (sign Subtract ∷ ts) = s spent ts
operand_by s b spent (sign Multiply ∷ ts) = refused (misplaced (sign Multiply ∷ ts))
operand_by s b spent (sign Divide ∷ ts) = refused (misplaced (sign Divide ∷ ts))
operand_by s b spent (opening ∷ ts) = b spent ts
operand_by s b spent (closing ∷ ts) = refused (misplaced (closing ∷ ts))
operand_by s b spent (forbidden ∷ ts) = refused (misplaced (forbidden ∷ ts))

-- "Expressions nest up to 16 deep, from 0, unary minus and brackets each adding one.": so many may still be opened here
unfoldable pub operand : (nesting : ℕ) → Reader
operand zero spent ts = operand_by too_deep too_deep spent ts
operand (suc nesting) spent ts = operand_by (minus (operand nesting)) (bracketed (operand nesting)) spent ts

-- ---- a whole formula

pub data Parsed : Type 0 where
  formula : Tree → Parsed
  unfit : FormulaRefusal → Parsed

-- nothing may stand behind it
abbrev pub whole : Reading → Parsed
whole (read t spent []) = formula t
whole (read t spent (k ∷ ts)) = unfit (misplaced (k ∷ ts))
whole (refused e) = unfit e

-- STOP is spent from the start
unfoldable pub parse : List ℕ → Parsed
parse source = whole (sum (operand max_nesting) 1 (tokens source))
