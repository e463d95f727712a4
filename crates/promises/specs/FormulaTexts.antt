-- Request m: "with * and / before + and -, all four grouping to the left, unary minus before them all; spaces are allowed": how a tree is written as a formula, with
-- brackets only where these words need them; and what is promised of that text, which proofs/FormulaTexts.antt shows. Assumes nothing.
use Rattle.std.specs.Prelude.{ℕ, suc, ◌+◌, ◌≤◌, max, ◌≡◌, Bool, true, false, List, [], ◌∷◌, ◌++◌, length, Ok}
use Prim.Native.Char.{code}
use Rattle.rules.specs.Sizes.{max_source, max_program, max_nesting}
use Rattle.rules.specs.Bytes.{space}
use Rattle.rules.specs.Listing.{decimal}
use Rattle.rules.specs.Grammar.{Tree, number, name, negative, joined, Token, digits, letter, sign, opening, closing, forbidden, is_sum, formula, parse}
use Rattle.rules.specs.Translate.{cost, depth, table_for, translate}
use Rattle.rules.specs.declared.Operator.{Operator}
use Rattle.rules.specs.declared.Operator.TheVariants.{Add, Subtract, Multiply, Divide}
use Rattle.formula.specs.Trees.{Proper}

-- ---- a tree as tokens

-- where it stands: as a whole sum, as one of the products of a sum, or as one of the operands of a product
pub data Level : Type 0 where
  as_sum : Level
  as_product : Level
  as_operand : Level

-- "* and / before + and -": whether an operator, + or - or else * or /, stands in brackets there
abbrev pub enclosed : (ofSums : Bool) → Level → Bool
enclosed b as_sum = false
enclosed b as_product = b
enclosed b as_operand = true

-- "all four grouping to the left": a side of the same kind needs no brackets on the left, and does on the right
abbrev pub left_of : Operator → Level
left_of Add = as_sum
left_of Subtract = as_sum
left_of Multiply = as_product
left_of Divide = as_product

abbrev pub right_of : Operator → Level
right_of Add = as_product
right_of Subtract = as_product
right_of Multiply = as_operand
right_of Divide = as_operand

abbrev pub brackets : Bool → List Token → List Token
brackets true ts = opening ∷ (ts ++ (closing ∷ []))
brackets false ts = ts

-- "unary minus before them all"
unfoldable pub tokens_of : Level → Tree → List Token
tokens_of l (number n) = digits n ∷ []
tokens_of l (name k) = letter k ∷ []
tokens_of l (negative t) = sign Subtract ∷ tokens_of as_operand t
tokens_of l (joined o left right) = brackets (enclosed (is_sum o) l) (tokens_of (left_of o) left ++ (sign o ∷ tokens_of (right_of o) right))

-- "Expressions nest .., from 0, unary minus and brackets each adding one."
abbrev pub one_more : Bool → ℕ → ℕ
one_more true n = suc n
one_more false n = n

unfoldable pub nesting : Level → Tree → ℕ
nesting l (number n) = 0
nesting l (name k) = 0
nesting l (negative t) = suc (nesting as_operand t)
nesting l (joined o left right) = one_more (enclosed (is_sum o) l) (max (nesting (left_of o) left) (nesting (right_of o) right))

-- ---- tokens as bytes

abbrev pub sign_byte : Operator → ℕ
sign_byte Add = code "+"
sign_byte Subtract = code "-"
sign_byte Multiply = code "*"
sign_byte Divide = code "/"

-- a number of ten digits at most, without leading zeros
abbrev pub bytes_of : Token → List ℕ
bytes_of (digits n) = decimal 9 n
bytes_of (letter k) = (code "a" + k) ∷ []
bytes_of (sign o) = sign_byte o ∷ []
bytes_of opening = code "(" ∷ []
bytes_of closing = code ")" ∷ []
bytes_of forbidden = code "$" ∷ []

-- "spaces are allowed": one behind each token
unfoldable pub spelled : List Token → List ℕ
spelled [] = []
spelled (t ∷ ts) = bytes_of t ++ (space ∷ spelled ts)

-- the text of a tree
abbrev pub text_of : Tree → List ℕ
text_of t = spelled (tokens_of as_sum t)

-- ---- what is promised of every tree

-- within the bounds of a formula
pub record Bounded (t : Tree) : Type 0 where
  -- "integers 0 to 2147483647, names a to h"
  pub proper : Proper t
  -- "Expressions nest up to 16 deep, from 0, unary minus and brackets each adding one."
  pub nested : nesting as_sum t ≤ max_nesting
  -- "28 this token's cost, with STOP, passes 1,024": none does
  pub fits : cost t + 1 ≤ max_program

-- its text, and the call with it
pub record Written (t : Tree) : Type 0 where
  -- the grammar reads it as that tree
  pub read : parse (text_of t) ≡ formula t
  -- "Source 0 to 65,536 bytes"
  pub short : length (text_of t) ≤ max_source
  -- so it is refused by no number: into a table of right length, whatever it held, the code of that tree is written, and its length and its depth are told
  pub taken : (lent : List ℕ) → length lent ≡ max_program → translate (text_of t) lent ≡ record { answer = Ok (record { length = cost t + 1; depth = depth t }); table = table_for t }

-- so every tree within the bounds has a formula that is translated to its code
abbrev pub Translatable : Tree → Type 0
Translatable t = Bounded t → Written t
