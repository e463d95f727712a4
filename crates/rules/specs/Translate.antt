-- Document 02, letter m: "Add a translator from one formula to a program ending in STOP." The code of a tree, its cost and its depth, and the call. Assumes
-- nothing.
use Rattle.std.specs.Prelude.{ℕ, ◌+◌, ◌-◌, ◌^◌, max, cond, List, [], ◌∷◌, ◌++◌, eqb, leb, length, replicate, Ok, Err}
use Rattle.rules.specs.Sizes.{max_source, max_program}
use Rattle.rules.specs.Outputs.{blanked}
use Rattle.rules.specs.Table.{Program, program, place_of}
use Rattle.rules.specs.Grammar.{Tree, number, name, negative, joined, Parsed, formula, unfit, parse}
use Rattle.rules.specs.declared.Operator.{Operator}
use Rattle.rules.specs.declared.Operator.TheVariants.{Add, Subtract, Multiply, Divide}
use Rattle.rules.specs.declared.FormulaRefusal.{FormulaRefusal}
use Rattle.rules.specs.declared.FormulaRefusal.TheVariants.{TableLength, FormulaTooLong}
use Rattle.rules.specs.Answers.{Formulated}

-- ---- the instructions of a formula, as places of the table; `Translations` holds them to the names of the instructions

abbrev pub stop : ℕ
stop = place_of 0 0

-- PUSHIMM n
abbrev pub push_number : ℕ → ℕ
push_number n = place_of 1 n

-- "Names are read by PUSHOFF 0 to 7"
abbrev pub push_name : ℕ → ℕ
push_name k = place_of 42 k

-- ADD, SUB, TIMES, DIV
abbrev pub operation : Operator → ℕ
operation Add = place_of 5 0
operation Subtract = place_of 6 0
operation Multiply = place_of 7 0
operation Divide = place_of 8 0

-- "unary minus two (PUSHIMM -1, TIMES)"
abbrev pub negation : List ℕ
negation = push_number (2 ^ 32 - 1) ∷ operation Multiply ∷ []

-- ---- the code of a tree: an operator stands after its two sides, unary minus after its operand

unfoldable pub code_for : Tree → List ℕ
code_for (number n) = push_number n ∷ []
code_for (name k) = push_name k ∷ []
code_for (negative t) = code_for t ++ negation
code_for (joined o left right) = code_for left ++ (code_for right ++ (operation o ∷ []))

-- "a program ending in STOP"
abbrev pub instructions_for : Tree → List ℕ
instructions_for t = code_for t ++ (stop ∷ [])

-- "Each number, name and two-sided operator costs one instruction, unary minus two (PUSHIMM -1, TIMES), STOP one.": but for STOP
unfoldable pub cost : Tree → ℕ
cost (number n) = 1
cost (name k) = 1
cost (negative t) = cost t + 2
cost (joined o left right) = cost left + cost right + 1

-- "The depth told with it is the most values it ever holds above the SP it began with.": while the right side is worked out the left one is held, and -1
-- stands above what unary minus takes
unfoldable pub depth : Tree → ℕ
depth (number n) = 1
depth (name k) = 1
depth (negative t) = max (depth t) 2
depth (joined o left right) = max (depth left) (1 + depth right)

-- ---- the translator

-- "unused places zero"
abbrev pub table_for : Tree → List ℕ
table_for t = instructions_for t ++ replicate (max_program - length (instructions_for t)) 0

-- the program in its table
abbrev pub program_for : Tree → Program
program_for t = program (table_for t) (length (instructions_for t))

-- the answer, and the table that it leaves
pub record Translation : Type 0 where
  pub answer : Formulated
  pub table : List ℕ

-- "a refusal tells zeros and zeroes a table of right length"
abbrev pub no_translation : List ℕ → FormulaRefusal → Translation
no_translation table e = record { answer = Err e; table = blanked max_program table }

abbrev pub translation : List ℕ → Parsed → Translation
translation table (formula t) = record { answer = Ok (record { length = length (instructions_for t); depth = depth t }); table = table_for t }
translation table (unfit e) = no_translation table e

-- "31 comes first and 21 next"
unfoldable pub translate : List ℕ → List ℕ → Translation
translate source table =
    let read = translation table (parse source) in
    cond (eqb (length table) max_program)
    (cond (leb (length source) max_source) read (no_translation table FormulaTooLong))
    (no_translation table TableLength)
