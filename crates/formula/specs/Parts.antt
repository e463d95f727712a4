-- How a formula is read and its code written: with `written` instructions in the table and `owed` that were read and do not stand there yet, STOP among them, what is
-- read is what the rules read where `written + owed` is spent. Assumes nothing.
use Rattle.std.specs.Prelude.{ℕ, suc, ◌+◌, ◌-◌, ◌≤◌, max, ◌≡◌, Bool, true, false, List, [], ◌∷◌, length, replicate, Result, Ok, Err}
use Rattle.rules.specs.Lists.{splice}
use Rattle.rules.specs.Sizes.{max_program}
use Rattle.rules.specs.Grammar.{Tree, Token, Reading, read, refused, Reader, affordable, misplaced, is_sum, is_product, chained, closed_by, formula, unfit, parse}
use Rattle.rules.specs.Translate.{operation, code_for, instructions_for, cost, depth, table_for}
use Rattle.rules.specs.declared.Operator.{Operator}
use Rattle.rules.specs.declared.FormulaRefusal.{FormulaRefusal}
use Rattle.rules.specs.declared.FormulaRefusal.TheVariants.{CostTooHigh, NestedTooDeep}
use Rattle.rules.specs.Answers.{Formulated}
use Rattle.formula.specs.declared.parts.Cursor.{Cursor}
use Rattle.formula.specs.declared.parts.Reached.{Reached}
use Rattle.formula.specs.declared.reading.Level.{Level}
use Rattle.formula.specs.declared.reading.Level.TheVariants.{Sum, Product}
use Rattle.formula.specs.Scans.{tokens_from}

-- a part of a formula: where it was read to, or its refusal
abbrev pub Part : Type 0
Part = Result Reached FormulaRefusal

-- ---- where reading stands

-- from where it may be read: there is room for what is owed
pub record Start (table : List ℕ) (from : Cursor) : Type 0 where
  pub places : length table ≡ max_program
  pub some : 1 ≤ from.owed
  pub fits : from.written + from.owed ≤ max_program

-- inside a sign or a bracket
abbrev pub Inner : Cursor → (end : ℕ) → Result Cursor FormulaRefusal → Type 0
Inner from end (Ok c) = (from.nesting ≡ suc (from.nesting - 1)) × (c ≡ record from { at = end; nesting = from.nesting - 1 })
Inner from end (Err e) = (from.nesting ≡ 0) × (e ≡ NestedTooDeep)

-- with more owed
abbrev pub Owing : Cursor → (count : ℕ) → Result Cursor FormulaRefusal → Type 0
Owing from count (Ok c) = (affordable (from.written + from.owed + count) ≡ true) × (c ≡ record from { owed = from.owed + count })
Owing from count (Err e) = (affordable (from.written + from.owed + count) ≡ false) × (e ≡ CostTooHigh)

-- ---- what is read

-- the tree that was read: its code is written, and the tokens that are left are those from the place that was reached
pub record ReadTo (f : List ℕ) (x : Reading) (before after : List ℕ) (from : Cursor) (q : Reached) : Type 0 where
  pub tree : Tree
  pub reading : x ≡ read tree (q.written + from.owed) (tokens_from f q.at)
  pub code : after ≡ splice before from.written (code_for tree)
  pub count : q.written ≡ from.written + cost tree
  pub deep : q.depth ≡ depth tree
  pub fits : q.written + from.owed ≤ max_program

-- what a reader reads from there
abbrev pub reading_from : List ℕ → Reader → Cursor → Reading
reading_from f reads from = reads (from.written + from.owed) (tokens_from f from.at)

abbrev pub Reads : List ℕ → Reader → (before after : List ℕ) → Cursor → Part → Type 0
Reads f reads before after from (Ok q) = ReadTo f (reading_from f reads from) before after from q
Reads f reads before after from (Err e) = reading_from f reads from ≡ refused e

-- the operators of a level
abbrev pub these : Level → Operator → Bool
these Sum o = is_sum o
these Product o = is_product o

-- one side of an operator of the level; and all that its operators join
abbrev pub side : Level → Reader → Reader
side Sum operands = chained is_product operands
side Product operands = operands

abbrev pub chain_of : Level → Reader → Reader
chain_of level operands = chained (these level) (side level operands)

-- ---- what is written

-- a part leaves room for n instructions
pub record Leaves (table : List ℕ) (q : Reached) (n : ℕ) : Type 0 where
  pub places : length table ≡ max_program
  pub fits : q.written + n ≤ max_program
  pub shallow : q.depth ≤ max_program

-- a number or a name, whose token ends there
abbrev pub Pushed : (before after : List ℕ) → (place end : ℕ) → Cursor → Part → Type 0
Pushed before after place end from (Ok q) =
    (affordable (from.written + from.owed + 1) ≡ true) × (q ≡ record { at = end; written = from.written + 1; depth = 1 })
    × (after ≡ splice before from.written (place ∷ []))
Pushed before after place end from (Err e) = (affordable (from.written + from.owed + 1) ≡ false) × (e ≡ CostTooHigh) × (after ≡ before)

-- unary minus behind its operand
abbrev pub negated_to : Reached → Reached
negated_to q = record { at = q.at; written = q.written + 2; depth = max q.depth 2 }

-- an operator behind its right side, with the depth of the left one
abbrev pub joined_to : (left right : Reached) → Reached
joined_to left right = record { at = right.at; written = right.written + 1; depth = max left.depth (1 + right.depth) }

abbrev pub with_operation : List ℕ → Operator → Reached → List ℕ
with_operation table o q = splice table q.written (operation o ∷ [])

-- ---- what stands behind it

-- the closing bracket behind a sum
abbrev pub Closed : List ℕ → Reached → Part → Type 0
Closed f q (Ok p) =
    (p.written ≡ q.written) × (p.depth ≡ q.depth)
    × ((t : Tree) (spent : ℕ) → closed_by t spent (tokens_from f q.at) ≡ read t spent (tokens_from f p.at))
Closed f q (Err e) = (t : Tree) (spent : ℕ) → closed_by t spent (tokens_from f q.at) ≡ refused e

-- the end behind a sum: the answer, STOP among the instructions
abbrev pub Ended : List ℕ → Reached → Formulated → Type 0
Ended f q (Ok p) = (p.length ≡ q.written + 1) × (p.depth ≡ q.depth) × (tokens_from f q.at ≡ [])
Ended f q (Err e) = (k : Token) × (ts : List Token) × (tokens_from f q.at ≡ k ∷ ts) × (e ≡ misplaced (k ∷ ts))

-- ---- a whole formula

-- a table of zeros
abbrev pub blank : List ℕ
blank = replicate max_program 0

-- its program stands in the table, or it is refused
abbrev pub Whole : List ℕ → (after : List ℕ) → Formulated → Type 0
Whole f after (Ok p) = (t : Tree) × (parse f ≡ formula t) × (p.length ≡ length (instructions_for t)) × (p.depth ≡ depth t) × (after ≡ table_for t)
Whole f after (Err e) = parse f ≡ unfit e
