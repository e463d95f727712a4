-- A statement about every row of the table of instructions, shown row by row, holds of the row of every code. Assumes nothing.
use Prim.Native.Nat.{ℕ, zero, suc}
use mathlib.Core.List.{List, [], ◌∷◌}
use lib.ListN.{get_or}
use Rattle.rules.specs.Instructions.{Row, rows, row_of}

-- a statement for each row of a list, in their order
infixr 5 ◌then◌
pub data EachRow (P : Row → Type 0) : List Row → Type 0 where
  end : EachRow P []
  ◌then◌ : {w : Row} {l : List Row} → P w → EachRow P l → EachRow P (w ∷ l)

each_row : {P : Row → Type 0} (d : Row) → P d → (l : List Row) → EachRow P l → (c : ℕ) → P (get_or l c d)
each_row d z [] end c = z
each_row d z (w ∷ l) (h then hs) zero = h
each_row d z (w ∷ l) (h then hs) (suc c) = each_row d z l hs c

-- past the end there is the row of STOP, code 0
pub at_code : (P : Row → Type 0) → EachRow P rows → (c : ℕ) → P (row_of c)
unfolding row_of rows
at_code P (h then hs) c = each_row {P = P} _ h rows (h then hs) c
