-- How much the fields of a saved state's head can say, and so how far into its bits the inner functions go. Assumes nothing.
use Rattle.std.specs.Prelude.{ℕ}

-- the most cells that ten bits announce, and the most bytes that nine do
abbrev pub most_cells : ℕ
most_cells = 1_023

abbrev pub most_bytes : ℕ
most_bytes = 511
