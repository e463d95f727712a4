-- The cells of a saved state, one by one. Assumes nothing.
use Rattle.std.specs.Prelude.{ℕ, ◌+◌, ◌*◌, List, drop}
use Rattle.rules.specs.Fields.{field_in}
use Rattle.rules.specs.SavedState.{head_width, saved_cell_layout, saved_cell_width}
use Rattle.rules.specs.declared.Cell.{Cell}

-- the cell at the front of the bits: its bits, and its tag
abbrev pub saved_cell : List ℕ → Cell
saved_cell l = record { bits = field_in saved_cell_layout 1 l; tag = field_in saved_cell_layout 0 l }

-- cell i, behind the head
unfoldable pub cell_in : ℕ → List ℕ → Cell
cell_in i l = saved_cell (drop (head_width + i * saved_cell_width) l)
