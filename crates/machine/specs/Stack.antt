-- What an instruction reads: the cells, and the two top values, which stand one and two below SP. Assumes nothing.
use Rattle.std.specs.Prelude.{◌-◌}
use Rattle.rules.specs.Cells.{Cells, cells, cell_at}
use Rattle.rules.specs.declared.Cell.{Cell}
use Rattle.machine.specs.declared.stack.Stack.{Stack}

abbrev pub cells_of : Stack → Cells
cells_of s = cells s.bits.now s.tags.now

abbrev pub top : Stack → Cell
top s = cell_at (cells_of s) (record { 0 = s.r.sp - 1 })

abbrev pub second : Stack → Cell
second s = cell_at (cells_of s) (record { 0 = s.r.sp - 2 })
