-- `put_cells` meets its contract. The loop: the lines of the cells passed are written, at most 29 bytes each. Assumes nothing.
use Prim.Native.Nat.{◌≤◌, ◌*◌}
use Rattle.rules.specs.Cells.{cells}
use Rattle.rules.specs.Console.{cell_lines}
use Rattle.digits.specs.Put.{Put}
use Rattle.console.proofs.report.put_cells.Given as goal

abbrev pub invariant-loop-i : goal.invariant-loop-i
invariant-loop-i l =
    (l.told ≤ 29 * l.i) × Put l.initial.out l.out l.at (cell_lines (cells l.bits l.tags) 0 l.i) l.told
