-- `put_cell` meets its contract: the line is made in zeros of its own, and put from there. Assumes nothing.
use Prim.Native.Nat.{◌≤◌}
use native.Mathlib.Omega.{arith}
use lib.ListN.{length}
use Rattle.rules.specs.Console.{cell_line}
use Rattle.console.proofs.Writing as law
use Rattle.console.proofs.lines.put_cell.Goals as goal

pub returns : goal.returns
returns c =
    let made = c.put_cell_line-n in
    let h : length (cell_line c.args.i c.args.cell) ≤ 64 = omega (arith, made.ensures.0.length_told, made.ensures.1) in
    rw (law.whole 64 _ _ _ h made.ensures.0) at c.put_text.ensures
