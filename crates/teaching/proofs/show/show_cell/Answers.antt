-- The line of a cell is short. Assumes nothing.
use Rattle.std.proofs.Common.{arith, sym, length-take-le}
use Rattle.console.proofs.Writing.{cell_short}
use Rattle.teaching.proofs.show.show_cell.Goals as goal

pub slice_bounds-line-end : goal.slice_bounds-line-end
slice_bounds-line-end g c =
    let put = c.put_cell-told in
    omega (arith, put.auto.out, put.ensures.length_told, cell_short 0 c.args.cell)

pub slice_bounds-write_all-end-2 : goal.slice_bounds-write_all-end-2
slice_bounds-write_all-end-2 g c =
    let put = c.put_cell-told in
    sym (length-take-le put.result put.new.out (omega (arith, put.auto.out, put.ensures.length_told, cell_short 0 c.args.cell)))
