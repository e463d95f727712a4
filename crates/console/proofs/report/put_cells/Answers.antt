use native.Mathlib.Omega.{arith}
use Rattle.rules.specs.Cells.{cells, cell_at}
use Rattle.digits.proofs.Laws.{put_append}
use Rattle.console.proofs.Writing.{cell_short}
use Rattle.console.proofs.Reported.{cells_none, cells_next}
use Rattle.console.proofs.report.put_cells.Goals as goal

pub loop-i-init : goal.loop-i-init
loop-i-init c =
    let e = cells_none (cells c.args.bits.now c.args.tags.now) in
    (omega arith, record { length_told = rw e; written = rw e })

pub loop-i-preserved : goal.loop-i-preserved
loop-i-preserved c =
    let live = cells c.args.bits.now c.args.tags.now in
    let put = c.put_cell-told in (
      omega (arith, put.ensures.length_told, cell_short c.loop-i.i (cell_at live (record { 0 = c.loop-i.i }))),
      rw (cells_next live c.loop-i.i) (put_append c.loop-i.invariant.1 put.ensures),
    )
