-- `put_report` meets its contract: two lines, those of the cells, and that of what was written. Assumes nothing.
use native.Mathlib.Omega.{arith}
use lib.ListN.{take}
use lib.Seq.{length-take-le}
use Rattle.digits.proofs.Laws.{put_next}
use Rattle.console.proofs.OutLine.{out_short}
use Rattle.console.proofs.Reported as law
use Rattle.console.proofs.report.put_report.Goals as goal

pub overflow_add-result : goal.overflow_add-result
overflow_add-result c =
    let r = c.args.ran.registers in
    let out = out_short (take r.written c.args.output.now) in
    let written = length-take-le r.written c.args.output.now (omega (arith, c.requires.written_le_max_output)) in
    let cells = c.put_cells.ensures.1 in
    let registers = c.put_registers.ensures.1 in
    let ending = c.put_ending-a.ensures.1 in
    omega (arith, c.requires.written_le_max_output, c.requires.sp_lt_console_cells, written, ending, registers, cells, c.put_out.ensures.length_told, out)

pub returns : goal.returns
returns c =
    let out = c.put_out.ensures in
    let cells = c.put_cells.ensures.0 in
    let registers = c.put_registers.ensures.0 in
    let ending = rw c.number.ensures at c.put_ending-a.ensures.0 in
    rw law.report_parts (put_next (put_next (put_next ending registers) cells) out)
