-- `put_run` meets its contract: the reset's registers and cells are the run's, and the run's are reported. Assumes nothing.
use mathlib.Core.Path.{◌≡◌}
use mathlib.Core.List.{[]}
use native.Mathlib.Omega.{arith}
use Rattle.program.specs.Lent.{program_of}
use Rattle.rules.specs.State.{memory}
use Rattle.rules.specs.Console.{console_run}
use Rattle.console.proofs.ConsoleRun as law
use Rattle.console.proofs.report.put_run.Goals as goal
use Rattle.console.proofs.report.put_run.Goals.{After-run-ran}

console_ran : (c : After-run-ran)
    → console_run (program_of c.args.p)
    ≡ record { answer = c.run-ran.result; memory = memory c.run-ran.new.bits c.run-ran.new.tags [] c.run-ran.new.output }
console_ran c =
    let reset = c.reset-start in
    let run = c.run-ran in
    law.console_ran (program_of c.args.p) reset.result c.registers_begun.result run.result
    reset.new.bits reset.new.tags reset.new.history reset.new.output
    run.new.bits run.new.tags run.new.history run.new.output
    c.registers_begun.ensures
    reset.ensures run.ensures.value run.ensures.output_after (omega (arith, run.auto, reset.auto))

pub put_report-requires : goal.put_report-requires
put_report-requires c =
    let run = c.run-ran in
    let kept = run.auto in
    let begun = c.reset-start.auto in
    let p = program_of c.args.p in
    let w = law.ran_within p run.result (memory run.new.bits run.new.tags [] run.new.output) (console_ran (goal.at.put_report-requires c).After-run-ran) in
    record {
      sp_lt_console_cells = (w.sp, omega (arith, kept, begun), omega (arith, kept, begun));
      written_le_max_output = (w.written, omega (arith, kept, begun));
    }

pub returns : goal.returns
returns c = rw (console_ran (goal.at.returns c).After-run-ran) c.put_report.ensures
