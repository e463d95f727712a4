-- `machine::run::run_from` meets its contract. The loop stands where the run has come to. Assumes nothing.
use Rattle.program.specs.Lent.{program_of}
use Rattle.rules.specs.State.{memory}
use Rattle.machine.proofs.Running.{Reached}
use Rattle.machine.proofs.run.run_from.Given as goal

abbrev pub invariant-loop-made : goal.invariant-loop-made
invariant-loop-made l =
    Reached (program_of l.p) l.limit l.r (memory l.initial.bits l.initial.tags l.initial.history l.initial.output) l.made l.at (memory l.bits l.tags l.history l.output)
