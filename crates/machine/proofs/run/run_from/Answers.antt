-- The answers of `machine::run::run_from`: the loop stands where the run has come to. Assumes nothing.
use borrow.Author.Rules.{rules}
use Rattle.program.specs.Lent.{program_of}
use Rattle.rules.specs.State.{memory}
use Rattle.machine.proofs.Running.{start_halted, reached_start, reached_limit, reached_refused, next_halted, next_sizes, reached_next}
use Rattle.machine.proofs.run.run_from.Goals as goal

pub returns-then-r-ne0-clause-output_after : goal.returns-then-r-ne0-clause-output_after
returns-then-r-ne0-clause-output_after c =
    let a = c.args in
    let p = program_of a.p in
    let m₀ = memory a.bits.now a.tags.now a.history.now a.output.now in
    rw c.ended.ensures (start_halted p a.limit a.r m₀ c.requires.output_value c.if-r-ne0.true)

pub loop-made-init : goal.loop-made-init
loop-made-init c =
    let a = c.args in
    reached_start (program_of a.p) a.limit a.r (memory a.bits.now a.tags.now a.history.now a.output.now) c.requires.output_value c.if-r-ne0.false

pub returns-in-Refused-clause-output_after : goal.returns-in-Refused-clause-output_after
returns-in-Refused-clause-output_after c =
    let a = c.args in
    let p = program_of a.p in
    let m₀ = memory a.bits.now a.tags.now a.history.now a.output.now in
    let l = c.loop-made in
    let m = memory l.bits l.tags l.history l.output in
    let taken = c.take_step in
    rw c.ended-in-Refused.ensures
    (reached_refused p a.limit a.r m₀ l.made l.at m l.invariant c.loop-made-test.true _ _ _ _ taken.result c.in-Refused.refusal c.in-Refused.is taken.ensures)

pub returns-then-registers-ne0-clause-output_after : goal.returns-then-registers-ne0-clause-output_after
returns-then-registers-ne0-clause-output_after c =
    let a = c.args in
    let p = program_of a.p in
    let m₀ = memory a.bits.now a.tags.now a.history.now a.output.now in
    let l = c.loop-made in
    let m = memory l.bits l.tags l.history l.output in
    let taken = c.take_step in
    rw c.ended-then-registers-ne0.ensures
    (next_halted p a.limit a.r m₀ l.made l.at m l.invariant c.loop-made-test.true _ _ _ _ taken.result c.in-Next.registers c.in-Next.is taken.ensures c.if-registers-ne0.true)

pub with_sizes-at-requires : goal.with_sizes-at-requires
with_sizes-at-requires c =
    let a = c.args in
    let p = program_of a.p in
    let m₀ = memory a.bits.now a.tags.now a.history.now a.output.now in
    let l = c.loop-made in
    let m = memory l.bits l.tags l.history l.output in
    let taken = c.take_step in
    let kept = taken.auto in
    next_sizes p a.limit a.r m₀ l.made l.at m l.invariant c.loop-made-test.true _ _ _ _ taken.result c.in-Next.registers c.in-Next.is taken.ensures
    kept.bits kept.tags kept.history c.requires.output_value

pub loop-made-preserved : goal.loop-made-preserved
loop-made-preserved c =
    let a = c.args in
    let p = program_of a.p in
    let m₀ = memory a.bits.now a.tags.now a.history.now a.output.now in
    let l = c.loop-made in
    let m = memory l.bits l.tags l.history l.output in
    let taken = c.take_step in
    let kept = taken.auto in
    rw c.with_sizes-at.ensures
    (reached_next p a.limit a.r m₀ l.made l.at m l.invariant c.loop-made-test.true _ _ _ _ taken.result c.in-Next.registers c.in-Next.is taken.ensures
    kept.bits kept.tags kept.history kept.output c.if-registers-ne0.false)

pub returns-clause-output_after : goal.returns-clause-output_after
returns-clause-output_after c =
    let a = c.args in
    let p = program_of a.p in
    let m₀ = memory a.bits.now a.tags.now a.history.now a.output.now in
    let l = c.loop-made in
    let m = memory l.bits l.tags l.history l.output in
    rw c.ended-2.ensures (reached_limit p a.limit a.r m₀ l.made l.at m l.invariant (search rules) c.loop-made-test.false)
