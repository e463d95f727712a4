-- `assembler::held::FirstPass::judge_all` meets its contract. Invariant: what is left of the tokens, judged from the state held, gives what all give. Assumes nothing.
use Rattle.std.proofs.Common.{◌≡◌, ◌-◌, ◌≤◌, length}
use Rattle.rules.specs.Assemble.{judge}
use Rattle.tokens.specs.Next.{from}
use Rattle.assembler.specs.Held.{state_of}
use Rattle.assembler.proofs.held.FirstPass.judge_all.Given as goal

abbrev pub invariant-loop-token : goal.invariant-loop-token
invariant-loop-token l =
    (l.at ≤ length l.source)
    × (judge (length l.source) (state_of l.source l.initial.table l.initial.self) (from l.source 0) ≡ judge (length l.source) (state_of l.source l.table l.self) (from l.source l.at))

abbrev pub decreases-loop-token : goal.decreases-loop-token
decreases-loop-token l = length l.source - l.at
