-- `assembler::position::position_of` meets its contract. Invariant: line and column are those of the bytes so far. Assumes nothing.
use Rattle.std.proofs.Common.{◌≡◌, ◌+◌, ◌≤◌, length, take}
use Rattle.rules.specs.Positions.{line_feeds, since_lf}
use Rattle.assembler.proofs.position.position_of.Given as goal

abbrev pub invariant-loop-b : goal.invariant-loop-b
invariant-loop-b l =
    (l.line ≡ line_feeds (take l.b-index l.before) + 1)
    × (l.column ≡ length (since_lf (take l.b-index l.before)) + 1)
    × (l.line ≤ l.b-index + 1)
    × (l.column ≤ l.b-index + 1)
