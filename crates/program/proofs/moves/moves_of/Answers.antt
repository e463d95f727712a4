-- Past the last code the moves are STOP's; those of the other arms are computed from the table. Assumes nothing.
use mathlib.Core.Path.{sym, refl}
use Rattle.std.proofs.Common.{rules}
use Rattle.rules.specs.Instructions.{codes, rows, row_of, action_of}
use Rattle.rules.specs.DepthList.{depth_after}
use Rattle.program.proofs.NameTable.{none_below}
use Rattle.program.proofs.SpMoves.{stays_past}
use Rattle.program.proofs.moves.moves_of.Goals as goal

pub returns-in-2 : goal.returns-in-2
unfolding action_of row_of rows depth_after
returns-in-2 c = rw c.in-2.is refl

pub returns-in_default : goal.returns-in_default
returns-in_default c = sym (stays_past _ _ (none_below codes _ (search rules)))
