-- Ten codes have an operand, and by the table's rule no other has; the kinds of the ten are computed from the table. Assumes nothing.
use mathlib.Core.Path.{sym}
use Rattle.std.proofs.Common.{rules}
use Rattle.program.proofs.OperandCodes.{bare_elsewhere}
use Rattle.program.proofs.kinds.kind_of.Goals as goal

pub returns-in_default : goal.returns-in_default
returns-in_default c = sym (bare_elsewhere _ (search rules))
