-- Side by side is a sum of products. Assumes nothing.
use native.Mathlib.Omega.{arith}
use Rattle.rules.specs.SavedState.{head_layout, head_of}
use Rattle.rules.proofs.Layouts.{side_value}
use Rattle.saved.proofs.head.head_of.Goals as goal

pub returns : goal.returns
returns c = omega (arith, side_value head_layout (head_of c.args.r))
