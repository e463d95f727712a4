-- Side by side is a sum of products. Assumes nothing.
use mathlib.Core.List.{[], ◌∷◌}
use native.Mathlib.Omega.{arith}
use Rattle.rules.specs.SavedState.{saved_cell_layout}
use Rattle.rules.proofs.Layouts.{side_value}
use Rattle.saved.proofs.head.cell_number.Goals as goal

pub returns : goal.returns
returns c = omega (arith, side_value saved_cell_layout (c.args.tag ∷ c.args.bits ∷ []))
