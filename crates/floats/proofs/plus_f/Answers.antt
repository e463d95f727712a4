-- `floats::plus_f` meets its contract. Assumes nothing.
use Rattle.std.proofs.Common.{rules}
use lib.Ieee.{add}
use Rattle.rules.specs.Floats.{plus_f}
use Rattle.floats.proofs.Nan.{add_strict, rounded_is}
use Rattle.floats.proofs.plus_f.Goals as goal

pub returns : goal.returns
unfolding plus_f
returns c =
    rounded_is add add_strict _ _ _ c.rounded.ensures.nan (λ h.
    let k = c.rounded.ensures.number h in
    search rules)
