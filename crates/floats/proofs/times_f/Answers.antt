-- `floats::times_f` meets its contract. Assumes nothing.
use Rattle.std.proofs.Common.{rules}
use lib.Ieee.{mul}
use Rattle.rules.specs.Floats.{times_f}
use Rattle.floats.proofs.Nan.{mul_strict, rounded_is}
use Rattle.floats.proofs.times_f.Goals as goal

pub returns : goal.returns
unfolding times_f
returns c =
    rounded_is mul mul_strict _ _ _ c.rounded.ensures.nan (λ h.
    let k = c.rounded.ensures.number h in
    search rules)
