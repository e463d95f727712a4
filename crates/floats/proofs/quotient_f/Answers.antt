-- `floats::quotient_f` meets its contract. Assumes nothing.
use Rattle.std.proofs.Common.{rules}
use lib.Ieee.{div}
use Rattle.rules.specs.Floats.{quotient_f}
use Rattle.floats.proofs.Nan.{div_strict, rounded_is}
use Rattle.floats.proofs.quotient_f.Goals as goal

pub returns : goal.returns
unfolding quotient_f
returns c =
    rounded_is div div_strict _ _ _ c.rounded.ensures.nan (λ h.
    let k = c.rounded.ensures.number h in
    search rules)
