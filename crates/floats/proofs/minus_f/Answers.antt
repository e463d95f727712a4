-- `floats::minus_f` meets its contract. Assumes nothing.
use Rattle.std.proofs.Common.{rules}
use lib.Ieee.{sub}
use Rattle.rules.specs.Floats.{minus_f}
use Rattle.floats.proofs.Nan.{sub_strict, rounded_is}
use Rattle.floats.proofs.minus_f.Goals as goal

pub returns : goal.returns
unfolding minus_f
returns c =
    rounded_is sub sub_strict _ _ _ c.rounded.ensures.nan (λ h.
    let k = c.rounded.ensures.number h in
    search rules)
