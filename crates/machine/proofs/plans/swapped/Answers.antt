-- `machine::plans::swapped` meets its contract. Assumes nothing.
use mathlib.Core.Path.{refl}
use borrow.Author.Tests.{lt-ltb}
use Rattle.machine.specs.Plan.{planned}
use Rattle.machine.proofs.plans.swapped.Goals as goal

pub returns : goal.returns
unfolding planned
returns c m = let r = c.args.r in rw (lt-ltb r.sp r.n c.requires.3) refl
