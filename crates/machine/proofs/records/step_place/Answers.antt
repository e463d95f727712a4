-- The answer of `machine::records::step_place`, by the law `step_place_low`. Assumes nothing.
use native.Mathlib.Omega.{arith}
use Rattle.rules.proofs.Places.{step_place_low}
use Rattle.machine.proofs.records.step_place.Goals as goal

pub returns : goal.returns
returns c = let p = c.requires in omega (arith, p, step_place_low c.args.pc c.args.sp c.args.fbr c.args.count)
