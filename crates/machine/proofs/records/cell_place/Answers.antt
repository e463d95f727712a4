-- The answer of `machine::records::cell_place`, by the law `cell_place_low`. Assumes nothing.
use native.Mathlib.Omega.{arith}
use Rattle.rules.proofs.Places.{cell_place_low}
use Rattle.machine.proofs.records.cell_place.Goals as goal

pub returns : goal.returns
returns c = let p = c.requires in omega (arith, p, cell_place_low c.args.address c.args.tag c.args.bits)
