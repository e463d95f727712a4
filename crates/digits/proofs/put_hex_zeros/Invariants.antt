-- `digits::put_hex_zeros` meets its contract. The loop: as many zeros as are passed are written. Assumes nothing.
use mathlib.Core.Path.{◌≡◌}
use lib.Seq.{sets}
use Rattle.rules.specs.Listing.{hex}
use Rattle.digits.proofs.put_hex_zeros.Given as goal

abbrev pub invariant-loop-i : goal.invariant-loop-i
invariant-loop-i l = l.out ≡ sets l.initial.out l.at (hex l.i 0)
