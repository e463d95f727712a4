-- `put_name` meets its contract. The loop: as many bytes of the name as are passed are written. Assumes nothing.
use mathlib.Core.Path.{◌≡◌}
use lib.Seq.{sets}
use lib.ListN.{take}
use Rattle.rules.specs.Instructions.{name_of}
use Rattle.lister.proofs.line.put_name.Given as goal

abbrev pub invariant-loop-i : goal.invariant-loop-i
invariant-loop-i l = l.out ≡ sets l.initial.out l.at (take l.i (name_of l.code))
