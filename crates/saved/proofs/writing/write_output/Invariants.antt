-- The loop's invariant: the first i bytes stand from bit `at` on. Assumes nothing.
use Rattle.std.proofs.Common.{◌≡◌, take}
use Rattle.rules.specs.Lists.{splice}
use Rattle.rules.specs.Fields.{bits_of}
use Rattle.saved.proofs.writing.write_output.Given as goal

abbrev pub invariant-loop-i : goal.invariant-loop-i
invariant-loop-i l = bits_of l.image ≡ splice (bits_of l.initial.image) l.at (bits_of (take l.i l.output))
