-- The loop's invariant: the first i bytes are those of the image. Assumes nothing.
use Rattle.std.proofs.Common.{◌≡◌, take}
use Rattle.rules.specs.Fields.{bits_of}
use Rattle.rules.specs.SavedState.{bytes_in}
use Rattle.saved.proofs.reading.StateImage.read_output.Given as goal

abbrev pub invariant-loop-i : goal.invariant-loop-i
invariant-loop-i l = take l.i l.bytes ≡ take l.i (bytes_in l.self.registers (bits_of l.self.image.now))
