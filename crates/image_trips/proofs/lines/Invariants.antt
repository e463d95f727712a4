-- Each line is behind the one before it, so what is left gets shorter.
use Rattle.std.proofs.Common.{length}
use Rattle.image_trips.proofs.lines.Given as goal

abbrev pub decreases-loop-end : goal.decreases-loop-end
decreases-loop-end g l = length l.rest
