-- Each program is behind the one before it, so what is left gets shorter.
use Rattle.std.proofs.Common.{length}
use Rattle.teaching.proofs.programs.Given as goal

abbrev pub decreases-loop-first : goal.decreases-loop-first
decreases-loop-first g l = length l.rest
