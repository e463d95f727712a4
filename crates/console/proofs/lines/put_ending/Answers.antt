-- `put_ending` meets its contract: two words with their numbers. Assumes nothing.
use native.Mathlib.Omega.{arith}
use Rattle.rules.specs.Lists.{text}
use Rattle.digits.proofs.Laws.{put_next}
use Rattle.console.proofs.Writing as law
use Rattle.console.proofs.lines.put_ending.Goals as goal

pub returns : goal.returns
unfolding text
returns c = (rw law.line_four (put_next c.put_named-a.ensures.0 c.put_named.ensures.0), omega arith)
