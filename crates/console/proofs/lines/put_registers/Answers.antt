-- `put_registers` meets its contract: three words with their numbers. Assumes nothing.
use native.Mathlib.Omega.{arith}
use Rattle.rules.specs.Lists.{text}
use Rattle.digits.proofs.Laws.{put_append}
use Rattle.console.proofs.Writing as law
use Rattle.console.proofs.lines.put_registers.Goals as goal

pub returns : goal.returns
unfolding text
returns c = (rw law.line_six (put_append (put_append c.put_named-a.ensures.0 c.put_named.ensures.0) c.put_named-2.ensures.0), omega arith)
