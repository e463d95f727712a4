-- `put_cell_line` meets its contract: three words. Assumes nothing.
use native.Mathlib.Omega.{arith}
use Rattle.digits.proofs.Laws.{put_next}
use Rattle.console.proofs.Writing as law
use Rattle.console.proofs.lines.put_cell_line.Goals as goal

pub returns : goal.returns
returns c = (rw law.cell_words (put_next (put_next c.put_number-a.ensures.0 c.put_tag.ensures.0) c.put_value.ensures.0), omega arith)
