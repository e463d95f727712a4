-- `put_named` meets its contract: a word, and a number after it. Assumes nothing.
use native.Mathlib.Omega.{arith}
use Rattle.digits.proofs.Laws.{put_append}
use Rattle.console.proofs.words.put_named.Goals as goal

pub returns : goal.returns
returns c = (put_append c.put_word-a.ensures.0 c.put_number.ensures.0, omega arith)
