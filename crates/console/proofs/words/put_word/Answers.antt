-- `put_word` meets its contract: a text, and a byte after it. Assumes nothing.
use native.Mathlib.Omega.{arith}
use Rattle.digits.proofs.Laws.{put_last}
use Rattle.console.proofs.words.put_word.Goals as goal

pub returns : goal.returns
returns c = (put_last _ c.put_text-n.ensures c.put_byte.ensures, omega (arith, c.put_text-n.ensures.length_told))
