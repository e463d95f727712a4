-- `put_number` meets its contract: a number of at most ten digits, and a byte after it. Assumes nothing.
use native.Mathlib.Omega.{arith}
use Rattle.rules.proofs.Texts.{length_decimal}
use Rattle.digits.proofs.Laws.{put_last}
use Rattle.console.proofs.words.put_number.Goals as goal

pub returns : goal.returns
returns c = (
  put_last _ c.put_decimal-k.ensures c.put_byte.ensures,
  omega (arith, c.put_decimal-k.ensures.length_told, length_decimal 9 c.args.n),
)
