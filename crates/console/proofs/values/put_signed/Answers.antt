-- `put_signed` meets its contract: a signed number, and LF. Assumes nothing.
use native.Mathlib.Omega.{arith}
use Rattle.rules.proofs.Texts.{length_signed}
use Rattle.digits.proofs.Laws.{put_last}
use Rattle.console.proofs.values.put_signed.Goals as goal

pub returns : goal.returns
returns c = (
  put_last _ c.put_signed-n.ensures c.put_byte.ensures,
  omega (arith, c.put_signed-n.ensures.length_told, length_signed c.args.bits),
)
