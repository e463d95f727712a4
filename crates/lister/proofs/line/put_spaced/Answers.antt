-- `put_spaced` meets its contract: a space in front of the operand. Assumes nothing.
use mathlib.Core.Path.{refl}
use native.Mathlib.Omega.{arith}
use Rattle.digits.proofs.Laws.{put_front}
use Rattle.lister.proofs.Writing.{spaced_operand}
use Rattle.lister.proofs.line.put_spaced.Goals as goal

pub returns-in_default : goal.returns-in_default
returns-in_default c =
    let a = c.args in
    rw (spaced_operand a.kind a.v c.in_default.not-Bare) (put_front c.put_byte.ensures c.put_operand.ensures (omega arith) refl)
