-- `put_pattern` meets its contract: a `#`, eight digits and LF. Assumes nothing.
use Prim.Native.Nat.{◌+◌}
use mathlib.Core.Path.{◌≡◌, refl}
use native.Mathlib.Omega.{arith}
use Rattle.rules.proofs.Texts.{length_hex}
use Rattle.digits.proofs.Laws.{put_front, put_last}
use Rattle.console.proofs.values.put_pattern.Goals as goal

pub returns : goal.returns
returns c =
    let e : c.put_hex-n.result + 2 ≡ c.put_hex-n.result + 1 + 1 = omega arith in (
      rw e (put_last _ (put_front c.put_byte.ensures c.put_hex-n.ensures (omega arith) refl) c.put_byte-2.ensures),
      omega (arith, c.put_hex-n.ensures.length_told, length_hex 8 c.args.bits),
    )
