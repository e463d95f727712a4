use native.Mathlib.Omega.{arith}
use lib.ListN.{get_or}
use lib.Seq.{take_all}
use Rattle.rules.proofs.Texts.{length_hex}
use Rattle.digits.proofs.Laws.{put_append, put_last}
use Rattle.console.proofs.OutLine.{shown_none, shown_next, bytes_shown}
use Rattle.console.proofs.panel.put_bytes.Goals as goal

pub loop-byte-init : goal.loop-byte-init
loop-byte-init c = (omega arith, record { length_told = rw shown_none; written = rw shown_none })

pub loop-byte-preserved : goal.loop-byte-preserved
loop-byte-preserved c =
    let bytes = c.args.bytes.now in
    let loop = c.loop-byte in
    let put = c.put_shown-told in (
      omega (arith, put.ensures.length_told, length_hex 2 (get_or bytes loop.byte-index 0)),
      rw (shown_next bytes loop.byte-index (omega arith)) (put_append loop.invariant.1 put.ensures),
    )

pub returns : goal.returns
returns c =
    let bytes = c.args.bytes.now in
    let loop = c.loop-byte in
    rw (bytes_shown bytes) (put_last _ (rw (take_all loop.byte-index bytes (omega arith)) at loop.invariant.1) c.put_byte.ensures)
