use mathlib.Core.Path.{◌∙◌}
use native.Mathlib.Omega.{arith}
use Rattle.digits.proofs.Laws.{put_more}
use Rattle.digits.proofs.put_text.Goals as goal

pub loop-i-preserved : goal.loop-i-preserved
loop-i-preserved c =
    let a = c.args in
    let v = c.loop-i.invariant in
    let i = c.loop-i.i in
    c.put_byte.ensures ∙ rw v (put_more a.out.now a.text.now a.at i (omega arith))
