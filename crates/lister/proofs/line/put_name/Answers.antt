use mathlib.Core.Path.{◌∙◌}
use native.Mathlib.Omega.{arith}
use Rattle.rules.specs.Instructions.{name_of}
use Rattle.digits.proofs.Laws.{put_more}
use Rattle.lister.proofs.line.put_name.Goals as goal

pub loop-i-preserved : goal.loop-i-preserved
loop-i-preserved c =
    let a = c.args in
    let t = c.loop-i in
    c.put_byte.ensures ∙ rw (c.name_byte.ensures, t.invariant) (put_more a.out.now (name_of a.code) a.at t.i (omega arith))
