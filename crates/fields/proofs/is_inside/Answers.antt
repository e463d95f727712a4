-- Both tests, the width's first. Assumes nothing.
use Prim.Native.Nat.{◌+◌}
use mathlib.Core.Path.{sym, ap, ◌∙◌}
use borrow.Author.Tests.{le-leb}
use lib.Dec.{leb}
use Rattle.rules.proofs.Fields.{bits_of_length}
use Rattle.rules.proofs.Tests.{and_then}
use Rattle.fields.proofs.is_inside.Goals as goal

pub returns-then-width-le-WIDEST : goal.returns-then-width-le-WIDEST
returns-then-width-le-WIDEST c =
    let a = c.args in
    sym (and_then (le-leb a.width 64 c.if-width-le-WIDEST.true)
    (ap (leb (a.at + a.width)) (bits_of_length a.image.now) ∙ sym c.has_bits.ensures))
