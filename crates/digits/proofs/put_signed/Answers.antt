-- `digits::put_signed` meets its contract: a number that is not negative, and one that is. Assumes nothing.
use mathlib.Core.Path.{◌∙◌}
use native.Mathlib.Omega.{arith}
use native.Mathlib.Numerals.{add-one}
use native.Mathlib.Nat.{add-zero}
use Rattle.rules.proofs.Texts as texts
use Rattle.digits.proofs.put_signed.Goals as goal

pub returns-then-b-lt-LOWEST : goal.returns-then-b-lt-LOWEST
returns-then-b-lt-LOWEST c =
    let d = c.put_digits.ensures in
    let e = texts.signed_pos c.args.b c.if-b-lt-LOWEST.true in
    record { length_told = rw e (omega arith); written = rw e (rw add-zero at d.1) }

pub returns : goal.returns
returns c =
    let d = c.put_digits-2.ensures in
    let e = texts.signed_neg c.args.b c.if-b-lt-LOWEST.false in
    record { length_told = rw e (omega arith); written = rw e (d.1 ∙ rw (c.put_byte.ensures, add-zero, add-one)) }
