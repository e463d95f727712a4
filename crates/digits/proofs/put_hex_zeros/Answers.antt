-- The zeros past the slice's end are left out. Assumes nothing.
use Prim.Native.Nat.{ℕ}
use mathlib.Core.Path.{◌≡◌, refl, sym, ap, ◌∙◌}
use native.Mathlib.Omega.{arith}
use lib.ListN.{length}
use lib.Seq.{sets}
use Rattle.std.proofs.Common.{min}
use Rattle.rules.specs.Listing.{hex}
use Rattle.rules.proofs.Texts as texts
use Rattle.digits.proofs.Laws.{hex_zero_more, hex_zeros_in}
use Rattle.digits.proofs.put_hex_zeros.Goals as goal

pub loop-i-init : goal.loop-i-init
loop-i-init c = rw (texts.hex_none 0 0 refl) refl

pub loop-i-preserved : goal.loop-i-preserved
loop-i-preserved c =
    let a = c.args in
    c.put_byte.ensures ∙ rw c.loop-i.invariant (hex_zero_more a.out.now a.at c.loop-i.i)

pub returns : goal.returns
returns c =
    let a = c.args in
    let all : c.loop-i.i ≡ min a.k (length a.out.now) = omega (arith, c.loop-i-test.false, c.loop-i.far-i, c.min-i-end.ensures) in
    record {
      length_told = sym (texts.length_hex a.k 0);
      written = c.loop-i.invariant ∙ ap (λ (m : ℕ). sets a.out.now a.at (hex m 0)) all ∙ sym (hex_zeros_in a.out.now a.at a.k);
    }
