-- From byte i on, the low bits of v are written. Assumes nothing.
use Prim.Native.Nat.{ℕ, ◌+◌, ◌-◌, ◌*◌, ◌/◌, ◌%◌, ◌^◌}
use mathlib.Core.Path.{◌≡◌, sym, ap, ◌∙◌}
use mathlib.Core.List.{List}
use native.Mathlib.Nat.{div-one}
use native.Mathlib.Omega.{arith}
use lib.ListN.{set}
use lib.Pow.{shr-shr}
use Rattle.rules.specs.Lists.{splice}
use Rattle.rules.specs.Fields.{field, bits_of}
use Rattle.rules.proofs.Fields.{bits_of_length}
use Rattle.rules.proofs.Splice.{splice_none}
use Rattle.fields.proofs.Pieces.{put_more}
use Rattle.fields.proofs.whole.put_bytes.Goals as goal

pub loop-i-init : goal.loop-i-init
unfolding field
loop-i-init c =
    let a = c.args in
    let z : 0 ≡ (a.to - a.to) * 8 = omega arith in record {
      within = omega arith;
      rest = sym (div-one a.v) ∙ ap (λ (n : ℕ). a.v / 2 ^ n) z;
      written = sym (splice_none (bits_of a.out.now) (a.to * 8)) ∙ ap (λ (n : ℕ). splice (bits_of a.out.now) (a.to * 8) (field n a.v)) z;
    }

pub loop-i-preserved : goal.loop-i-preserved
loop-i-preserved c =
    let a = c.args in
    let t = c.loop-i in
    let d : ℕ = (a.to - t.i) * 8 in
    let l : List ℕ = bits_of a.out.now in
    let el = t.invariant.rest in
    let e : 8 + d ≡ (a.to - (t.i - 1)) * 8 = omega arith in
    let e' : d + 8 ≡ (a.to - (t.i - 1)) * 8 = omega arith in record {
      within = omega arith;
      rest = ap (λ (x : ℕ). x / 256) el ∙ shr-shr a.v d 8 ∙ ap (λ (n : ℕ). a.v / 2 ^ n) e';
      written =
          ap (λ (x : ℕ). bits_of (set t.out (t.i - 1) (x % 256))) el
          ∙ put_more t.out l t.i d a.v (omega arith) (omega arith) (omega (arith, bits_of_length a.out.now)) t.invariant.written
          ∙ ap (λ (n : ℕ). splice l ((t.i - 1) * 8) (field n a.v)) e;
    }
