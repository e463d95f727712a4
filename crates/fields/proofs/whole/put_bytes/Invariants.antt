-- The loop's invariant: from byte i on, the low bits of v are written. Assumes nothing.
use Prim.Native.Nat.{◌-◌, ◌*◌, ◌/◌, ◌^◌, ◌≤◌}
use mathlib.Core.Path.{◌≡◌}
use Rattle.rules.specs.Lists.{splice}
use Rattle.rules.specs.Fields.{field, bits_of}
use Rattle.fields.proofs.whole.put_bytes.Given as goal

abbrev pub invariant-loop-i : goal.invariant-loop-i
invariant-loop-i l =
    record {
      within : l.from ≤ l.i;
      rest : l.left ≡ l.v / 2 ^ ((l.to - l.i) * 8);
      written : bits_of l.out ≡ splice (bits_of l.initial.out) (l.i * 8) (field ((l.to - l.i) * 8) l.v);
    }
