-- The loop's invariant: the number so far is that of the bytes read so far. Assumes nothing.
use Prim.Native.Nat.{◌*◌}
use mathlib.Core.Path.{◌≡◌}
use Rattle.rules.specs.Lists.{part}
use Rattle.rules.specs.Fields.{value, bits_of}
use Rattle.fields.proofs.whole.get_bytes.Given as goal

abbrev pub invariant-loop-byte : goal.invariant-loop-byte
invariant-loop-byte l = l.v ≡ value (part (l.from * 8) (l.byte-index * 8) (bits_of l.image))
