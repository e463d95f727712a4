-- `put_bytes` meets its contract. The loop: the bytes passed are shown, three bytes each. Assumes nothing.
use Prim.Native.Nat.{◌*◌}
use mathlib.Core.Path.{◌≡◌}
use lib.ListN.{take}
use Rattle.digits.specs.Put.{Put}
use Rattle.console.proofs.OutLine.{shown}
use Rattle.console.proofs.panel.put_bytes.Given as goal

abbrev pub invariant-loop-byte : goal.invariant-loop-byte
invariant-loop-byte l =
    (l.told ≡ 3 * l.byte-index) × Put l.initial.out l.out l.at (shown (take l.byte-index l.bytes)) l.told
