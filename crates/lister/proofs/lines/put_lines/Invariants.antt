-- `put_lines` meets its contract. The loop: the lines of the places passed are written, at most twenty bytes each. Assumes nothing.
use Prim.Native.Nat.{◌≤◌, ◌*◌}
use lib.ListN.{take}
use Rattle.rules.specs.Listing.{listing}
use Rattle.digits.specs.Put.{Put}
use Rattle.lister.proofs.lines.put_lines.Given as goal

abbrev pub invariant-loop-place : goal.invariant-loop-place
invariant-loop-place l =
    record {
      few : l.at ≤ 20 * l.place-index;
      written : Put l.initial.out l.out 0 (listing (take l.place-index l.place-items)) l.at;
    }
