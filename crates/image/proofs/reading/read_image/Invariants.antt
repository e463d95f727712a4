-- The loop's invariant: the first i places stand in the table, and what is left from bit `at` decides. Assumes nothing.
use Rattle.std.proofs.Common.{◌≡◌, ◌+◌, ◌-◌, ◌*◌, ◌≤◌, length, take, drop}
use Rattle.rules.specs.Fields.{bits_of}
use Rattle.rules.specs.Image.{count_width, prepend, unpack_from, unpacked}
use Rattle.image.specs.Longest.{longest}
use Rattle.image.proofs.reading.read_image.Given as goal

abbrev pub invariant-loop-place : goal.invariant-loop-place
invariant-loop-place l = record {
  near : l.at ≤ count_width + longest * l.place-index;
  all : length l.place-items ≡ l.count;
  left : unpacked l.image ≡ prepend (take l.place-index l.place-items) (unpack_from l.count (l.count - l.place-index) (drop l.at (bits_of l.image)));
}
