-- The loop's invariant: the count and the first i instructions stand over the zeros, up to bit `at`. Assumes nothing.
use Rattle.std.proofs.Common.{◌≡◌, ◌+◌, ◌*◌, ◌^◌, ◌≤◌, ◌<◌, ℕ, length, get_or, replicate}
use Rattle.rules.specs.Lists.{splice}
use Rattle.rules.specs.Sizes.{image_size}
use Rattle.rules.specs.Fields.{bits_of}
use Rattle.rules.specs.Image.{count_width}
use Rattle.rules.proofs.Packing.{front}
use Rattle.image.specs.Longest.{longest}
use Rattle.image.proofs.writing.write_image.Given as goal

abbrev pub invariant-loop-place : goal.invariant-loop-place
invariant-loop-place l = record {
  near : l.at ≤ count_width + longest * l.place-index;
  at_end : l.at ≡ length (front l.p.table.now l.p.length l.place-index);
  written : bits_of l.image ≡ splice (bits_of (replicate image_size 0)) 0 (front l.p.table.now l.p.length l.place-index);
  bytes : (k : ℕ) → get_or l.image k 0 < 2 ^ 8;
}
