-- The loop's invariant: the first cells stand behind the head, and the others are left to the iterator. Assumes nothing.
use Rattle.std.proofs.Common.{◌≡◌, ◌≤◌, length, take, drop}
use Rattle.rules.specs.Lists.{splice}
use Rattle.rules.specs.Fields.{bits_of}
use Rattle.rules.specs.SavedState.{head_width, cells_saved}
use Rattle.saved.proofs.writing.write_cells.Given as goal

abbrev pub invariant-loop-i : goal.invariant-loop-i
invariant-loop-i l = let i = l.i-iterator.count in record {
  within : i ≤ length l.tags;
  tags_left : l.i-iterator.iter.a.rest.now ≡ drop i l.tags;
  bits_left : l.i-iterator.iter.b.rest.now ≡ drop i l.bits;
  written : bits_of l.image ≡ splice (bits_of l.initial.image) head_width (cells_saved (take i l.tags) (take i l.bits));
}
