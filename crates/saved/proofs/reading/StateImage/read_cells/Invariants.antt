-- The loop's invariant: the first i cells are those of the image. Assumes nothing.
use Rattle.std.proofs.Common.{◌≡◌, take}
use Rattle.rules.specs.Fields.{bits_of}
use Rattle.rules.specs.SavedState.{cells_in}
use Rattle.saved.proofs.reading.StateImage.read_cells.Given as goal

abbrev pub invariant-loop-i : goal.invariant-loop-i
invariant-loop-i l = let cells = cells_in l.self.registers.n (bits_of l.self.image.now) in record {
  bits_read : take l.i l.bits ≡ take l.i cells.bits;
  tags_read : take l.i l.tags ≡ take l.i cells.tags;
}
