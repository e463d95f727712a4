-- `assembler::search::piece_of` meets its contract. Assumes nothing.
use Rattle.std.proofs.lemmas.List.{take_rest, take_min, drop_min}
use Rattle.assembler.specs.Held.{piece}
use Rattle.assembler.proofs.search.piece_of.Goals as goal

pub returns : goal.returns
unfolding piece
returns c = rw (c.min-2.ensures, c.min.ensures, take_rest, drop_min, take_min)
