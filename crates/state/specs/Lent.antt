-- The lengths of slices that are lent. Assumes nothing.
use Rattle.std.specs.Prelude.{ℕ, List, length}
use Rattle.state.specs.declared.Lengths.{Lengths}

abbrev pub lengths : (bits tags history output : List ℕ) → Lengths
lengths b t h o = record { bits = length b; tags = length t; history = length h; output = length o }
