-- What a reading of values leans on: a tag for each cell, and SP below N, so that a value's cell is among them. Assumes nothing.
use Rattle.std.specs.Prelude.{ℕ, ◌<◌, ◌≡◌, List, length}
use Rattle.rules.specs.declared.Registers.{Registers}

abbrev pub Live : Registers → List ℕ → List ℕ → Type 0
Live r bits tags = (r.sp < length bits) × (length tags ≡ length bits)
