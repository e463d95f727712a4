-- What a record leans on: registers, addresses and tags fit the fields of its places. Assumes nothing.
use Rattle.std.specs.Prelude.{ℕ, ◌<◌, List, length, get_or}
use Rattle.rules.specs.declared.Registers.{Registers}
use Rattle.machine.specs.Spans.{cell_span, tag_span}
use Rattle.machine.specs.Small.{Small}

pub record Fields (r : Registers) (tags : List ℕ) : Type 0 where
  pub small : Small r
  pub few : length tags < cell_span
  pub tag : (k : ℕ) → get_or tags k 0 < tag_span
