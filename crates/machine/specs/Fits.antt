-- An effect that fits, which is what a commit leans on: the lent slices are of their N and H, the record's numbers fit its fields, the written cells lie within
-- N, the used count of the output is small, and what is shown is a byte. Whether there is room for the record is asked by the commit. Assumes nothing.
use Rattle.std.specs.Prelude.{ℕ, ◌+◌, ◌≤◌, ◌<◌, ◌≡◌, List, length, Option, Some, None}
use Rattle.rules.specs.Sizes.{max_output}
use Rattle.rules.specs.Cells.{Cells}
use Rattle.rules.specs.declared.Registers.{Registers}
use Rattle.rules.specs.declared.Effect.{Effect}
use Rattle.machine.specs.Spans.{byte_span}
use Rattle.machine.specs.Fields.{Fields}

-- nothing, or a number that a byte has room for
abbrev pub InByte : Option ℕ → Type 0
InByte None = Unit {0}
InByte (Some b) = b < byte_span

pub record Fits (r : Registers) (e : Effect) (c : Cells) (history : List ℕ) : Type 0 where
  pub cells : length c.bits ≡ r.n
  pub tagged : length c.tags ≡ r.n
  pub fields : Fields r c.tags
  pub places : length history ≡ r.h
  pub used : r.used ≤ r.h
  pub kept : r.kept ≤ r.used
  pub block : e.at + e.count ≤ r.n
  pub written : r.written ≤ max_output
  pub byte : InByte e.shows
