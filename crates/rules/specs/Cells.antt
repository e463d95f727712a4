-- Document 01, "What the machine is": "A cell is 32 bits and a tag." The cells, apart from the history: what a decision looks at. Assumes nothing.
use Rattle.std.specs.Prelude.{ℕ, List, get_or}
use Rattle.rules.specs.declared.Cell.{Cell}
use Rattle.rules.specs.declared.MemoryAddress.{MemoryAddress}

pub record Cells : Type 0 where
  pub bits : List ℕ
  pub tags : List ℕ

abbrev pub cells : List ℕ → List ℕ → Cells
cells b t = record { bits = b; tags = t }

-- "A cell is 32 bits and a tag."
abbrev pub cell_at : Cells → MemoryAddress → Cell
cell_at c a = record { bits = get_or c.bits a.0 0; tag = get_or c.tags a.0 0 }
