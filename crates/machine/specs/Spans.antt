-- How many numbers a field of a history place has room for, and a byte. Document 01: "address 10"; "old PC 11, old SP 10, old FBR 10, cells written 10". Request
-- h: "The old tag .. becomes 3 bits".
-- Assumes nothing.
use Rattle.std.specs.Prelude.{ℕ}

-- an address of cells, SP, FBR, and a count of cells
abbrev pub cell_span : ℕ
cell_span = 1024

abbrev pub pc_span : ℕ
pc_span = 2048

abbrev pub tag_span : ℕ
tag_span = 8

abbrev pub byte_span : ℕ
byte_span = 256
