-- What a call leans on, in a sound state, when it reads the table, and reads and writes the lent slices. Assumes nothing.
use Rattle.std.specs.Prelude.{◌≤◌, ◌≡◌, length}
use Rattle.rules.specs.Table.{Program}
use Rattle.rules.specs.State.{Memory}
use Rattle.rules.specs.declared.Registers.{Registers}

-- the table has the program's places, each slice its length, the places used are within the history, and none are where no step is kept, and the bytes
-- written are within the output
pub record Held (p : Program) (r : Registers) (m : Memory) : Type 0 where
  pub table : p.count ≤ length p.places
  pub cells : length m.cells.bits ≡ r.n
  pub tagged : length m.cells.tags ≡ r.n
  pub places : length m.history ≡ r.h
  pub used : r.used ≤ r.h
  pub none : r.kept ≡ 0 → r.used ≡ 0
  pub written : r.written ≤ length m.output
