-- Well-formed records can be read, in a table that has the places of the program. Assumes nothing.
use Prim.Native.Nat.{ℕ, ◌≤◌}
use mathlib.Core.Path.{◌≡◌}
use mathlib.Core.Bool.{true}
use mathlib.Core.List.{List, [], ◌∷◌}
use native.Mathlib.Omega.{arith}
use Rattle.rules.specs.Records.{HistoryRecord, formed_record, formed_records}
use Rattle.rules.proofs.Tests.{and_left, and_right}
use Rattle.rules.proofs.Records.{step_marked, cells_unmarked, cells_within, old_pc_below}
use Rattle.why.specs.Readable.{AllReadable}

pub formed_readable : (n count size : ℕ) → count ≤ size → (ws : List HistoryRecord) → formed_records n count ws ≡ true → AllReadable size ws
formed_readable n count size low [] h = tt
formed_readable n count size low (w ∷ ws) h =
    let first : formed_record n count w ≡ true = and_left (formed_record n count w) (formed_records n count ws) h in (
      record {
        marked = step_marked n count w first;
        unmarked = cells_unmarked n count w first;
        within = cells_within n count w first;
        pc = omega (arith, old_pc_below n count w first);
      },
      formed_readable n count size low ws (and_right (formed_record n count w) (formed_records n count ws) h),
    )
