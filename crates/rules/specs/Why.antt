-- Document 02, letter l: "Why does this cell hold that? Given a cell, the tool names the newest kept step which wrote it". It "changes nothing": its answer is all
-- there is. Assumes nothing.
use Rattle.std.specs.Prelude.{ℕ, ◌+◌, cond, List, [], ◌∷◌, get_or, ltb, eqb, Some, None, Ok, Err}
use Rattle.rules.specs.Lists.{every}
use Rattle.rules.specs.Places.{cell_address, cell_tag, cell_bits, step_pc}
use Rattle.rules.specs.Table.{Program}
use Rattle.rules.specs.State.{Memory}
use Rattle.rules.specs.Records.{HistoryRecord, records_in_use, record_tests}
use Rattle.rules.specs.declared.Registers.{Registers}
use Rattle.rules.specs.declared.NamedStep.{NamedStep}
use Rattle.rules.specs.Answers.{Why}
use Rattle.rules.specs.declared.WhyRefusal.TheVariants.{NoSuchCell, HistoryBroken}

-- "how many steps back (newest 1), its PC, the instruction, and what the cell held before with its tag": of a step place, and the place of the cell in its record
abbrev pub named_step : (table : List ℕ) → (back step old : ℕ) → NamedStep
named_step table back step old =
    record {
      back = back;
      pc = step_pc step;
      instruction = get_or table (step_pc step) 0;
      before = record { bits = cell_bits old; tag = cell_tag old };
    }

-- what is told by the place of that cell among a record's cell places, or by the older records where there is none; a well-formed record has one at most, and of more
-- the last would tell
abbrev pub told_by : (cell : ℕ) → List ℕ → (told : ℕ → Why) → (older : Why) → Why
told_by cell [] told older = older
told_by cell (q ∷ qs) told older = told_by cell qs told (cond (eqb (cell_address q) cell) (told q) older)

-- "names the newest kept step which wrote it": of the records from the newest on, the first of which is that many steps back. "Otherwise it says that no kept step
-- wrote the cell."
abbrev pub newest : (table : List ℕ) → (cell back : ℕ) → List HistoryRecord → Why
newest table cell back [] = Ok None
newest table cell back (w ∷ ws) = told_by cell w.cells (λ q. Ok (Some (named_step table back w.place q))) (newest table cell (back + 1) ws)

-- "10 as in i), then 6 for a cell not below N"
unfoldable pub why : Program → (cell : ℕ) → Registers → Memory → Why
why p cell r m =
    cond (every (record_tests p r m))
    (cond (ltb cell r.n) (newest p.places cell 1 (records_in_use r m)) (Err NoSuchCell))
    (Err HistoryBroken)
