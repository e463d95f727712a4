-- What a look down the places leans on, of each record. Assumes nothing.
use Rattle.std.specs.Prelude.{ℕ, ◌≤◌, ◌<◌, ◌≡◌, List, [], ◌∷◌, length, get_or}
use Rattle.rules.specs.Places.{mark, step_pc, step_count}
use Rattle.rules.specs.Records.{HistoryRecord}

-- its step place is told from its cell places by the mark; these lie below it; and its PC lies within a table of that size
pub record Readable (size : ℕ) (w : HistoryRecord) : Type 0 where
  pub marked : mark w.place ≡ 1
  pub unmarked : (k : ℕ) → k < length w.cells → mark (get_or w.cells k 0) ≡ 0
  pub within : step_count w.place ≤ w.below
  pub pc : step_pc w.place < size

abbrev pub AllReadable : (size : ℕ) → List HistoryRecord → Type 0
AllReadable size [] = Unit {0}
AllReadable size (w ∷ ws) = Readable size w × AllReadable size ws
