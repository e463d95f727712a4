-- Document 01, "History places", and document 02, letter i: the used history places cut into records, the newest first, and which records are well formed. One
-- record is one kept step. A step-back takes the first of them back, a forget gives up the last, a why looks for the first that wrote a cell; where all are well
-- formed they are as many as the step places that request g counts (proofs/Records.antt). Assumes nothing.
use Rattle.std.specs.Prelude.{ℕ, zero, suc, ◌+◌, ◌-◌, Bool, true, ◌&&◌, List, [], ◌∷◌, ◌++◌, length, get_or, leb, ltb, eqb}
use Rattle.rules.specs.Lists.{every, part}
use Rattle.rules.specs.Places.{mark, cell_address, cell_tag, cell_bits, cell_zeros, step_pc, step_sp, step_fbr, step_count, step_zeros}
use Rattle.rules.specs.Table.{Program}
use Rattle.rules.specs.State.{Memory, sound_cell, sound}
use Rattle.rules.specs.declared.Registers.{Registers}

-- "A step adds its cell places by rising address, then its step place."
pub record HistoryRecord : Type 0 where
  -- its cell places, of which the step place says how many
  pub cells : List ℕ
  -- its step place
  pub place : ℕ
  -- how many places are below its step place, among which its cell places have to lie
  pub below : ℕ

-- the record whose step place is place i of the history, counted from 0
abbrev pub record_at : ℕ → List ℕ → HistoryRecord
record_at i history =
    let q = get_or history i 0 in record { cells = part (i - step_count q) (step_count q) history; place = q; below = i }

-- Down from the last of the places: a step place, then as many cell places as it says, then the next step place, to the first place of all. The first number
-- is how many cell places are still to pass, the second how many places are left.
unfoldable pub cut_down : (passing left : ℕ) → List ℕ → List HistoryRecord
cut_down passing zero history = []
cut_down zero (suc i) history = record_at i history ∷ cut_down (step_count (get_or history i 0)) i history
cut_down (suc passing) (suc i) history = cut_down passing i history

-- "the records in use" (02 i), the newest first: U is the places used
abbrev pub records_in_use : Registers → Memory → List HistoryRecord
records_in_use r m = cut_down 0 r.used m.history

-- ---- "A well-formed .. record"

-- "marks and zeros as above, .. addresses below N, addresses rising strictly, restored PAs at most length", and no "restored tag above 4 or CH above 127"
-- (02 h), of a cell place: its address is at least `low`, one more than the address before it
abbrev pub cell_tests : ℕ → ℕ → ℕ → ℕ → List Bool
cell_tests n count low q =
    eqb (mark q) 0
    ∷ eqb (cell_zeros q) 0
    ∷ leb low (cell_address q)
    ∷ ltb (cell_address q) n
    ∷ sound_cell count (cell_tag q) (cell_bits q)
    ∷ []

abbrev pub formed_cell : ℕ → ℕ → ℕ → ℕ → Bool
formed_cell n count low q = every (cell_tests n count low q)

abbrev pub formed_cells : ℕ → ℕ → ℕ → List ℕ → Bool
formed_cells n count low [] = true
formed_cells n count low (q ∷ qs) = formed_cell n count low q && formed_cells n count (cell_address q + 1) qs

-- "marks and zeros as above, old PC below length, SP, FBR .. below N, .. and lies within U", of a step place with so many places below it
abbrev pub step_tests : ℕ → ℕ → ℕ → ℕ → List Bool
step_tests n count below q =
    eqb (mark q) 1
    ∷ eqb (step_zeros q) 0
    ∷ ltb (step_pc q) count
    ∷ ltb (step_sp q) n
    ∷ ltb (step_fbr q) n
    ∷ leb (step_count q) below
    ∷ []

abbrev pub formed_step : ℕ → ℕ → ℕ → ℕ → Bool
formed_step n count below q = every (step_tests n count below q)

abbrev pub formed_record : (n count : ℕ) → HistoryRecord → Bool
formed_record n count w = formed_step n count w.below w.place && formed_cells n count 0 w.cells

-- not "any used record is ill-formed" (02 i)
abbrev pub formed_records : (n count : ℕ) → List HistoryRecord → Bool
formed_records n count [] = true
formed_records n count (w ∷ ws) = formed_record n count w && formed_records n count ws

-- not "any used record is ill-formed or the kept number differs from the records in use" (02 i)
abbrev pub kept_tests : (n count kept : ℕ) → List HistoryRecord → List Bool
kept_tests n count kept ws = formed_records n count ws ∷ eqb kept (length ws) ∷ []

-- not "10 first, also when .." (02 i); "10 as in i)" (02 l)
abbrev pub record_tests : Program → Registers → Memory → List Bool
record_tests p r m = sound p r m ∷ kept_tests r.n p.count r.kept (records_in_use r m)

-- ---- the places that records take

-- how many: each its cells' and one more
abbrev pub places_taken : List HistoryRecord → ℕ
places_taken [] = 0
places_taken (w ∷ ws) = (step_count w.place + 1) + places_taken ws

-- those of one, as a step added them
abbrev pub whole_record : HistoryRecord → List ℕ
whole_record w = w.cells ++ (w.place ∷ [])

-- those of several as they stand in a history: the list has the newest first, and the oldest stands at the first places
abbrev pub places_of : List (List ℕ) → List ℕ
places_of [] = []
places_of (l ∷ ls) = places_of ls ++ l
