-- Document 02, letter k: "Add a saved state, packed as the program image is", and its load. Assumes nothing.
use Rattle.std.specs.Prelude.{ℕ, zero, suc, ◌+◌, ◌-◌, ◌*◌, Bool, cond, List, [], ◌∷◌, ◌++◌, length, take, drop, replicate, leb, eqb, Ok, Err}
use Rattle.rules.specs.Lists.{every}
use Rattle.rules.specs.Sizes.{max_history, max_output, state_size}
use Rattle.rules.specs.Outputs.{blanked}
use Rattle.rules.specs.Fields.{bits_of, bytes_of, packed_to, bytes_for, padded, side, total, field_in}
use Rattle.rules.specs.Cells.{Cells}
use Rattle.rules.specs.Table.{Program}
use Rattle.rules.specs.State.{Memory, sound}
use Rattle.rules.specs.Reset.{cleared}
use Rattle.rules.specs.declared.Registers.{Registers}
use Rattle.rules.specs.declared.SaveRefusal.{SaveRefusal}
use Rattle.rules.specs.declared.SaveRefusal.TheVariants.{UnsoundState, ImageLength}
use Rattle.rules.specs.declared.LoadRefusal.{LoadRefusal}
use Rattle.rules.specs.declared.LoadRefusal.TheVariants.{OutsideRanges, StateEndsEarly, StatePadding, OtherSizes}
use Rattle.rules.specs.Answers.{Saved}
use Rattle.rules.specs.Answers.{Resumed, Entry}

-- ---- what is in the image

-- "N 10 bits, PC 11, SP 10, FBR 10, HALT 1, output count 9"
abbrev pub head_layout : List ℕ
head_layout = 10 ∷ 11 ∷ 10 ∷ 10 ∷ 1 ∷ 9 ∷ []

abbrev pub head_of : Registers → List ℕ
head_of r = r.n ∷ r.pc ∷ r.sp ∷ r.fbr ∷ r.halt ∷ r.written ∷ []

-- "then each of the N cells as tag 3 and bits 32"
abbrev pub saved_cell_layout : List ℕ
saved_cell_layout = 3 ∷ 32 ∷ []

-- how many bits the head and one cell have
abbrev pub head_width : ℕ
head_width = total head_layout

abbrev pub saved_cell_width : ℕ
saved_cell_width = total saved_cell_layout

-- ---- the save

-- tags and bits of one count, cell after cell
abbrev pub cells_saved : (tags bits : List ℕ) → List ℕ
cells_saved [] bs = []
cells_saved (t ∷ ts) [] = []
cells_saved (t ∷ ts) (b ∷ bs) = side saved_cell_layout (t ∷ b ∷ []) ++ cells_saved ts bs

-- "then the written output bytes": all that is saved, of registers, cells and output
unfoldable pub state_bits : Registers → Cells → (output : List ℕ) → List ℕ
state_bits r c output = side head_layout (head_of r) ++ (cells_saved c.tags c.bits ++ bits_of (take r.written output))

-- an answer, and the bytes that it leaves in the lent image
pub record Saving : Type 0 where
  pub answer : Saved
  pub image : List ℕ

-- "Refused writers leave an output of wrong length untouched, zero one of right length"
abbrev pub not_saved : SaveRefusal → List ℕ → Saving
not_saved e image = record { answer = Err e; image = blanked state_size image }

-- "zeros to a byte; the lent output is 4,638 bytes, rest zero, length told"; "Refusals for save: 31, then 10."
unfoldable pub save : Program → Registers → Memory → List ℕ → Saving
save p r m image =
    let bits = state_bits r m.cells m.output in
    let packed : Saving = record { answer = Ok (bytes_for (length bits)); image = packed_to state_size bits } in
    cond (eqb (length image) state_size) (cond (sound p r m) packed (not_saved UnsoundState image)) (not_saved ImageLength image)

-- ---- the load

-- N and the output count that an image tells
abbrev pub told_cells : (bits : List ℕ) → ℕ
told_cells bits = field_in head_layout 0 bits

abbrev pub told_bytes : (bits : List ℕ) → ℕ
told_bytes bits = field_in head_layout 5 bits

-- the registers that it holds: "U and the kept number become 0 and H is the lent history's"
unfoldable pub registers_in : (h : ℕ) → (bits : List ℕ) → Registers
registers_in h bits =
    record {
      n = told_cells bits;
      h = h;
      pc = field_in head_layout 1 bits;
      sp = field_in head_layout 2 bits;
      fbr = field_in head_layout 3 bits;
      halt = field_in head_layout 4 bits;
      used = 0;
      kept = 0;
      written = told_bytes bits;
    }

-- field i of each of n cells, the first of which stands first
unfoldable pub column_in : (i n : ℕ) → (bits : List ℕ) → List ℕ
column_in i zero bits = []
column_in i (suc n) bits = field_in saved_cell_layout i bits ∷ column_in i n (drop saved_cell_width bits)

abbrev pub cells_in : (n : ℕ) → (bits : List ℕ) → Cells
cells_in n bits = record { bits = column_in 1 n (drop head_width bits); tags = column_in 0 n (drop head_width bits) }

-- where the output's bytes begin behind n cells, and where they end, which is all that N and the output count announce
abbrev pub output_from : (n : ℕ) → ℕ
output_from n = head_width + n * saved_cell_width

abbrev pub announced : (n written : ℕ) → ℕ
announced n written = output_from n + written * 8

unfoldable pub bytes_in : Registers → (bits : List ℕ) → List ℕ
bytes_in r bits = bytes_of r.written (drop (output_from r.n) bits)

-- an answer, and the memory that it leaves
pub record Loading : Type 0 where
  pub answer : Resumed
  pub memory : Memory

-- "A refused load does as a refused reset": it changes nothing, and returns zero registers
abbrev pub not_loaded : Memory → LoadRefusal → Loading
not_loaded m e = record { answer = Err e; memory = m }

abbrev pub registers_resumed : Resumed → Registers
registers_resumed (Ok r) = r
registers_resumed (Err e) = cleared 0 0

-- "It zeroes the history and the output's rest"
abbrev pub memory_in : Registers → (bits : List ℕ) → Memory → Memory
memory_in r bits m =
    record {
      cells = cells_in r.n bits;
      history = replicate (length m.history) 0;
      output = bytes_in r bits ++ replicate (length m.output - r.written) 0;
    }

abbrev pub loaded : Registers → (bits : List ℕ) → Memory → Loading
loaded r bits m = record { answer = Ok r; memory = memory_in r bits m }

-- not "67 N not that of the lent cells and tags, or a lent history or output outside its range", by the lengths of the lent slices
abbrev pub lent_sizes : (n : ℕ) → (bits tags history output : ℕ) → List Bool
lent_sizes n bits tags history output = eqb bits n ∷ eqb tags n ∷ leb history max_history ∷ leb output max_output ∷ []

-- "41 ends early", before all that it announces, which has the head before it; then "67 .."
unfoldable pub entry : (image : List ℕ) → (bits tags history output : ℕ) → Entry
entry image bits tags history output =
    let l = bits_of image in
    cond (leb (announced (told_cells l) (told_bytes l)) (length l))
    (cond (every (lent_sizes (told_cells l) bits tags history output)) (Ok tt) (Err OtherSizes))
    (Err StateEndsEarly)

-- what comes after, where neither is given
abbrev pub entered : Entry → Memory → Loading → Loading
entered (Ok x) m after = after
entered (Err e) m after = not_loaded m e

-- not "10 for the ranges of step, an output count above the lent output among them": those of the registers and cells that the image holds, with the lent history
-- and output, whose contents a step does not judge either
abbrev pub sound_in : Program → Registers → (bits : List ℕ) → Memory → Bool
sound_in p r bits m = sound p r (record { cells = cells_in r.n bits; history = m.history; output = m.output })

-- "For load, in this order: 41 ..; 67 ..; 10 ..; 45 padding or left-over bytes."
unfoldable pub load : (image : List ℕ) → Program → Memory → Loading
load image p m =
    let bits = bits_of image in
    let r = registers_in (length m.history) bits in
    entered (entry image (length m.cells.bits) (length m.cells.tags) (length m.history) (length m.output)) m
    (cond (sound_in p r bits m)
    (cond (padded (drop (announced r.n r.written) bits)) (loaded r bits m) (not_loaded m StatePadding))
    (not_loaded m OutsideRanges))
