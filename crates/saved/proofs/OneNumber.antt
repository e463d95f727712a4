-- A layout in one number: what is read of the whole is what is read of each field, for the head and for a cell. Assumes nothing.
use Prim.Native.Nat.{ℕ, ◌+◌, ◌≤◌}
use mathlib.Core.Path.{◌≡◌, sym, ap, ◌∙◌}
use mathlib.Core.List.{List}
use native.Mathlib.Omega.{arith}
use lib.Dec.{lit≤}
use lib.ListN.{length, get_or, take, drop}
use lib.Seq.{drop-drop}
use Rattle.rules.specs.Lists.{part}
use Rattle.rules.specs.Fields.{field, value, total, field_in}
use Rattle.rules.specs.SavedState.{head_layout, head_width, saved_cell_layout, saved_cell_width, told_cells, told_bytes, registers_in, announced}
use Rattle.rules.specs.declared.Registers.{Registers}
use Rattle.rules.proofs.Bits.{Bits, part_most, part_value}
use Rattle.rules.proofs.Splice.{part_part}
use Rattle.saved.specs.Cells.{saved_cell}
use Rattle.saved.specs.Reach.{most_cells, most_bytes}

whole_read : (ws : List ℕ) (l : List ℕ) → Bits l → (at : ℕ) → at + total ws ≤ length l → (i : ℕ) → total (take i ws) + get_or ws i 0 ≤ total ws
    → field_in ws i (field (total ws) (value (part at (total ws) l))) ≡ field_in ws i (drop at l)
whole_read ws l x at h i low =
    let w : ℕ = total ws in
    let k : ℕ = total (take i ws) in
    ap (field_in ws i) (part_value l x at w h)
    ∙ ap value (part_part at k w (get_or ws i 0) l low ∙ ap (take (get_or ws i 0)) (sym (drop-drop k at l)))

-- the head
pub head_read : (h : ℕ) (l : List ℕ) → Bits l → head_width ≤ length l → registers_in h (field head_width (value (part 0 head_width l))) ≡ registers_in h l
unfolding registers_in
head_read h l x long i =
    let read : (k : ℕ) → total (take k head_layout) + get_or head_layout k 0 ≤ head_width
    → field_in head_layout k (field head_width (value (part 0 head_width l))) ≡ field_in head_layout k l = whole_read head_layout l x 0 long in
    record {
      n = read 0 (lit≤ tt) i;
      h = h;
      pc = read 1 (lit≤ tt) i;
      sp = read 2 (lit≤ tt) i;
      fbr = read 3 (lit≤ tt) i;
      halt = read 4 (lit≤ tt) i;
      used = 0;
      kept = 0;
      written = read 5 (lit≤ tt) i;
    }

-- what an image announces, by registers that it holds
pub head_announces : (h : ℕ) (l : List ℕ) (r : Registers) → r ≡ registers_in h l → announced r.n r.written ≡ announced (told_cells l) (told_bytes l)
unfolding registers_in
head_announces h l r e = ap (λ (q : Registers). announced q.n q.written) e

-- its N and its output count are of ten bits and of nine
pub head_small : (h : ℕ) (l : List ℕ) → Bits l → ((registers_in h l).n ≤ most_cells) × ((registers_in h l).written ≤ most_bytes)
unfolding registers_in
head_small h l x = (omega (arith, part_most l x 0 10), omega (arith, part_most l x 42 9))

-- a cell
pub cell_read : (l : List ℕ) → Bits l → (at : ℕ) → at + saved_cell_width ≤ length l → saved_cell (field saved_cell_width (value (part at saved_cell_width l))) ≡ saved_cell (drop at l)
cell_read l x at h i =
    record { bits = whole_read saved_cell_layout l x at h 1 (lit≤ tt) i; tag = whole_read saved_cell_layout l x at h 0 (lit≤ tt) i }
