-- The report of a run: its parts, and how long it can be. Assumes nothing.
use Prim.Native.Nat.{ℕ, zero, suc, ◌+◌, ◌*◌, ◌≤◌, ◌<◌}
use mathlib.Core.Path.{◌≡◌, refl, ap, sym, ◌∙◌}
use mathlib.Core.List.{List, [], ◌∷◌, ◌++◌, append_assoc, append-nil}
use native.Mathlib.Nat.{add-zero, zero-add}
use native.Mathlib.Numerals.{add-one}
use native.Mathlib.Omega.{arith}
use lib.ListN.{length, take, length-append, length-take}
use Rattle.rules.specs.Lists.{text}
use Rattle.rules.specs.Sizes.{max_cells, max_output}
use Rattle.rules.specs.Listing.{decimal}
use Rattle.rules.specs.Numbers.{number_of_ending}
use Rattle.rules.specs.Cells.{Cells, cell_at}
use Rattle.rules.specs.Run.{Ran}
use Rattle.rules.specs.Console.{line, cell_line, cell_lines, out_line, report, refused_line}
use Rattle.rules.specs.declared.Position.{Position}
use Rattle.rules.proofs.Texts.{length_decimal}
use Rattle.console.specs.Room.{print_room}
use Rattle.console.proofs.Writing.{line_four, line_five, line_six, cell_short}
use Rattle.console.proofs.OutLine.{out_short}

-- ---- the live cells, one more at a time

module _ (c : Cells) where
  cell_text : ℕ → List ℕ
  cell_text i = cell_line i (cell_at c (record { 0 = i }))

  lines_more : (k i : ℕ) → cell_lines c i (suc k) ≡ cell_lines c i k ++ cell_text (i + k)
  unfolding cell_lines cell_text
  lines_more zero i = rw add-zero (append-nil (cell_text i))
  lines_more (suc k) i =
      let q : i + 1 + k ≡ i + suc k = omega arith in
      ap (λ (l : List ℕ). cell_text i ++ l) (rw q at (lines_more k (i + 1)))
      ∙ sym (append_assoc (cell_text i) (cell_lines c (i + 1) k) (cell_text (i + suc k)))

  pub cells_none : cell_lines c 0 0 ≡ []
  unfolding cell_lines
  cells_none = refl

  pub cells_next : (i : ℕ) → cell_lines c 0 (i + 1) ≡ cell_lines c 0 i ++ cell_line i (cell_at c (record { 0 = i }))
  unfolding cell_text
  cells_next i = rw add-one (rw zero-add at (lines_more i 0))

  cells_short : (k i : ℕ) → length (cell_lines c i k) ≤ 29 * k
  unfolding cell_lines
  cells_short zero i = omega arith
  cells_short (suc k) i =
      rw length-append (omega (arith, cell_short i (cell_at c (record { 0 = i })), cells_short k (i + 1)))

-- ---- the first lines

ending_short : (n s : ℕ) → length (line (text "end" ∷ decimal 9 n ∷ text "steps" ∷ decimal 9 s ∷ [])) ≤ 32
unfolding text
ending_short n s =
    rw (line_four (text "end") (decimal 9 n) (text "steps") (decimal 9 s)) (simp length-append (omega (arith, length_decimal 9 n, length_decimal 9 s)))

registers_short : (p s f : ℕ) → length (line (text "PC" ∷ decimal 9 p ∷ text "SP" ∷ decimal 9 s ∷ text "FBR" ∷ decimal 9 f ∷ [])) ≤ 43
unfolding text
registers_short p s f =
    rw (line_six (text "PC") (decimal 9 p) (text "SP") (decimal 9 s) (text "FBR") (decimal 9 f))
    (simp length-append (omega (arith, length_decimal 9 p, length_decimal 9 s, length_decimal 9 f)))

pub refused_short : (n : ℕ) (p : Position) → length (refused_line n p) ≤ 52
unfolding text
refused_short n p =
    rw (line_five (text "refused") (decimal 9 n) (decimal 9 p.place) (decimal 9 p.line) (decimal 9 p.column))
    (simp length-append
    (omega (arith, length_decimal 9 n, length_decimal 9 p.place, length_decimal 9 p.line, length_decimal 9 p.column)))

-- ---- the parts of a report, and its length

pub report_parts : (a : Ran) → report a
    ≡ ((line (text "end" ∷ decimal 9 (number_of_ending a.answer.ending) ∷ text "steps" ∷ decimal 9 a.answer.steps ∷ [])
    ++ line (text "PC" ∷ decimal 9 a.answer.registers.pc ∷ text "SP" ∷ decimal 9 a.answer.registers.sp ∷ text "FBR" ∷ decimal 9 a.answer.registers.fbr ∷ []))
    ++ cell_lines a.memory.cells 0 a.answer.registers.sp)
    ++ out_line (take a.answer.registers.written a.memory.output)
unfolding report
report_parts a = simp append_assoc

pub report_short : (a : Ran) → a.answer.registers.sp < max_cells → a.answer.registers.written ≤ max_output → length (report a) ≤ print_room
report_short a below within =
    let r = a.answer.registers in
    let o = a.memory.output in
    let ending = ending_short (number_of_ending a.answer.ending) a.answer.steps in
    let lines = cells_short a.memory.cells r.sp 0 in
    rw (report_parts a, length-append, length-append, length-append)
    (omega (arith, ending, registers_short r.pc r.sp r.fbr, lines, out_short (take r.written o), length-take r.written o))
