-- The output: a byte that a step appends is dropped again, and what was zero is zero again; and a step appends one exactly where its instruction is a WRITECH.
-- Assumes nothing.
use Rattle.std.specs.Prelude.{Option, Some, None}
use Prim.Native.Nat.{ℕ, ◌+◌, ◌-◌, ◌<◌}
use mathlib.Core.Path.{◌≡◌, refl, sym, ap, ◌∙◌}
use mathlib.Core.Bool.{Bool, true, false, not, ◌||◌}
use mathlib.Core.List.{List, [], ◌∷◌}
use native.Mathlib.Omega.{arith}
use lib.Dec.{ltb, eqb}
use lib.ListN.{length, get_or, take, drop, set, replicate, length-set}
use lib.Seq.{drop-drop}
use borrow.Author.Tests.{ltb-true, lt-ltb}
use Rattle.rules.specs.Lists.{splice}
use Rattle.rules.specs.Instructions.{codes, write_ch_code, rows, row_of, action_of}
use Rattle.rules.specs.Table.{Program, code_of, operand_of}
use Rattle.rules.specs.Cells.{Cells, cell_at}
use Rattle.rules.specs.State.{Memory}
use Rattle.rules.specs.Commit.{written_after, output_after, room_on}
use Rattle.rules.specs.Decide.{decide}
use Rattle.rules.specs.Step.{decide_at}
use Rattle.rules.specs.Back.{shows_at, written_back, output_back}
use Rattle.rules.specs.declared.Cell.{Cell}
use Rattle.rules.specs.declared.Registers.{Registers}
use Rattle.rules.specs.declared.Effect.{Effect}
use Rattle.rules.proofs.Zeros.{take_zeros, drop_zeros}
use Rattle.rules.proofs.Splice.{rest_splice, splice_back, sets_splice}
use Rattle.rules.proofs.Tests.{alike, alike_equal, below, at_below}
use Rattle.rules.proofs.Table.{place_coded}
use Rattle.rules.proofs.Fair.{Sound, Going}
use Rattle.rules.proofs.FairEffects.{values_does, going_below}

-- whether a byte is shown
abbrev pub is_shown : Option ℕ → Bool
is_shown None = false
is_shown (Some b) = true

-- a byte written is a list of one written
set_splice : (l : List ℕ) (i v : ℕ) → i < length l → set l i v ≡ splice l i (v ∷ [])
set_splice l i v h = sets_splice (v ∷ []) l i (omega arith)

module _ (o : List ℕ) (w : ℕ) where
  pub written_back_lem : (x : Option ℕ) → written_back (is_shown x) (written_after x w) ≡ w
  written_back_lem None = refl
  written_back_lem (Some b) = omega arith

  pub output_back_lem : (x : Option ℕ) → room_on (length o) w x ≡ true → drop w o ≡ replicate (length o - w) 0
      → output_back (is_shown x) (written_after x w) (output_after x w o) ≡ o
  output_back_lem None q blank = refl
  output_back_lem (Some b) q blank =
      let low : w < length o = ltb-true w (length o) q in
      let back : w + 1 - 1 ≡ w = omega arith in
      let kept : length (set o w b) ≡ length o = length-set o w b in
      ap (λ (k : ℕ). set (set o w b) k 0) back ∙ set_splice (set o w b) w 0 (omega (arith, low, kept))
      ∙ ap (λ (l : List ℕ). splice l w (0 ∷ [])) (set_splice o w b low)
      ∙ splice_back o w 1 (b ∷ []) (0 ∷ []) refl (omega arith) (sym (ap (take 1) blank ∙ take_zeros 1 (length o - w) (omega arith)))

  pub blank_output : (x : Option ℕ) → room_on (length o) w x ≡ true → drop w o ≡ replicate (length o - w) 0
      → drop (written_after x w) (output_after x w o) ≡ replicate (length o - written_after x w) 0
  blank_output None q blank = blank
  blank_output (Some b) q blank =
      let low : w < length o = ltb-true w (length o) q in
      let left : length o - w - 1 ≡ length o - (w + 1) = omega arith in
      ap (drop (w + 1)) (set_splice o w b low) ∙ rest_splice o w (b ∷ []) (omega arith) 1 refl
      ∙ sym (drop-drop 1 w o) ∙ ap (drop 1) blank ∙ drop_zeros 1 (length o - w) ∙ ap (λ (k : ℕ). replicate k 0) left

-- a byte that can be dropped was written
pub drops : (x : Option ℕ) (w : ℕ) → (not (is_shown x) || ltb 0 (written_after x w)) ≡ true
drops None w = refl
drops (Some b) w = lt-ltb 0 (w + 1) (omega arith)

-- ---- an accepted step shows a byte exactly where its instruction is a WRITECH

module _ (r : Registers) (c : Cells) (n : ℕ) (vb vt : Cell) where
  shows : ℕ → Bool
  shows code = is_shown ((action_of code).effect r c n vb vt).shows

  -- of every code: it computes, whatever the registers, the cells and the values
  by_codes : below (λ code. alike (eqb code write_ch_code) (shows code)) codes ≡ true
  unfolding shows action_of row_of rows
  by_codes = refl

  by_code : (code : ℕ) → code < codes → eqb code write_ch_code ≡ shows code
  by_code code h = alike_equal _ _ (at_below (λ k. alike (eqb k write_ch_code) (shows k)) codes by_codes code h)

pub shows_at_lem : (p : Program) (r : Registers) (m : Memory) (e : Effect) → Sound p r m → Going p r m e → shows_at p r.pc ≡ is_shown e.shows
unfolding decide_at decide shows
shows_at_lem p r m e s g =
    let place = get_or p.places r.pc 0 in
    let vb = cell_at m.cells (record { 0 = r.sp - 2 }) in
    let vt = cell_at m.cells (record { 0 = r.sp - 1 }) in
    let does = (values_does r m.cells (operand_of place) vb vt (action_of (code_of place)) e g.decides).1 in
    by_code r m.cells (operand_of place) vb vt (code_of place) (place_coded p s.table r.pc (going_below p r m e s g))
    ∙ ap (λ (x : Effect). is_shown x.shows) does
