-- Request d: "Addresses that wrap." With two values, the lower an MA and the upper an INT, ADD and SUB give the MA of the exact result, for all numbers;
-- where no bits stand for that result they are refused with 6. So no address comes round. Assumes nothing.
use Prim.Native.Nat.{ℕ, ◌+◌, ◌-◌, ◌≤◌}
use mathlib.Core.Path.{◌≡◌, refl, sym, ap, ◌∙◌}
use mathlib.Core.Bool.{false≢true}
use native.Mathlib.Omega.{arith}
use borrow.Author.Tests.{le-leb}
use lib.IntN.{ℤ, ◌+ℤ◌, ◌-ℤ◌}
use Rattle.rules.specs.Tags.{INT, MA, ma}
use Rattle.rules.specs.Words.{signed, word, in_word}
use Rattle.rules.specs.Instructions.{rows, row_of, action_of}
use Rattle.rules.specs.Cells.{Cells, cell_at}
use Rattle.rules.specs.Effects.{cell, effect}
use Rattle.rules.specs.Decide.{on_values, decide}
use Rattle.rules.specs.Actions.{sums}
use Rattle.rules.specs.declared.Cell.{Cell}
use Rattle.rules.specs.declared.Registers.{Registers}
use Rattle.rules.proofs.Tests.{by_test}
use Rattle.rules.proofs.Readings.{in_word_reads, reads_in_word}
use Rattle.promises.specs.Addresses.{Exact}

-- of any exact result
sums_exact : (f : ℤ → ℤ → ℤ) (r : Registers) (c : Cells) (n : ℕ) (vb vt : Cell) → 2 ≤ r.sp → vb.tag ≡ MA → vt.tag ≡ INT
    → Exact r (f (signed vb.bits) (signed vt.bits)) (on_values r c n vb vt (sums f))
sums_exact f r c n vb vt two below top =
    let z = f (signed vb.bits) (signed vt.bits) in
    let down : r.sp - 2 + 1 ≡ r.sp - 1 = omega arith in
    rw (le-leb 2 r.sp two, below, top)
    (by_test (in_word z)
    (λ h. rw h (record { bits = word z; stands = in_word_reads z h; whole = ap (λ (k : ℕ). effect (r.pc + 1) k r.fbr 0 (cell (r.sp - 2) (ma (word z)))) down }))
    (λ h. rw h (refl, λ b e. false≢true (sym h ∙ reads_in_word z b e))))

module _ (r : Registers) (c : Cells) (n : ℕ) (two : 2 ≤ r.sp) where
  abbrev vb : Cell
  vb = cell_at c (record { 0 = r.sp - 2 })

  abbrev vt : Cell
  vt = cell_at c (record { 0 = r.sp - 1 })

  module _ (below : vb.tag ≡ MA) (top : vt.tag ≡ INT) where
    -- ADD has code 5 and SUB code 6
    pub add_exact : Exact r (signed vb.bits +ℤ signed vt.bits) (decide r c n (action_of 5))
    unfolding decide action_of row_of rows
    add_exact = sums_exact ◌+ℤ◌ r c n vb vt two below top

    pub sub_exact : Exact r (signed vb.bits -ℤ signed vt.bits) (decide r c n (action_of 6))
    unfolding decide action_of row_of rows
    sub_exact = sums_exact ◌-ℤ◌ r c n vb vt two below top
