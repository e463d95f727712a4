-- A state's soundness in the parts that are judged one by one, and what a sound state gives to those who lean on it. Assumes nothing.
use Prim.Native.Nat.{ℕ, zero, suc, ◌<◌}
use mathlib.Core.Path.{◌≡◌, refl, sym, ap, ◌∙◌}
use mathlib.Core.Bool.{Bool, true, false, ◌&&◌, and-true, and-false, and_assoc}
use mathlib.Core.List.{List, [], ◌∷◌}
use lib.ListN.{length, get_or}
use native.Mathlib.Omega.{arith}
use borrow.Author.Tests.{eqb-true}
use Rattle.rules.specs.Lists.{every}
use Rattle.rules.specs.Table.{Program}
use Rattle.rules.specs.State.{Memory, sound_cell, sound_cells, range_tests, sound}
use Rattle.rules.specs.declared.Registers.{Registers}
use Rattle.rules.proofs.Tests.{and_then, every_at}
use Rattle.rules.proofs.Table.{table_short, table_long}
use Rattle.rules.proofs.Fair.{Sound}
use Rattle.rules.proofs.FairEffects.{sound_facts}
use Rattle.state.specs.Held.{Held}

-- ---- the cells, one by one

cells_all : (count : ℕ) (ts bs : List ℕ) → ((k : ℕ) → k < length ts → k < length bs → sound_cell count (get_or ts k 0) (get_or bs k 0) ≡ true)
    → sound_cells count ts bs ≡ true
cells_all count [] bs each = refl
cells_all count (t ∷ ts) [] each = refl
cells_all count (t ∷ ts) (b ∷ bs) each =
    and_then (each 0 (omega arith) (omega arith)) (cells_all count ts bs (λ k ht hb. each (suc k) (omega arith) (omega arith)))

cells_one : (count : ℕ) (ts bs : List ℕ) (k : ℕ) → k < length ts → k < length bs → sound_cell count (get_or ts k 0) (get_or bs k 0) ≡ false
    → sound_cells count ts bs ≡ false
cells_one count [] bs k ht hb e = absurd (omega (arith, ht))
cells_one count (t ∷ ts) [] k ht hb e = absurd (omega (arith, hb))
cells_one count (t ∷ ts) (b ∷ bs) zero ht hb e = ap (λ (u : Bool). u && sound_cells count ts bs) e
cells_one count (t ∷ ts) (b ∷ bs) (suc k) ht hb e =
    ap (λ (u : Bool). sound_cell count t b && u) (cells_one count ts bs k (omega arith) (omega arith) e) ∙ and-false (sound_cell count t b)

-- the verdict on them all, from what the judgement of each gives
pub cells_each : (count : ℕ) (ts bs : List ℕ) (r : Bool)
    → (r ≡ true → (k : ℕ) → k < length ts → k < length bs → sound_cell count (get_or ts k 0) (get_or bs k 0) ≡ true)
    → (r ≡ false → (k : ℕ) × (k < length ts) × (k < length bs) × (sound_cell count (get_or ts k 0) (get_or bs k 0) ≡ false)) → r ≡ sound_cells count ts bs
cells_each count ts bs true each one = sym (cells_all count ts bs (each refl))
cells_each count ts bs false each one = let w = one refl in sym (cells_one count ts bs w.0 w.1 w.2 w.3)

-- ---- a state: its ranges, and then its cells
module _ (p : Program) (r : Registers) (m : Memory) where
  -- those of its lent slices
  abbrev pub ranges : List Bool
  ranges = range_tests p r (length m.cells.bits) (length m.cells.tags) (length m.history) (length m.output)

  pub sound_parts : sound p r m ≡ (every ranges && sound_cells p.count m.cells.tags m.cells.bits)
  unfolding sound
  sound_parts = simp (and-true, and_assoc)

  pub cells_equal : every ranges ≡ true → length m.cells.tags ≡ length m.cells.bits
  cells_equal h = eqb-true _ _ (every_at ranges 5 h) ∙ sym (eqb-true _ _ (every_at ranges 4 h))

  -- what a sound state gives
  pub held : sound p r m ≡ true → Held p r m
  held h =
      let s : Sound p r m = sound_facts p r m h in
      record {
        table = omega (arith, table_short p s.table, table_long p s.table);
        cells = s.bits;
        tagged = s.tags;
        places = s.history;
        used = s.used;
        none = s.none;
        written = s.written;
      }
