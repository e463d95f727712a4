-- The dwell, answer by answer: tenths held between the shortest and the longest, and what is read of a machine. Assumes nothing.
use Rattle.std.specs.Prelude.{Ok, Err}
use mathlib.Core.Path.{◌≡◌, refl, sym, ap, ap₂, ◌∙◌}
use mathlib.Core.Bool.{Bool, true, false, not, ◌&&◌, ◌||◌}
use Prim.Native.Nat.{ℕ, suc, ◌-◌, ◌^◌, ◌≤◌, ◌<◌}
use native.Mathlib.Nat.{le_of_lt}
use native.Mathlib.Omega.{arith}
use lib.Dec.{lit≤, ltb, eqb}
use lib.ListN.{length}
use lib.IntN.{ℤ, pos, negsuc}
use borrow.Author.Tests.{lt-ltb, le-ltb, ltb-true, ltb-false, eq-eqb, ne_eqb}
use Rattle.rules.specs.Tags.{INT, FLOAT, has}
use Rattle.rules.specs.Words.{signed}
use Rattle.rules.specs.Exact.{negative, exponent, no_value, stands_for_nan}
use Rattle.rules.specs.Table.{Program}
use Rattle.rules.specs.Cells.{Cells, cell_at}
use Rattle.rules.specs.State.{Memory, others, sound}
use Rattle.rules.specs.Dwell.{shortest, longest, held, whole_tenths, held_seconds, tenths_of, read_if, read_cell, dwell}
use Rattle.rules.specs.declared.Cell.{Cell}
use Rattle.rules.specs.declared.Registers.{Registers}
use Rattle.rules.specs.Answers.{Dwell}
use Rattle.rules.specs.declared.DwellRefusal.{DwellRefusal}
use Rattle.rules.specs.declared.DwellRefusal.TheVariants.{StateBroken, NotHalted, StackEmpty, OtherTag, NotANumber}
use Rattle.rules.proofs.Tests.{by_test, either}
use Rattle.rules.proofs.Readings.{signed_plus}
use Rattle.rules.proofs.Fair.{Sound}
use Rattle.rules.proofs.FairEffects.{sound_facts}

-- ---- held

pub held_minus : (n : ℕ) → held (negsuc n) ≡ shortest
unfolding held
held_minus n = refl

pub held_few : (n : ℕ) → n < shortest → held (pos n) ≡ shortest
unfolding held
held_few n h = rw (lt-ltb n shortest h)

pub held_between : (n : ℕ) → shortest ≤ n → n ≤ longest → held (pos n) ≡ n
unfolding held
held_between n l h = rw (le-ltb n shortest l, le-ltb longest n h)

pub held_many : (n : ℕ) → longest ≤ n → held (pos n) ≡ longest
unfolding held
held_many n h =
    rw (le-ltb n shortest (omega arith))
    (by_test (ltb longest n) (λ e. rw e) (λ e. rw e (omega (arith, h, ltb-false longest n e))))

-- the two ends, and what lies between them
abbrev pub Between : ℕ → Type 0
Between t = (shortest ≤ t) × (t ≤ longest)

held_between_ends : (z : ℤ) → Between (held z)
held_between_ends (negsuc n) = rw (held_minus n) (lit≤ tt, lit≤ tt)
held_between_ends (pos n) =
    by_test (ltb n shortest)
    (λ e. rw (held_few n (ltb-true n shortest e)) (lit≤ tt, lit≤ tt))
    (λ e.
    by_test (ltb longest n)
    (λ f. rw (held_many n (le_of_lt (ltb-true longest n f))) (lit≤ tt, lit≤ tt))
    (λ f. rw (held_between n (ltb-false n shortest e) (ltb-false longest n f)) (ltb-false n shortest e, ltb-false longest n f)))

-- an INT, by its bits
pub int_minus : (b : ℕ) → 2 ^ 31 ≤ b → held (signed b) ≡ shortest
int_minus b h = rw (le-ltb b (2 ^ 31) h) (held_minus (2 ^ 32 - suc b))

pub int_few : (b : ℕ) → b < shortest → held (signed b) ≡ shortest
int_few b h = ap held (signed_plus b (omega arith)) ∙ held_few b h

pub int_between : (b : ℕ) → shortest ≤ b → b ≤ longest → held (signed b) ≡ b
int_between b l h = ap held (signed_plus b (omega arith)) ∙ held_between b l h

pub int_many : (b : ℕ) → b < 2 ^ 31 → longest ≤ b → held (signed b) ≡ longest
int_many b l h = ap held (signed_plus b l) ∙ held_many b h

-- ---- what is read of a cell

module _ (tag bits : ℕ) where
  abbrev the_cell : Cell
  the_cell = record { bits = bits; tag = tag }

  pub cell_int : tag ≡ INT → read_cell the_cell ≡ Ok (held (signed bits))
  cell_int e = rw (eq-eqb tag INT e, ne_eqb tag FLOAT (λ f. omega (arith, e, f)))

  pub cell_other : (tag ≡ INT → ⊥) → (tag ≡ FLOAT → ⊥) → read_cell the_cell ≡ Err OtherTag
  cell_other d e = rw (ne_eqb tag INT d, ne_eqb tag FLOAT e)

  pub cell_nan : tag ≡ FLOAT → stands_for_nan bits ≡ true → read_cell the_cell ≡ Err NotANumber
  cell_nan e n = rw (ne_eqb tag INT (λ f. omega (arith, e, f)), eq-eqb tag FLOAT e, n)

  pub cell_float : tag ≡ FLOAT → stands_for_nan bits ≡ false → read_cell the_cell ≡ Ok (held_seconds bits)
  cell_float e n = rw (ne_eqb tag INT (λ f. omega (arith, e, f)), eq-eqb tag FLOAT e, n)

cell_between : (c : Cell) → Between (tenths_of c)
unfolding held_seconds
cell_between c =
    either Between (has INT c) (held_between_ends (signed c.bits))
    (either Between (ltb (exponent c.bits) no_value) (held_between_ends (whole_tenths c.bits))
    (either Between (negative c.bits) (lit≤ tt, lit≤ tt) (lit≤ tt, lit≤ tt)))

-- ---- what is read of a machine

module _ (p : Program) (r : Registers) (m : Memory) where
  -- a sound machine has a cell 0
  pub first_cell : sound p r m ≡ true → (0 < length m.cells.bits) × (0 < length m.cells.tags)
  first_cell s =
      let f : Sound p r m = sound_facts p r m s in
      (omega (arith, f.some, f.bits), omega (arith, f.some, f.tags))

  pub dwell_broken : sound p r m ≡ false → dwell p r m ≡ Err StateBroken
  unfolding dwell
  dwell_broken s = rw s

  pub dwell_running : sound p r m ≡ true → (r.halt ≡ 1 → ⊥) → dwell p r m ≡ Err NotHalted
  unfolding dwell
  dwell_running s h = rw (s, ne_eqb r.halt 1 h)

  pub dwell_empty : sound p r m ≡ true → r.halt ≡ 1 → r.sp ≡ 0 → dwell p r m ≡ Err StackEmpty
  unfolding dwell
  dwell_empty s h e = rw (s, eq-eqb r.halt 1 h, eq-eqb r.sp 0 e)

  pub dwell_cell : sound p r m ≡ true → r.halt ≡ 1 → (r.sp ≡ 0 → ⊥) → dwell p r m ≡ read_cell (cell_at m.cells (record { 0 = 0 }))
  unfolding dwell
  dwell_cell s h e = rw (s, eq-eqb r.halt 1 h, ne_eqb r.sp 0 e)

  -- whatever is read, it is a refusal, or tenths between the ends
  pub dwell_either : (P : Dwell → Type 0) → ((e : DwellRefusal) → P (Err e)) → ((t : ℕ) → Between t → P (Ok t)) → P (dwell p r m)
  unfolding dwell
  dwell_either P refused read =
      either P (sound p r m)
      (either P (eqb r.halt 1)
      (either P (not (eqb r.sp 0))
      (either P (has INT c || has FLOAT c)
      (either P (not (has FLOAT c && stands_for_nan c.bits)) (read (tenths_of c) (cell_between c)) (refused NotANumber))
      (refused OtherTag))
      (refused StackEmpty))
      (refused NotHalted))
      (refused StateBroken)
    where
      c : Cell
      c = cell_at m.cells (record { 0 = 0 })

-- two sound machines that differ in H, U, the kept number and the history alone read the same
pub dwell_others : (p : Program) (r : Registers) (m : Memory) (r' : Registers) (m' : Memory) → sound p r m ≡ true → sound p r' m' ≡ true
    → others r ≡ others r' → m.cells ≡ m'.cells → dwell p r m ≡ dwell p r' m'
unfolding dwell
dwell_others p r m r' m' s s' e c =
    ap₂ (λ (b : Bool) (k : Cells × Registers). reads b k.0 k.1) (s ∙ sym s') (λ i. (c i, e i))
  where
    reads : Bool → Cells → Registers → Dwell
    reads b k q =
        read_if b StateBroken
        (read_if (eqb q.halt 1) NotHalted (read_if (not (eqb q.sp 0)) StackEmpty (read_cell (cell_at k (record { 0 = 0 })))))
