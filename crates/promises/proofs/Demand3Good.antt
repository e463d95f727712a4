-- The states that a machine can be in, and what a step does there. Assumes nothing.
use Rattle.std.specs.Prelude.{Ok}
use Prim.Native.Nat.{ℕ, ◌≤◌}
use mathlib.Core.Path.{◌≡◌, refl}
use mathlib.Core.Bool.{true}
use mathlib.Core.List.{List}
use lib.ListN.{length}
use borrow.Author.Tests.{eq-eqb}
use Rattle.rules.specs.Sizes.{max_history, max_output}
use Rattle.rules.specs.Table.{Program}
use Rattle.rules.specs.State.{Memory, registers_holding, sound}
use Rattle.rules.specs.Commit.{registers_of, memory_of}
use Rattle.rules.specs.Step.{unchanged, judged, carried, plain_step}
use Rattle.rules.specs.Step as Step
use Rattle.rules.specs.Back.{plain_back, back}
use Rattle.rules.specs.declared.Registers.{Registers}
use Rattle.rules.specs.declared.Effect.{Effect}
use Rattle.rules.specs.declared.MachineRefusal.TheVariants.{NoHistory}
use Rattle.rules.proofs.Fair.{Sound, Narrow, Blank}
use Rattle.rules.proofs.Sound.{facts_sound, step_plain, sound_judged}
use Rattle.rules.proofs.Narrow.{narrow_memory}
use Rattle.rules.proofs.Inverse.{blank_judged}
use Rattle.promises.specs.Series.{State}

-- after a step with the effect e
abbrev pub committed : State → Effect → State
committed s e = record { registers = registers_of s.registers e; memory = memory_of s.registers s.memory e }

-- a state that a machine can be in: sound, its cells of 32 bits, its unused history places and the rest of its output zero
pub record Good (p : Program) (s : State) : Type 0 where
  pub sound : sound p s.registers s.memory ≡ true
  pub narrow : Narrow s.memory
  pub blank : Blank s.registers s.memory

module _ (p : Program) (s : State) (g : Good p s) where
  -- what a step of a good state answers and leaves is what it decides, carried out
  pub step_good : Step.step p s.registers s.memory ≡ carried s.registers s.memory (judged p s.registers s.memory.cells (length s.memory.output))
  unfolding plain_step
  step_good = step_plain p s.registers s.memory g.sound

  -- an accepted step leaves a good state
  pub good_committed : (e : Effect) → judged p s.registers s.memory.cells (length s.memory.output) ≡ Ok e → Good p (committed s e)
  good_committed e q =
      record {
        sound = sound_judged p s.registers s.memory e g.sound q;
        narrow = narrow_memory p s.registers s.memory e g.narrow g.sound q;
        blank = blank_judged p s.registers s.memory e g.sound g.blank q;
      }

  -- "9: step-back with U = 0"
  pub back_empty : s.registers.used ≡ 0 → back p s.registers s.memory ≡ unchanged s.memory NoHistory
  unfolding back plain_back
  back_empty u = rw (g.sound, eq-eqb s.registers.used 0 u) refl

-- ---- a sound state with another history and another output

-- what these have to be: h places, of which k kept steps use u, and room for the w bytes that are written
pub record Beside (h u k w : ℕ) (history output : List ℕ) : Type 0 where
  pub long : length history ≡ h
  pub short : h ≤ max_history
  pub used : u ≤ h
  pub kept : k ≤ u
  pub none : k ≡ 0 → u ≡ 0
  pub shown : length output ≤ max_output
  pub written : w ≤ length output

pub sound_beside : (p : Program) (r : Registers) (m : Memory) → Sound p r m → (h used kept : ℕ) (history output : List ℕ)
    → Beside h used kept r.written history output
    → sound p (registers_holding h used kept r) (record { cells = m.cells; history = history; output = output }) ≡ true
sound_beside p r m s h used kept history output b =
    facts_sound p (registers_holding h used kept r) (record { cells = m.cells; history = history; output = output })
    (record {
      table = s.table;
      some = s.some;
      few = s.few;
      short = b.short;
      bits = s.bits;
      tags = s.tags;
      history = b.long;
      sp = s.sp;
      fbr = s.fbr;
      pc = s.pc;
      halt = s.halt;
      used = b.used;
      kept = b.kept;
      none = b.none;
      shown = b.shown;
      written = b.written;
      cells = s.cells;
    })
