-- Request i: the fresh run does what a step does: it decides as a machine in its state does, but for 8, which is asked last. Assumes nothing.
use Prim.Native.Nat.{ℕ}
use mathlib.Core.Path.{◌≡◌, ap, ap₂, ◌∙◌}
use mathlib.Core.Bool.{true}
use mathlib.Core.List.{List}
use lib.ListN.{length}
use Rattle.rules.specs.Table.{Program}
use Rattle.rules.specs.Cells.{Cells}
use Rattle.rules.specs.State.{others, sound}
use Rattle.rules.specs.Commit.{record_of, registers_with, cells_after, output_after}
use Rattle.rules.specs.Step.{judged, in_history, carried, plain_step}
use Rattle.rules.specs.Step as Step
use Rattle.rules.specs.declared.Registers.{Registers}
use Rattle.rules.proofs.Sound.{step_plain}
use Rattle.rules.proofs.Room.{judged_room, never_full}
use Rattle.promises.specs.Unbounded.{Unbounded, decided}
use Rattle.promises.specs.Series.{State}
use Rattle.promises.specs.Agrees.{Alike, Agrees}

-- a step by what is decided of the same registers but for H, U and the kept number, the same cells and an output of the same length
pub steps_roomed : (p : Program) (x : Unbounded) (s : State) → sound p s.registers s.memory ≡ true → others s.registers ≡ others x.registers
    → s.memory.cells ≡ x.cells → length s.memory.output ≡ length x.output
    → Step.step p s.registers s.memory ≡ carried s.registers s.memory (in_history s.registers (decided p x))
unfolding plain_step
steps_roomed p x s h registers cells size =
    step_plain p s.registers s.memory h
    ∙ ap (carried s.registers s.memory) (judged_room p s.registers s.memory.cells (length s.memory.output))
    ∙ (λ i. carried s.registers s.memory (in_history s.registers (judged p (registers i) (cells i) (size i))))

module _ (p : Program) (x : Unbounded) (s : State) (h : sound p s.registers s.memory ≡ true) (w : Alike x s) where
  pub agrees : Agrees p x s
  agrees =
      record {
        steps = steps_roomed p x s h w.registers w.cells (ap length w.output);
        never = never_full p x.registers x.cells (length x.output);
        keeps = λ e. ap₂ (λ (r : Registers) (c : Cells). record_of r c e) w.registers w.cells;
        leaves =
            λ e. record {
              registers = ap (λ (r : Registers). registers_with r e 0 0) w.registers;
              cells = ap (λ (c : Cells). cells_after c e) w.cells;
              output = ap₂ (λ (r : Registers) (l : List ℕ). output_after e.shows r.written l) w.registers w.output;
            };
      }
