-- A run of one step is that step. Assumes nothing.
use Prim.Native.Nat.{ℕ}
use mathlib.Core.Path.{◌≡◌, refl, sym, ap, ◌∙◌}
use mathlib.Core.Bool.{true}
use mathlib.Core.List.{List}
use lib.Dec.{eqb}
use Rattle.rules.specs.Table.{Program}
use Rattle.rules.specs.State.{Memory, sound}
use Rattle.rules.specs.Step.{Stepped, step}
use Rattle.rules.specs.Run.{Ran, run_from}
use Rattle.rules.specs.declared.Registers.{Registers}
use Rattle.rules.specs.declared.Step.{Step}
use Rattle.rules.specs.declared.Step.TheVariants.{Next, Refused}
use Rattle.rules.specs.declared.Run.{Run}
use Rattle.rules.proofs.Tests.{by_test}
use Rattle.rules.proofs.Runs.{run_halted, run_limit, run_next, run_refused}
use Rattle.state.specs.Outcomes.{stepped}
use Rattle.machine.specs.Outcomes.{ran, only_step}
use Rattle.machine.proofs.Steps.{refused_keeps}
use Rattle.machine.proofs.Running.{not_halted}

abbrev once_by : Ran → Stepped
once_by ran = record { answer = only_step ran.answer.ending ran.answer.registers; memory = ran.memory }

module _ (p : Program) (r : Registers) (m : Memory) (s : sound p r m ≡ true) (running : r.halt ≡ 0) where
  -- after the one step the run ends, halted or not
  one_left : (q : Registers) (m' : Memory) → once_by (run_from p 0 1 q m') ≡ record { answer = Next q; memory = m' }
  one_left q m' =
      by_test (eqb q.halt 1)
      (λ h. ap once_by (run_halted p 1 q m' 0 h))
      (λ h. ap once_by (run_limit p 1 q m' h))

  once_by_lem : (a : Step) → (step p r m).answer ≡ a → once_by (run_from p 1 0 r m) ≡ step p r m
  once_by_lem (Next q) h =
      ap once_by (run_next p 0 r m 0 (not_halted r running) q h) ∙ one_left q (step p r m).memory
      ∙ ap (λ (z : Step). record { answer = z; memory = (step p r m).memory }) (sym h)
  once_by_lem (Refused x) h =
      let same = refused_keeps p r m s (step p r m).memory.cells.bits (step p r m).memory.cells.tags (step p r m).memory.history (step p r m).memory.output (step p r m).answer x h refl in
      ap once_by (run_refused p 0 r m 0 (not_halted r running) x h) ∙ λ i. record { answer = sym h i; memory = sym same i }

  once : once_by (run_from p 1 0 r m) ≡ step p r m
  once = once_by_lem (step p r m).answer refl

  -- the step's answer, read off the run's
  pub once_answer : (a : Run) (x : Step) (b t h o : List ℕ) → ran a b t h o ≡ run_from p 1 0 r m → x ≡ only_step a.ending a.registers
      → stepped x b t h o ≡ step p r m
  once_answer a x b t h o q k = ap (λ (z : Step). stepped z b t h o) k ∙ ap once_by q ∙ once
