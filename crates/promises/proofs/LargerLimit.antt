-- Request n: a run that did not end with 50 is the same with every larger limit in range. Assumes nothing.
use Prim.Native.Nat.{ℕ, zero, suc, ◌+◌, ◌≤◌}
use mathlib.Core.Path.{◌≡◌, refl, sym, ap, ◌∙◌, subst}
use mathlib.Core.Bool.{Bool, true, false}
use native.Mathlib.Omega.{arith}
use lib.Dec.{leb, eqb}
use borrow.Author.Tests.{le-leb}
use Rattle.rules.specs.Sizes.{max_limit}
use Rattle.rules.specs.Table.{Program}
use Rattle.rules.specs.State.{Memory, sound}
use Rattle.rules.specs.Numbers.{number_of_ending}
use Rattle.rules.specs.Step as Step
use Rattle.rules.specs.Run.{Ran, run_from}
use Rattle.rules.specs.Run as Run
use Rattle.rules.specs.declared.Registers.{Registers}
use Rattle.rules.specs.declared.Step.{Step}
use Rattle.rules.specs.declared.Step.TheVariants.{Next, Refused}
use Rattle.rules.specs.declared.Ending.TheVariants.{LimitReached}
use Rattle.rules.proofs.Runs.{run_halted, run_limit, run_next, run_refused, run_broken, run_enter}
use Rattle.promises.specs.Series.{State}
use Rattle.promises.specs.Rooms.{end_number, LargerLimit}

-- a run that its limit did not end
abbrev Ends : Ran → Type 0
Ends a = end_number a ≡ number_of_ending LimitReached → ⊥

module _ (p : Program) where
  -- with so many steps left, and with more
  abbrev Same : (left more made : ℕ) → Registers → Memory → Type 0
  Same left more made r m = Ends (run_from p left made r m) → run_from p more made r m ≡ run_from p left made r m

  none_left : (more made : ℕ) (r : Registers) (m : Memory) (h : Bool) → eqb r.halt 1 ≡ h → Same zero more made r m
  none_left more made r m true h ends = run_halted p made r m more h ∙ sym (run_halted p made r m zero h)
  none_left more made r m false h ends = absurd (ends (ap end_number (run_limit p made r m h)))

  -- by whether HALT is 1 and by what the step answers
  some_left : (left more made : ℕ) (r : Registers) (m : Memory) → ((r' : Registers) → Same left more (made + 1) r' (Step.step p r m).memory)
      → (h : Bool) → eqb r.halt 1 ≡ h → (a : Step) → (Step.step p r m).answer ≡ a → Same (suc left) (suc more) made r m
  some_left left more made r m next true h a e ends = run_halted p made r m (suc more) h ∙ sym (run_halted p made r m (suc left) h)
  some_left left more made r m next false h (Refused x) e ends = run_refused p made r m more h x e ∙ sym (run_refused p made r m left h x e)
  some_left left more made r m next false h (Next r') e ends =
      run_next p made r m more h r' e ∙ next r' (subst Ends (run_next p made r m left h r' e) ends) ∙ sym (run_next p made r m left h r' e)

  same_from : (left more made : ℕ) (r : Registers) (m : Memory) → left ≤ more → Same left more made r m
  same_from zero more made r m low = none_left more made r m (eqb r.halt 1) refl
  same_from (suc left) zero made r m low = absurd (let z : ⊥ = omega (arith, low) in z)
  same_from (suc left) (suc more) made r m low =
      some_left left more made r m (λ r'. same_from left more (made + 1) r' (Step.step p r m).memory (omega (arith, low)))
      (eqb r.halt 1) refl (Step.step p r m).answer refl

  module _ (r : Registers) (m : Memory) (limit larger : ℕ) (low : limit ≤ larger) (high : larger ≤ max_limit) where
    short : leb limit max_limit ≡ true
    short = le-leb limit max_limit (omega (arith, low, high))

    wide : leb larger max_limit ≡ true
    wide = le-leb larger max_limit high

    same_run : Ends (Run.run p limit r m) → (b : Bool) → sound p r m ≡ b → Run.run p larger r m ≡ Run.run p limit r m
    same_run ends true h =
        run_enter p larger r m wide h ∙ same_from limit larger 0 r m low (subst Ends (run_enter p limit r m short h) ends) ∙ sym (run_enter p limit r m short h)
    same_run ends false h = run_broken p larger r m wide h ∙ sym (run_broken p limit r m short h)

pub larger_limit : (p : Program) (s : State) → LargerLimit p s
larger_limit p s limit larger low high ends =
    same_run p s.registers s.memory limit larger low high ends (sound p s.registers s.memory) refl
