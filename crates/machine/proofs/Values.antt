-- An instruction that takes one value or two, by what is decided where they are there: with too few values each is refused with 3. Assumes nothing.
use Rattle.std.specs.Prelude.{Result, Ok, Err}
use Prim.Native.Nat.{ℕ, suc, ◌≤◌, ◌<◌}
use mathlib.Core.Path.{◌≡◌, refl, sym, ap, ◌∙◌}
use mathlib.Core.Bool.{true, false}
use lib.Dec.{leb}
use borrow.Author.Tests.{lt-leb, le-leb, leb-true, leb-false}
use Rattle.rules.specs.Decide.{Action, on_values, decide}
use Rattle.rules.specs.Step.{in_stack}
use Rattle.rules.specs.declared.MachineRefusal.{MachineRefusal}
use Rattle.rules.specs.declared.MachineRefusal.TheVariants.{TooFewValues}
use Rattle.rules.proofs.Tests.{by_test}
use Rattle.machine.specs.Plan.{planned}
use Rattle.machine.specs.Stack.{cells_of, top, second}
use Rattle.machine.specs.declared.stack.Stack.{Stack}
use Rattle.machine.specs.declared.plans.Plan.{Plan}

module _ (s : Stack) (n : ℕ) (a : Action) (k : ℕ) (needs : a.needs n ≡ suc k) (d : Result Plan MachineRefusal) where
  too_few : s.r.sp < suc k → decide s.r (cells_of s) n a ≡ Err TooFewValues
  unfolding decide
  too_few few = rw (needs, lt-leb (suc k) s.r.sp few) refl

  few_refused : s.r.sp < suc k → d ≡ Err TooFewValues → planned s.r (cells_of s) d ≡ in_stack s.r (decide s.r (cells_of s) n a)
  unfolding planned
  few_refused few q = ap (planned s.r (cells_of s)) q ∙ ap (in_stack s.r) (sym (too_few few))

  -- where they are there it is as decided of them
  pub by_values : (s.r.sp < suc k → d ≡ Err TooFewValues) → (suc k ≤ s.r.sp → planned s.r (cells_of s) d ≡ in_stack s.r (on_values s.r (cells_of s) n (second s) (top s) a))
      → planned s.r (cells_of s) d ≡ in_stack s.r (decide s.r (cells_of s) n a)
  unfolding decide
  by_values few values =
      by_test (leb (suc k) s.r.sp)
      (λ h. values (leb-true (suc k) s.r.sp h))
      (λ h. let l : s.r.sp < suc k = leb-false (suc k) s.r.sp h in few_refused l (few l))
