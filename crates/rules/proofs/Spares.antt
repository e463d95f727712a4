-- Decisions that do not meet some refusals, which a test tells by their numbers. Assumes nothing.
use Rattle.std.specs.Prelude.{Ok, Err}
use Prim.Native.Nat.{ℕ}
use mathlib.Core.Path.{◌≡◌}
use mathlib.Core.Bool.{Bool, true, false, false≢true}
use Rattle.rules.specs.Decide.{demand}
use Rattle.rules.specs.Numbers.{machine_number}
use Rattle.rules.specs.Step.{fitting}
use Rattle.rules.specs.declared.Effect.{Effect}
use Rattle.rules.specs.Answers.{Decision}
use Rattle.rules.specs.declared.MachineRefusal.{MachineRefusal}

abbrev pub Spares : (meets : ℕ → Bool) → Decision → Type 0
Spares meets (Ok e) = Unit {0}
Spares meets (Err x) = meets (machine_number x) ≡ false

module _ (meets : ℕ → Bool) where
  -- another refusal is asked for; one of them is, and passed
  pub spares_demand : (b : Bool) (x : MachineRefusal) (d : Decision) → meets (machine_number x) ≡ false → Spares meets d → Spares meets (demand b x d)
  spares_demand true x d h s = s
  spares_demand false x d h s = h

  pub spares_passed : (b : Bool) (x : MachineRefusal) (d : Decision) → b ≡ true → Spares meets d → Spares meets (demand b x d)
  spares_passed true x d h s = s
  spares_passed false x d h s = absurd (false≢true h)

  pub spares_fitting : (test : Effect → Bool) (x : MachineRefusal) (d : Decision) → meets (machine_number x) ≡ false → Spares meets d
      → Spares meets (fitting test x d)
  spares_fitting test x (Ok e) h s = spares_demand (test e) x (Ok e) h s
  spares_fitting test x (Err y) h s = s
