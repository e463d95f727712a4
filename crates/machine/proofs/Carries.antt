-- A plan fits, and is carried out, as its effect does. Assumes nothing.
use Rattle.std.specs.Prelude.{Option, None, Result, Ok, Err}
use Prim.Native.Nat.{ℕ}
use mathlib.Core.Path.{◌≡◌, sym, ap, ◌∙◌}
use mathlib.Core.List.{List}
use lib.ListN.{length}
use Rattle.rules.specs.Cells.{Cells, cells}
use Rattle.rules.specs.State.{Memory, memory}
use Rattle.rules.specs.Decide.{demand}
use Rattle.rules.specs.Commit.{room_on}
use Rattle.rules.specs.Step.{Stepped, in_output, in_history, carried}
use Rattle.rules.specs.declared.Registers.{Registers}
use Rattle.rules.specs.declared.Effect.{Effect}
use Rattle.rules.specs.Answers.{Decision}
use Rattle.rules.specs.declared.MachineRefusal.{MachineRefusal}
use Rattle.rules.specs.declared.MachineRefusal.TheVariants.{OutputFull}
use Rattle.rules.specs.declared.Step.{Step}
use Rattle.rules.specs.declared.Step.TheVariants.{Refused}
use Rattle.state.specs.Outcomes.{stepped}
use Rattle.machine.specs.Fits.{Fits}
use Rattle.machine.specs.Committed.{committed, output_by}
use Rattle.machine.specs.Plan.{effect_of, planned}
use Rattle.machine.specs.declared.plans.Plan.{Plan}

module _ (r : Registers) (d : Result Plan MachineRefusal) (b t h : List ℕ) where
  -- what fits if the plan does it fits as its effect
  pub fits_as : {p plan : Plan} {x : Effect} → d ≡ Ok p → p ≡ plan → x ≡ effect_of r (cells b t) plan
      → ((f : Effect) → planned r (cells b t) d ≡ Ok f → Fits r f (cells b t) h) → Fits r x (cells b t) h
  unfolding planned
  fits_as {p} {plan} {x} told shape q fits =
      fits x (ap (planned r (cells b t)) (told ∙ ap {B = Result Plan MachineRefusal} Ok shape) ∙ ap {B = Decision} Ok (sym q))

  module _ (o : List ℕ) where
    abbrev m : Memory
    m = memory b t h o

    abbrev done : Decision → Stepped
    done z = carried r m (in_history r (in_output r (length o) z))

    -- an effect, carried out, is the plan's
    pub carried_by : {p plan : Plan} → d ≡ Ok p → p ≡ plan → done (Ok (effect_of r (cells b t) plan)) ≡ done (planned r (cells b t) d)
    unfolding planned
    carried_by told shape = ap (λ (z : Result Plan MachineRefusal). done (planned r (cells b t) z)) (sym (told ∙ ap {B = Result Plan MachineRefusal} Ok shape))

    -- an effect that shows nothing, committed: the output is as it was
    pub carried_as : {p plan : Plan} {x : Effect} (a : Step) (b' t' h' : List ℕ) → d ≡ Ok p → p ≡ plan → x ≡ effect_of r (cells b t) plan
        → (effect_of r (cells b t) plan).shows ≡ None
        → stepped a b' t' h' (output_by x.shows a r.written o) ≡ committed r m x
        → stepped a b' t' h' o ≡ done (planned r (cells b t) d)
    carried_as {p} {plan} {x} a b' t' h' told shape q quiet left =
        let e = effect_of r (cells b t) plan in
        ap (λ (z : Option ℕ). stepped a b' t' h' (output_by z a r.written o)) (sym (ap (λ (z : Effect). z.shows) q ∙ quiet))
        ∙ left
        ∙ ap (committed r m) q
        ∙ ap (λ (z : Option ℕ). carried r m (in_history r (demand (room_on (length o) r.written z) OutputFull (Ok e)))) (sym quiet)
        ∙ carried_by told shape

    pub carried_refused : {x : MachineRefusal} → d ≡ Err x → record { answer = Refused x; memory = m } ≡ done (planned r (cells b t) d)
    unfolding planned
    carried_refused told = ap (λ (z : Result Plan MachineRefusal). done (planned r (cells b t) z)) (sym told)
