-- The way of WRITECH, where the output is full and where it is not. Assumes nothing.
use Rattle.std.specs.Prelude.{Some, Ok}
use Prim.Native.Nat.{ℕ, ◌≤◌, ◌<◌}
use mathlib.Core.Path.{◌≡◌, sym, ap, ◌∙◌}
use mathlib.Core.Bool.{Bool}
use mathlib.Core.List.{List}
use lib.ListN.{length, set}
use borrow.Author.Tests.{lt-ltb, le-ltb}
use Rattle.rules.specs.State.{Memory}
use Rattle.rules.specs.Decide.{demand}
use Rattle.rules.specs.Step.{Stepped, in_output, in_history, unchanged, carried}
use Rattle.rules.specs.declared.Registers.{Registers}
use Rattle.rules.specs.declared.Effect.{Effect}
use Rattle.rules.specs.declared.MachineRefusal.{MachineRefusal}
use Rattle.rules.specs.declared.MachineRefusal.TheVariants.{OutputFull}
use Rattle.rules.specs.declared.Step.{Step}
use Rattle.rules.specs.declared.Step.TheVariants.{Next, Refused}
use Rattle.state.specs.Outcomes.{stepped}
use Rattle.machine.specs.Committed.{committed, output_by}
use Rattle.machine.specs.Plan.{shows}

module _ (r : Registers) (sp character : ℕ) (m : Memory) where
  -- by whether there is room on it
  abbrev asked : Bool → Stepped
  asked t = carried r m (in_history r (demand t OutputFull (Ok (shows r sp character))))

  abbrev whole : Stepped
  whole = carried r m (in_history r (in_output r (length m.output) (Ok (shows r sp character))))

  pub show_full : length m.output ≤ r.written → unchanged m OutputFull ≡ whole
  show_full h = ap asked (sym (le-ltb r.written (length m.output) h))

  -- where there is, it is as the commit answers
  module _ (room : r.written < length m.output) {e : Effect} (q : e ≡ shows r sp character) (a : Step) where
    answered : (b t h : List ℕ) → stepped a b t h (output_by e.shows a r.written m.output) ≡ committed r m e
        → stepped a b t h (output_by (Some character) a r.written m.output) ≡ whole
    answered b t h left =
        ap (λ (x : Effect). stepped a b t h (output_by x.shows a r.written m.output)) (sym q)
        ∙ left
        ∙ ap (committed r m) q
        ∙ ap asked (sym (lt-ltb r.written (length m.output) room))

    pub show_refused : (x : MachineRefusal) → a ≡ Refused x → (b t h : List ℕ)
        → stepped a b t h (output_by e.shows a r.written m.output) ≡ committed r m e → stepped (Refused x) b t h m.output ≡ whole
    show_refused x k b t h left =
        ap (λ (z : Step). stepped z b t h (output_by (Some character) z r.written m.output)) (sym k) ∙ answered b t h left

    pub show_next : (q : Registers) → a ≡ Next q → (b t h : List ℕ)
        → stepped a b t h (output_by e.shows a r.written m.output) ≡ committed r m e
        → stepped (Next q) b t h (set m.output r.written character) ≡ whole
    show_next n k b t h left =
        ap (λ (z : Step). stepped z b t h (output_by (Some character) z r.written m.output)) (sym k) ∙ answered b t h left
