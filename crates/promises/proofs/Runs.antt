-- Demand 2's part on runs: "a run that works in its first step and only advances its count later, and a made-up step count" are shut out.
-- A run is its steps: the count it tells is that of steps which are accepted one after the other from where the run began, it leaves exactly
-- what they leave, it is never above the limit, and how the run ended says why there was no further step. Assumes nothing.
use Prim.Native.Nat.{ℕ, zero, suc, ◌+◌, ◌≤◌, ◌<◌}
use mathlib.Core.Path.{◌≡◌, refl, sym, ap, ◌∙◌, subst}
use mathlib.Core.Bool.{Bool, true, false}
use native.Mathlib.Nat.{add-zero}
use native.Mathlib.Numerals.{add-one}
use native.Mathlib.Omega.{arith}
use lib.Dec.{eqb}
use lib.ListN.{replicate}
use borrow.Author.Tests.{eqb-true, eqb-false, le-leb}
use Rattle.rules.specs.Sizes.{max_limit}
use Rattle.rules.specs.Table.{Program}
use Rattle.rules.specs.State.{Memory, sound}
use Rattle.rules.specs.Numbers.{registers_after}
use Rattle.rules.specs.Step as Step
use Rattle.rules.specs.Run.{Ran, ended, run_from}
use Rattle.rules.specs.Run as Run
use Rattle.rules.specs.declared.Registers.{Registers}
use Rattle.rules.specs.declared.Step.{Step}
use Rattle.rules.specs.declared.Step.TheVariants.{Next, Refused}
use Rattle.rules.specs.declared.Ending.{Ending}
use Rattle.rules.specs.declared.Ending.TheVariants.{Halted, LimitReached, Stopped}
use Rattle.rules.proofs.Runs.{run_halted, run_limit, run_next, run_refused, run_enter}
use Rattle.promises.specs.Series.{Session, step, run, accepted, ask, series, from_here}
use Rattle.promises.proofs.Counts.{series_from}

-- ---- steps one after the other

-- k steps made, with these registers and this memory
abbrev pub standing : ℕ → Registers → Memory → Session
standing k r m = record { registers = r; memory = m; made = k; undone = 0; forgotten = 0 }

-- k steps from these registers and this memory
abbrev pub after_steps : Program → ℕ → Registers → Memory → Session
after_steps p k r m = series p (replicate k step) (standing 0 r m)

-- one step more is one step at the end
pub steps_end : (p : Program) (k : ℕ) (s : Session) → series p (replicate (suc k) step) s ≡ ask p (series p (replicate k step) s) step
steps_end p zero s = refl
steps_end p (suc k) s = steps_end p k (ask p s step)

-- an accepted step after k of them
steps_next : (p : Program) (k : ℕ) (r₀ r r' : Registers) (m₀ m : Memory) → after_steps p k r₀ m₀ ≡ standing k r m
    → (Step.step p r m).answer ≡ Next r' → after_steps p (k + 1) r₀ m₀ ≡ standing (k + 1) r' (Step.step p r m).memory
steps_next p k r₀ r r' m₀ m q e =
    ap (λ (n : ℕ). after_steps p n r₀ m₀) (add-one k) ∙ steps_end p k (standing 0 r₀ m₀) ∙ ap (λ (s : Session). ask p s step) q
    ∙ ap {B = Session} (λ (a : Step). record { registers = registers_after r a; memory = (Step.step p r m).memory; made = k + accepted a; undone = 0; forgotten = 0 }) e

-- steps take none back
pub none_undone : (p : Program) (k : ℕ) (s : Session) → (series p (replicate k step) s).undone ≡ s.undone
none_undone p zero s = refl
none_undone p (suc k) s = none_undone p k (ask p s step)

-- and forget none
pub none_forgotten : (p : Program) (k : ℕ) (s : Session) → (series p (replicate k step) s).forgotten ≡ s.forgotten
none_forgotten p zero s = refl
none_forgotten p (suc k) s = none_forgotten p k (ask p s step)

-- ---- a run

-- why a run with that limit ended so
abbrev pub Because : Program → ℕ → Ran → Ending → Type 0
Because p limit a Halted = a.answer.registers.halt ≡ 1
Because p limit a LimitReached = (a.answer.registers.halt ≡ 1 → ⊥) × (a.answer.steps ≡ limit)
Because p limit a (Stopped x) =
    (a.answer.registers.halt ≡ 1 → ⊥) × (a.answer.steps < limit) × ((Step.step p a.answer.registers a.memory).answer ≡ Refused x)

-- a run is its steps
pub record IsItsSteps (p : Program) (limit : ℕ) (r : Registers) (m : Memory) (a : Ran) : Type 0 where
  -- never above the lent limit
  pub within : a.answer.steps ≤ limit
  -- registers and memory are those after as many steps as are told
  pub registers : a.answer.registers ≡ (after_steps p a.answer.steps r m).registers
  pub memory : a.memory ≡ (after_steps p a.answer.steps r m).memory
  -- each of which is accepted
  pub accepted : (after_steps p a.answer.steps r m).made ≡ a.answer.steps
  -- and there was a reason to make no further one
  pub because : Because p limit a a.answer.ending

module _ (p : Program) (limit : ℕ) (r₀ : Registers) (m₀ : Memory) where
  abbrev Goal : Ran → Type 0
  Goal a = IsItsSteps p limit r₀ m₀ a

  -- a run that ends here
  ends : (k : ℕ) (e : Ending) (r : Registers) (m : Memory) → after_steps p k r₀ m₀ ≡ standing k r m → k ≤ limit
      → Because p limit (ended k e r m) e → Goal (ended k e r m)
  ends k e r m q l b =
      record {
        within = l;
        registers = ap (λ (s : Session). s.registers) (sym q);
        memory = ap (λ (s : Session). s.memory) (sym q);
        accepted = ap (λ (s : Session). s.made) q;
        because = b;
      }

  -- with no step left, and with one left: by whether HALT is 1 and by what the step answers
  at_limit : (k : ℕ) (r : Registers) (m : Memory) → k ≡ limit → after_steps p k r₀ m₀ ≡ standing k r m
      → (h : Bool) → eqb r.halt 1 ≡ h → Goal (run_from p zero k r m)
  at_limit k r m l q true h =
      subst Goal (sym (run_halted p k r m zero h)) (ends k Halted r m q (omega arith) (eqb-true _ _ h))
  at_limit k r m l q false h =
      subst Goal (sym (run_limit p k r m h)) (ends k LimitReached r m q (omega arith) (eqb-false _ _ h, l))

  one_turn : (left k : ℕ) (r : Registers) (m : Memory) → k + suc left ≡ limit → after_steps p k r₀ m₀ ≡ standing k r m
      → ((r' : Registers) → (Step.step p r m).answer ≡ Next r' → Goal (run_from p left (k + 1) r' (Step.step p r m).memory))
      → (h : Bool) → eqb r.halt 1 ≡ h → (a : Step) → (Step.step p r m).answer ≡ a → Goal (run_from p (suc left) k r m)
  one_turn left k r m l q next true h a e =
      subst Goal (sym (run_halted p k r m (suc left) h)) (ends k Halted r m q (omega arith) (eqb-true _ _ h))
  one_turn left k r m l q next false h (Next r') e = subst Goal (sym (run_next p k r m left h r' e)) (next r' e)
  one_turn left k r m l q next false h (Refused x) e =
      subst Goal (sym (run_refused p k r m left h x e)) (ends k (Stopped x) r m q (omega arith) (eqb-false _ _ h, omega arith, e))

  all_turns : (left k : ℕ) (r : Registers) (m : Memory) → k + left ≡ limit → after_steps p k r₀ m₀ ≡ standing k r m → Goal (run_from p left k r m)
  all_turns zero k r m l q = at_limit k r m (omega arith) q (eqb r.halt 1) refl
  all_turns (suc left) k r m l q =
      one_turn left k r m l q
      (λ r' e. all_turns left (k + 1) r' (Step.step p r m).memory (omega arith) (steps_next p k r₀ r r' m₀ m q e))
      (eqb r.halt 1) refl (Step.step p r m).answer refl

-- A run of a sound state, with a limit in range, is its steps. (Any other run is refused at its entry: it makes no step and changes nothing.)
pub run_is_its_steps : (p : Program) (limit : ℕ) (r : Registers) (m : Memory) → sound p r m ≡ true → limit ≤ max_limit
    → IsItsSteps p limit r m (Run.run p limit r m)
run_is_its_steps p limit r m s l =
    subst (IsItsSteps p limit r m) (sym (run_enter p limit r m (le-leb _ _ l) s)) (all_turns p limit r m limit 0 r m (omega arith) refl)

-- Within a series, such a run does what as many single steps do as it tells.
pub run_within : (p : Program) (limit : ℕ) (s : Session) → sound p s.registers s.memory ≡ true → limit ≤ max_limit
    → ask p s (run limit) ≡ series p (replicate (Run.run p limit s.registers s.memory).answer.steps step) s
run_within p limit s h l =
    let a : Ran = Run.run p limit s.registers s.memory in
    let w : IsItsSteps p limit s.registers s.memory a = run_is_its_steps p limit s.registers s.memory h l in
    let none : s.undone + (after_steps p a.answer.steps s.registers s.memory).undone ≡ s.undone =
    ap (λ (n : ℕ). s.undone + n) (none_undone p a.answer.steps (from_here s)) ∙ add-zero s.undone in
    let no_more : s.forgotten + (after_steps p a.answer.steps s.registers s.memory).forgotten ≡ s.forgotten =
    ap (λ (n : ℕ). s.forgotten + n) (none_forgotten p a.answer.steps (from_here s)) ∙ add-zero s.forgotten in
    (λ i. record {
      registers = w.registers i;
      memory = w.memory i;
      made = s.made + sym w.accepted i;
      undone = sym none i;
      forgotten = sym no_more i;
    })
    ∙ sym (series_from p (replicate a.answer.steps step) s)
