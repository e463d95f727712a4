-- Two machines that hold the same but for their histories, and answer what one run decides, or 8: their answers, and one turn of their runs. Assumes nothing.
use Rattle.std.specs.Prelude.{Ok, Err}
use Prim.Native.Nat.{ℕ, zero, suc, ◌+◌}
use mathlib.Core.Path.{◌≡◌, refl, sym, ap, ◌∙◌, subst₂}
use mathlib.Core.Logic.{inl, inr}
use mathlib.Core.Bool.{Bool, true, false}
use native.Mathlib.Omega.{arith}
use lib.Dec.{eqb}
use Rattle.rules.specs.Table.{Program}
use Rattle.rules.specs.State.{Memory}
use Rattle.rules.specs.Numbers.{number_of_step, registers_after}
use Rattle.rules.specs.Commit.{room_for}
use Rattle.rules.specs.Decide.{demand}
use Rattle.rules.specs.Step.{in_history, carried}
use Rattle.rules.specs.Step as Step
use Rattle.rules.specs.Run.{Ran, ended, run_from}
use Rattle.rules.specs.declared.Registers.{Registers}
use Rattle.rules.specs.declared.Effect.{Effect}
use Rattle.rules.specs.Answers.{Decision}
use Rattle.rules.specs.declared.MachineRefusal.{MachineRefusal}
use Rattle.rules.specs.declared.MachineRefusal.TheVariants.{HistoryFull}
use Rattle.rules.specs.declared.Step.{Step}
use Rattle.rules.specs.declared.Step.TheVariants.{Next, Refused}
use Rattle.rules.specs.declared.Ending.{Ending}
use Rattle.rules.specs.declared.Ending.TheVariants.{Halted, LimitReached, Stopped}
use Rattle.rules.proofs.Runs.{run_halted, run_limit, run_next, run_refused}
use Rattle.promises.specs.Series.{step, State, Session, state_of, accepted, ask}
use Rattle.promises.specs.Rooms.{HoldTheSame, full, SameOrFull, end_number, EndAlike, AlikeUnlessFull}

-- ---- two answers to what one run decides, of machines with these registers

-- both are done, both are refused alike, or there is room for what is done in one history and not in the other
pub data Together (r r' : Registers) (one other : Step) : Type 0 where
  both : (a a' : Registers) → one ≡ Next a → other ≡ Next a' → Together r r' one other
  neither : (y : MachineRefusal) → one ≡ Refused y → other ≡ Refused y → Together r r' one other
  one_full : (e : Effect) (a' : Registers) → room_for r e ≡ false → room_for r' e ≡ true → one ≡ Refused HistoryFull → other ≡ Next a' → Together r r' one other
  other_full : (e : Effect) (a : Registers) → room_for r e ≡ true → room_for r' e ≡ false → one ≡ Next a → other ≡ Refused HistoryFull → Together r r' one other

-- what is decided, asked for room and carried out by each
pub decided_once : (r r' : Registers) (m m' : Memory) (d : Decision)
    → Together r r' (carried r m (in_history r d)).answer (carried r' m' (in_history r' d)).answer
decided_once r r' m m' (Err y) = neither y refl refl
decided_once r r' m m' (Ok e) = rooms (room_for r e) refl (room_for r' e) refl
  where
    rooms : (b : Bool) → room_for r e ≡ b → (b' : Bool) → room_for r' e ≡ b'
        → Together r r' (carried r m (demand b HistoryFull (Ok e))).answer (carried r' m' (demand b' HistoryFull (Ok e))).answer
    rooms true f true g = both _ _ refl refl
    rooms true f false g = other_full e _ f g refl refl
    rooms false f true g = one_full e _ f g refl refl
    rooms false f false g = neither HistoryFull refl refl

pub same_or_full : {r r' : Registers} {one other : Step} → Together r r' one other → SameOrFull (number_of_step one) (number_of_step other)
same_or_full (both a a' e f) = inl (ap number_of_step e ∙ sym (ap number_of_step f))
same_or_full (neither y e f) = inl (ap number_of_step e ∙ sym (ap number_of_step f))
same_or_full (one_full w a' room room' e f) = inr (inl (ap number_of_step e, ap number_of_step f))
same_or_full (other_full w a room room' e f) = inr (inr (ap number_of_step e, ap number_of_step f))

-- answers of one number are both accepted or both refused
pub same_accepted : {r r' : Registers} {one other : Step} → Together r r' one other → number_of_step one ≡ number_of_step other → accepted one ≡ accepted other
same_accepted (both a a' e f) q = ap accepted e ∙ sym (ap accepted f)
same_accepted (neither y e f) q = ap accepted e ∙ sym (ap accepted f)
same_accepted (one_full w a' room room' e f) q = absurd (let z : ⊥ = omega (arith, sym (ap number_of_step e) ∙ q ∙ ap number_of_step f) in z)
same_accepted (other_full w a room room' e f) q = absurd (let z : ⊥ = omega (arith, sym (ap number_of_step e) ∙ q ∙ ap number_of_step f) in z)

-- where neither is 8, they are the same
pub unless_full : {one other : ℕ} → SameOrFull one other → (one ≡ full → ⊥) → (other ≡ full → ⊥) → one ≡ other
unless_full (inl same) f g = same
unless_full (inr (inl w)) f g = absurd (f w.0)
unless_full (inr (inr w)) f g = absurd (g w.1)

-- ---- one turn of two runs, of machines that hold the same and whose next steps answer together

module _ (p : Program) where
  -- what the next step answers
  abbrev pub answer : Session → Step
  answer u = (Step.step p u.registers u.memory).answer

  -- a run from here, with so many steps left and made; and one that ends here
  abbrev from : (left made : ℕ) → Session → Ran
  from left made u = run_from p left made u.registers u.memory

  abbrev stopped : (made : ℕ) → Ending → Session → Ran
  stopped made e u = ended made e u.registers u.memory

  abbrev pub Goes : (left made : ℕ) → Session → Session → Type 0
  Goes left made a b = AlikeUnlessFull (from left made a) (from left made b)

  -- of one of them: it goes on, or its step's refusal ends it
  goes_on_lem : (left made : ℕ) (u : Session) (r : Registers) → eqb u.registers.halt 1 ≡ false → answer u ≡ Next r
      → from (suc left) made u ≡ from left (made + 1) (ask p u step)
  goes_on_lem left made u r h e =
      run_next p made u.registers u.memory left h r e
      ∙ ap (λ (a : Step). run_from p left (made + 1) (registers_after u.registers a) (ask p u step).memory) (sym e)

  refusal_ends : (left made : ℕ) (u : Session) (y : MachineRefusal) → eqb u.registers.halt 1 ≡ false → answer u ≡ Refused y
      → from (suc left) made u ≡ stopped made (Stopped y) u
  refusal_ends left made u y h e = run_refused p made u.registers u.memory left h y e

  module _ (a b : Session) (hold : HoldTheSame (state_of a) (state_of b)) where
    both_end : (left made : ℕ) (e : Ending) → from left made a ≡ stopped made e a → from left made b ≡ stopped made e b → Goes left made a b
    both_end left made e f g room room' = subst₂ EndAlike (sym f) (sym g) (record { number = refl; steps = refl; holds = hold })

    same_halt : {h : Bool} → eqb a.registers.halt 1 ≡ h → eqb b.registers.halt 1 ≡ h
    same_halt h = ap (λ (u : State). eqb u.registers.halt 1) (sym hold) ∙ h

    both_halted : (left made : ℕ) → eqb a.registers.halt 1 ≡ true → Goes left made a b
    both_halted left made h = both_end left made Halted (run_halted p made _ _ left h) (run_halted p made _ _ left (same_halt h))

    pub none_left : (made : ℕ) (h : Bool) → eqb a.registers.halt 1 ≡ h → Goes zero made a b
    none_left made true h = both_halted zero made h
    none_left made false h = both_end zero made LimitReached (run_limit p made _ _ h) (run_limit p made _ _ (same_halt h))

    module _ (left made : ℕ) (next : accepted (answer a) ≡ accepted (answer b) → Goes left (made + 1) (ask p a step) (ask p b step)) where
      by_answers : eqb a.registers.halt 1 ≡ false → eqb b.registers.halt 1 ≡ false → Together a.registers b.registers (answer a) (answer b) → Goes (suc left) made a b
      by_answers h h' (both r r' e f) =
          subst₂ AlikeUnlessFull (sym (goes_on_lem left made a r h e)) (sym (goes_on_lem left made b r' h' f)) (next (ap accepted e ∙ sym (ap accepted f)))
      by_answers h h' (neither y e f) =
          both_end (suc left) made (Stopped y) (refusal_ends left made a y h e) (refusal_ends left made b y h' f)
      by_answers h h' (one_full w r' some none e f) = λ room room'. absurd (room (ap end_number (refusal_ends left made a HistoryFull h e)))
      by_answers h h' (other_full w r some none e f) = λ room room'. absurd (room' (ap end_number (refusal_ends left made b HistoryFull h' f)))

      pub some_left : Together a.registers b.registers (answer a) (answer b) → (h : Bool) → eqb a.registers.halt 1 ≡ h → Goes (suc left) made a b
      some_left w true h = both_halted (suc left) made h
      some_left w false h = by_answers h (same_halt h) w
