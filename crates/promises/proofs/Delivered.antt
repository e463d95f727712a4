-- Request j: "From a reset, no run of an accepted program meets 2, 3 or 7. Each place such a run reaches has SP as its listed depth." So for every program and list that
-- are accepted, every lent memory of N cells that a reset accepts, whatever its history and output, and every series of steps, runs, step-backs and forgets: by demand 3
-- it stands where a fresh run stands. Assumes nothing.
use Rattle.std.specs.Prelude.{Ok, Err, IsOk}
use Prim.Native.Nat.{ℕ}
use mathlib.Core.Path.{◌≡◌, refl, sym, ap, ◌∙◌, subst}
use mathlib.Core.Bool.{Bool, true, false}
use mathlib.Core.List.{List, [], ◌∷◌, ◌++◌}
use native.Mathlib.Omega.{arith}
use lib.Dec.{leb}
use lib.ListN.{length, replicate}
use borrow.Author.Tests.{leb-true}
use Rattle.rules.specs.Sizes.{max_limit}
use Rattle.rules.specs.Table.{Program}
use Rattle.rules.specs.State.{Memory, others}
use Rattle.rules.specs.Commit.{room_for}
use Rattle.rules.specs.Numbers.{number_of_step, number_of_ending}
use Rattle.rules.specs.Step.{Stepped, in_history, carried}
use Rattle.rules.specs.Step as Step
use Rattle.rules.specs.Run.{Ran}
use Rattle.rules.specs.Run as Run
use Rattle.rules.specs.Reset.{Started, begun, reset, registers_begun}
use Rattle.rules.specs.DepthList.{check}
use Rattle.rules.specs.declared.Registers.{Registers}
use Rattle.rules.specs.Answers.{Decision}
use Rattle.rules.specs.declared.MachineRefusal.TheVariants.{HistoryFull}
use Rattle.rules.specs.declared.Step.{Step}
use Rattle.rules.specs.declared.Ending.{Ending}
use Rattle.rules.specs.declared.Ending.TheVariants.{Halted, LimitReached, Stopped}
use Rattle.rules.proofs.Runs.{run_long}
use Rattle.rules.proofs.Spares.{Spares, spares_fitting}
use Rattle.promises.specs.Unbounded.{Unbounded, decided}
use Rattle.promises.specs.Series.{Request, step, run, State, Session, state_of, series, begin, left, fresh, ahead, fresh_run, Promised}
use Rattle.promises.specs.Delivered.{Acceptable, Reached, meets, AsListed}
use Rattle.promises.proofs.Counts.{series_then}
use Rattle.promises.proofs.Runs.{Because, IsItsSteps, run_is_its_steps}
use Rattle.promises.proofs.Demand3Reset.{reset_accepted}
use Rattle.promises.proofs.Demand3Origin.{reset_origin}
use Rattle.promises.proofs.Demand3.{demand3}
use Rattle.promises.proofs.Acceptable.{accepted_acceptable}
use Rattle.promises.proofs.OnList.{OnList, judged_spared, moved_on}

carried_spared : (r : Registers) (m : Memory) (d : Decision) → Spares meets d → meets (number_of_step (carried r m d).answer) ≡ false
carried_spared r m (Ok e) h = refl
carried_spared r m (Err x) h = h

-- a run ends with a number that a step gives, or with 0 or 50
ending_spared : (p : Program) (limit : ℕ) (a : Ran) (e : Ending) → Because p limit a e
    → meets (number_of_step (Step.step p a.answer.registers a.memory).answer) ≡ false → meets (number_of_ending e) ≡ false
ending_spared p limit a Halted b h = refl
ending_spared p limit a LimitReached b h = refl
ending_spared p limit a (Stopped x) b h = ap (λ (t : Step). meets (number_of_step t)) (sym b.2) ∙ h

module _ (p : Program) (m : Memory) (depths : List ℕ) (accepts : check p (length m.cells.bits) depths ≡ Ok tt) (ready : IsOk (reset p m).answer) where
  abbrev o : State
  o = left (reset p m)

  abbrev x : Unbounded
  x = fresh o

  promised : (qs : List Request) → Promised p o x (series p qs (begin o))
  promised = demand3 p o x (reset_origin p m ready)

  -- "place 0 has depth 0": so it begins
  on_reset : OnList p depths x.registers
  on_reset =
      let a : Acceptable p (length m.cells.bits) depths = accepted_acceptable p (length m.cells.bits) depths accepts in
      let on : OnList p depths (registers_begun (begun m).answer) = record { list = a; low = a.some; place = a.start } in
      subst (λ (t : Started). OnList p depths (registers_begun t.answer)) (sym (reset_accepted p m ready).leaves) on

  on_run : (s : Session) → OnList p depths (others (fresh_run p x s).registers)
  on_run s = let on = moved_on p depths x on_reset (ahead s) in record { list = on.list; low = on.low; place = on.place }

  reached : (qs : List Request) → Reached p depths (state_of (series p qs (begin o)))
  reached qs =
      let s : Session = series p qs (begin o) in
      let same : others s.registers ≡ others (fresh_run p x s).registers = (promised qs).registers in
      let here : OnList p depths (others s.registers) = subst (OnList p depths) (sym same) (on_run s) in
      record {
        place = here.place;
        reached = λ q. absurd (let z : ⊥ = omega (arith, here.low, here.list.few, here.place.listed, q) in z);
      }

  step_spared : (qs : List Request) → (let s = series p qs (begin o) in meets (number_of_step (Step.step p s.registers s.memory).answer) ≡ false)
  step_spared qs =
      let s : Session = series p qs (begin o) in
      let y : Unbounded = fresh_run p x s in
      ap (λ (t : Stepped). meets (number_of_step t.answer)) (promised qs).next
      ∙ carried_spared s.registers s.memory (in_history s.registers (decided p y))
      (spares_fitting meets (room_for s.registers) HistoryFull (decided p y) refl
      (judged_spared p depths (others y.registers) (on_run s) y.cells (length y.output)))

  run_spared : (qs : List Request) (limit : ℕ) (b : Bool) → leb limit max_limit ≡ b
      → (let s = series p qs (begin o) in meets (number_of_ending (Run.run p limit s.registers s.memory).answer.ending) ≡ false)
  run_spared qs limit true h =
      let s : Session = series p qs (begin o) in
      let a : Ran = Run.run p limit s.registers s.memory in
      let i : IsItsSteps p limit s.registers s.memory a =
      run_is_its_steps p limit s.registers s.memory (promised qs).sound (leb-true _ _ h) in
      ending_spared p limit a a.answer.ending i.because
      (subst (λ (t : Session). meets (number_of_step (Step.step p t.registers t.memory).answer) ≡ false) (series_then p qs (run limit ∷ []) (begin o))
      (step_spared (qs ++ run limit ∷ [])))
  run_spared qs limit false h =
      let s : Session = series p qs (begin o) in
      ap (λ (a : Ran). meets (number_of_ending a.answer.ending)) (run_long p limit s.registers s.memory h)

  pub as_listed : (qs : List Request) → AsListed p depths (series p qs (begin o))
  as_listed qs =
      record {
        here = reached qs;
        step = step_spared qs;
        run = λ limit. run_spared qs limit (leb limit max_limit) refl;
        passes =
            λ k.
            subst (λ (t : Session). Reached p depths (state_of t)) (series_then p qs (replicate k step) (begin o)) (reached (qs ++ replicate k step));
      }
