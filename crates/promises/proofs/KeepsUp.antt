-- Request i: a machine with room for all the records of the fresh run keeps up with it: each of its steps is accepted, and they leave what the run leaves. Assumes
-- nothing.
use Rattle.std.specs.Prelude.{Ok}
use Prim.Native.Nat.{ℕ, zero, suc, ◌+◌, ◌≤◌, zero-le}
use mathlib.Core.Path.{◌≡◌, refl, sym, ap, ap₂, ◌∙◌, subst}
use mathlib.Core.Bool.{Bool, true, false, cond}
use mathlib.Core.List.{List, ◌∷◌}
use native.Mathlib.Omega.{arith}
use lib.Dec.{ltb}
use lib.ListN.{length, take, replicate, length-append}
use lib.Seq.{take_all}
use borrow.Author.Tests.{ltb-true}
use Rattle.rules.specs.Table.{Program}
use Rattle.rules.specs.State.{others}
use Rattle.rules.specs.Commit.{record_of}
use Rattle.rules.specs.Records.{places_of}
use Rattle.rules.specs.Step.{Stepped, judged, carried}
use Rattle.rules.specs.Step as Step
use Rattle.rules.specs.declared.Effect.{Effect}
use Rattle.rules.specs.Answers.{Decision}
use Rattle.promises.specs.Unbounded.{Unbounded, moves, moved}
use Rattle.promises.specs.Series.{State, Session, state_of, step, accepted, begin, afresh, Origin, ahead, remembered, Promised}
use Rattle.promises.specs.Agrees.{HasRoom, KeepsUp}
use Rattle.promises.proofs.Runs.{steps_end, none_undone, none_forgotten}
use Rattle.promises.proofs.Demand3Good.{step_good}
use Rattle.promises.proofs.Demand3Run.{Makes, all_made}
use Rattle.promises.proofs.Demand3Held.{held, added, judged_held, Begins}
use Rattle.promises.proofs.Demand3Origin.{origin_begins}
use Rattle.promises.proofs.Demand3Kept.{reached, Kept, run_reached, good_kept, kept_series}
use Rattle.promises.proofs.Demand3.{far_is, few_is, promised}

module _ (p : Program) (o : State) (x₀ : Unbounded) (begins : Begins p o x₀) where
  abbrev h : ℕ
  h = o.registers.h

  -- the records that the machine holds after k steps of the run where none is forgotten: all of them, or none without a history
  abbrev pub all : ℕ → List (List ℕ)
  all k = take (cond (ltb 0 h) k 0) (reached p o x₀ begins k).records

  one_more_lem : (b : Bool) (k : ℕ) (l : List ℕ) (ls : List (List ℕ)) → take (cond b (suc k) 0) (l ∷ ls) ≡ added b l (take (cond b k 0) ls)
  one_more_lem true k l ls = refl
  one_more_lem false k l ls = refl

  places_grow : (b : Bool) (l : List ℕ) (ls : List (List ℕ)) → length (places_of ls) ≤ length (places_of (added b l ls))
  places_grow true l ls = omega (arith, length-append (places_of ls) l)
  places_grow false l ls = omega arith

  kept_steps : (k : ℕ) → Kept p o x₀ begins (afresh p o k)
  kept_steps k = kept_series p o x₀ begins (replicate k step)

  -- k accepted steps are as far as the run after k, and hold all its records
  ahead_steps : (k : ℕ) → (afresh p o k).made ≡ k → ahead (afresh p o k) ≡ k
  ahead_steps k made = omega (arith, made, none_undone p k (begin o))

  remembered_steps : (k : ℕ) → (afresh p o k).made ≡ k → remembered (afresh p o k) ≡ k
  remembered_steps k made = omega (arith, ahead_steps k made, none_forgotten p k (begin o))

  at_steps : (k : ℕ) → (afresh p o k).made ≡ k → state_of (afresh p o k) ≡ held h (all k) (reached p o x₀ begins k)
  at_steps k made =
      let s : Session = afresh p o k in
      let w : Kept p o x₀ begins s = kept_steps k in
      w.holds.at
      ∙ ap₂ (λ (n i : ℕ). held h (take n (reached p o x₀ begins i).records) (reached p o x₀ begins i))
      (few_is p o x₀ begins s w ∙ ap (λ (n : ℕ). cond (ltb 0 h) n 0) (remembered_steps k made)) (far_is p o x₀ begins s w ∙ ahead_steps k made)

  -- each of k steps is accepted where the history has room for them
  pub steps_made : (k : ℕ) → Makes p x₀ k → length (places_of (all k)) ≤ h → (afresh p o k).made ≡ k
  steps_made zero m fits = refl
  steps_made (suc k) m fits =
      let s : Session = afresh p o k in
      let x : Unbounded = reached p o x₀ begins k in
      let e : Effect = m.1 in
      let newest : List ℕ = record_of x.registers x.cells e in
      let room : length (places_of (added (ltb 0 h) newest (all k))) ≤ h =
      subst (λ (l : List (List ℕ)). length (places_of l) ≤ h) (one_more_lem (ltb 0 h) k newest x.records)
      (subst (λ (d : Decision). length (places_of (take (cond (ltb 0 h) (suc k) 0) (moves x d).records)) ≤ h) m.2 fits) in
      let made : s.made ≡ k = steps_made k m.0 (omega (arith, places_grow (ltb 0 h) newest (all k), room)) in
      let does : judged p s.registers s.memory.cells (length s.memory.output) ≡ Ok e =
      ap (λ (t : State). judged p t.registers t.memory.cells (length t.memory.output)) (at_steps k made)
      ∙ judged_held p h begins.short x (run_reached p o x₀ begins k m.0).good e m.2 (all k) room in
      let answered : Step.step p s.registers s.memory ≡ carried s.registers s.memory (Ok e) =
      step_good p (state_of s) (good_kept p o x₀ begins s (kept_steps k)) ∙ ap (carried s.registers s.memory) does in
      ap (λ (t : Session). t.made) (steps_end p k (begin o)) ∙ ap (λ (a : Stepped). s.made + accepted a.answer) answered ∙ omega (arith, made)

pub keeps_up : (p : Program) (o : State) (x : Unbounded) → Origin p o x → (k : ℕ) → HasRoom o (moved p k x) k → KeepsUp p o x k
keeps_up p o x origin k room =
    let begins : Begins p o x = origin_begins p o x origin in
    let s : Session = afresh p o k in
    let made : s.made ≡ k =
    steps_made p o x begins k (all_made p x begins.none k room.made) (enough begins (ltb 0 o.registers.h) refl) in
    let far : ahead s ≡ k = ahead_steps p o x begins k made in
    let left : remembered s ≡ k = remembered_steps p o x begins k made in
    let v : Promised p o x s = promised p o x begins s (kept_steps p o x begins k) in
    record {
      made = made;
      alike =
          record {
            registers = v.registers ∙ ap (λ (n : ℕ). others (moved p n x).registers) far;
            cells = v.cells ∙ ap (λ (n : ℕ). (moved p n x).cells) far;
            output = v.output ∙ ap (λ (n : ℕ). (moved p n x).output) far;
          };
      history =
          λ some.
          v.history (omega (arith, some, v.h))
          ∙ ap₂ (λ (n i : ℕ). places_of (take n (moved p i x).records)) left far
          ∙ ap places_of (take_all k (moved p k x).records (omega (arith, room.made)));
    }
  where
    enough : (begins : Begins p o x) (b : Bool) → ltb 0 o.registers.h ≡ b → length (places_of (take (cond b k 0) (reached p o x begins k).records)) ≤ o.registers.h
    enough begins true z =
        subst (λ (l : List (List ℕ)). length (places_of l) ≤ o.registers.h) (sym (take_all k (reached p o x begins k).records (omega (arith, room.made))))
        (room.fits (ltb-true _ _ z))
    enough begins false z = zero-le
