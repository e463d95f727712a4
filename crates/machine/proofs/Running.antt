-- Where the loop of a run stands, and where each step of it leads. Assumes nothing.
use Prim.Native.Nat.{ℕ, suc, ◌+◌, ◌-◌, ◌≤◌, ◌<◌}
use mathlib.Core.Path.{◌≡◌, refl, sym, ap, ap₂, ◌∙◌}
use mathlib.Core.Bool.{true, false}
use mathlib.Core.List.{List}
use native.Mathlib.Omega.{arith}
use lib.ListN.{length}
use lib.Dec.{eqb}
use borrow.Author.Tests.{eq-eqb, ne_eqb}
use Rattle.rules.specs.Table.{Program}
use Rattle.rules.specs.State.{Memory, memory, sound}
use Rattle.rules.specs.Step.{step}
use Rattle.rules.specs.Run.{ended, run_from}
use Rattle.rules.specs.declared.Registers.{Registers}
use Rattle.rules.specs.declared.MachineRefusal.{MachineRefusal}
use Rattle.rules.specs.declared.Step.{Step}
use Rattle.rules.specs.declared.Step.TheVariants.{Next, Refused}
use Rattle.rules.specs.declared.Ending.TheVariants.{Halted, LimitReached, Stopped}
use Rattle.rules.proofs.Fair.{Sound}
use Rattle.rules.proofs.FairEffects.{sound_facts}
use Rattle.rules.proofs.Runs.{run_halted, run_limit, run_next, run_refused}
use Rattle.state.specs.Outcomes.{stepped}
use Rattle.machine.proofs.Steps.{next_sound, refused_keeps}

-- ---- HALT of a sound state is 0 or 1

pub not_halted : (r : Registers) → r.halt ≡ 0 → eqb r.halt 1 ≡ false
not_halted r h = ne_eqb r.halt 1 (omega (arith, h))

halted_is : (p : Program) (r : Registers) (m : Memory) → sound p r m ≡ true → (r.halt ≡ 0 → ⊥) → eqb r.halt 1 ≡ true
halted_is p r m s h =
    let f : Sound p r m = sound_facts p r m s in
    let b = f.halt in
    eq-eqb r.halt 1 (omega (arith, h, b))

-- ---- where the run's loop stands: `made` steps are made of the limit, to registers and a memory that are sound and not halted

pub record Reached (p : Program) (limit : ℕ) (r₀ : Registers) (m₀ : Memory) (made : ℕ) (r : Registers) (m : Memory) : Type 0 where
  pub good : sound p r m ≡ true
  pub running : r.halt ≡ 0
  pub whole : run_from p (limit - made) made r m ≡ run_from p limit 0 r₀ m₀
  pub bits : length m.cells.bits ≡ length m₀.cells.bits
  pub tags : length m.cells.tags ≡ length m₀.cells.tags
  pub history : length m.history ≡ length m₀.history
  pub output : length m.output ≡ length m₀.output

module _ (p : Program) (limit : ℕ) (r₀ : Registers) (m₀ : Memory) where
  pub start_halted : sound p r₀ m₀ ≡ true → (r₀.halt ≡ 0 → ⊥) → ended 0 Halted r₀ m₀ ≡ run_from p limit 0 r₀ m₀
  start_halted s h = sym (run_halted p 0 r₀ m₀ limit (halted_is p r₀ m₀ s h))

  pub reached_start : sound p r₀ m₀ ≡ true → r₀.halt ≡ 0 → Reached p limit r₀ m₀ 0 r₀ m₀
  reached_start s h =
      let all : limit - 0 ≡ limit = omega arith in
      record {
        good = s;
        running = h;
        whole = ap (λ (n : ℕ). run_from p n 0 r₀ m₀) all;
        bits = refl;
        tags = refl;
        history = refl;
        output = refl;
      }

  module _ (made : ℕ) (r : Registers) (m : Memory) (o : Reached p limit r₀ m₀ made r m) where
    going : eqb r.halt 1 ≡ false
    going = not_halted r o.running

    -- the limit is made
    pub reached_limit : made ≤ limit → limit ≤ made → ended limit LimitReached r m ≡ run_from p limit 0 r₀ m₀
    reached_limit within h =
        let none : limit - made ≡ 0 = omega arith in
        let all : limit ≡ made = omega arith in
        sym (run_limit p limit r m going) ∙ ap₂ (λ (k n : ℕ). run_from p k n r m) (sym none) all ∙ o.whole

    -- a step is made or refused
    module _ (low : made < limit) (bits tags history output : List ℕ) where
      begun : run_from p (suc (limit - (made + 1))) made r m ≡ run_from p limit 0 r₀ m₀
      begun = let one : suc (limit - (made + 1)) ≡ limit - made = omega arith in ap (λ (n : ℕ). run_from p n made r m) one ∙ o.whole

      pub reached_refused : (a : Step) (x : MachineRefusal) → a ≡ Refused x → stepped a bits tags history output ≡ step p r m
          → ended made (Stopped x) r (memory bits tags history output) ≡ run_from p limit 0 r₀ m₀
      reached_refused a x k e =
          ap (ended made (Stopped x) r) (refused_keeps p r m o.good bits tags history output a x k e)
          ∙ sym (run_refused p made r m (limit - (made + 1)) going x (sym (ap (λ s. s.answer) e) ∙ k))
          ∙ begun

      module _ (a : Step) (q : Registers) (k : a ≡ Next q) (e : stepped a bits tags history output ≡ step p r m) where
        after_sound : sound p q (memory bits tags history output) ≡ true
        after_sound = next_sound p r m o.good bits tags history output a q k e

        after_whole : run_from p (limit - (made + 1)) (made + 1) q (memory bits tags history output) ≡ run_from p limit 0 r₀ m₀
        after_whole =
            ap (λ (z : Memory). run_from p (limit - (made + 1)) (made + 1) q z) (ap (λ s. s.memory) e)
            ∙ sym (run_next p made r m (limit - (made + 1)) going q (sym (ap (λ s. s.answer) e) ∙ k))
            ∙ begun

        pub next_halted : (q.halt ≡ 0 → ⊥) → ended (made + 1) Halted q (memory bits tags history output) ≡ run_from p limit 0 r₀ m₀
        next_halted h =
            sym (run_halted p (made + 1) q (memory bits tags history output) (limit - (made + 1)) (halted_is p q (memory bits tags history output) after_sound h))
            ∙ after_whole

        module _ (kb : length bits ≡ length m.cells.bits) (kt : length tags ≡ length m.cells.tags) (kh : length history ≡ length m.history) where
          -- N and H are the lengths of the lent slices
          pub next_sizes : sound p r₀ m₀ ≡ true → (q.n ≡ r₀.n) × (q.h ≡ r₀.h)
          next_sizes s =
              let f₀ : Sound p r₀ m₀ = sound_facts p r₀ m₀ s in
              let f : Sound p q (memory bits tags history output) = sound_facts p q (memory bits tags history output) after_sound in
              (sym f.bits ∙ kb ∙ o.bits ∙ f₀.bits, sym f.history ∙ kh ∙ o.history ∙ f₀.history)

          pub reached_next : length output ≡ length m.output → q.halt ≡ 0 → Reached p limit r₀ m₀ (made + 1) q (memory bits tags history output)
          reached_next ko h =
              record {
                good = after_sound;
                running = h;
                whole = after_whole;
                bits = kb ∙ o.bits;
                tags = kt ∙ o.tags;
                history = kh ∙ o.history;
                output = ko ∙ o.output;
              }
