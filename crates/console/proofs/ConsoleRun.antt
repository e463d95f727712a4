-- The run of the console: what it leaves, that SP stays below 1,000, and that at most 256 bytes are written. Assumes nothing.
use Rattle.std.specs.Prelude.{Ok, Err}
use Prim.Native.Nat.{ℕ, zero, suc, ◌+◌, ◌≤◌, ◌<◌}
use mathlib.Core.Path.{◌≡◌, refl, subst}
use mathlib.Core.Bool.{true, false}
use mathlib.Core.List.{List, [], ◌∷◌}
use native.Mathlib.Omega.{arith}
use lib.Dec.{eqb, leb}
use lib.ListN.{length}
use Rattle.rules.specs.Lists.{every}
use Rattle.rules.specs.Sizes.{max_limit, max_cells, max_output}
use Rattle.rules.specs.Table.{Program, sound_table}
use Rattle.rules.specs.State.{Memory, memory, sound}
use Rattle.rules.specs.Step.{step}
use Rattle.rules.specs.Run.{Ran, run_from, run}
use Rattle.rules.specs.Reset.{cleared, size_tests, registers_begun, reset}
use Rattle.rules.specs.Console.{console_limit, console_memory, console_run}
use Rattle.rules.specs.declared.Registers.{Registers}
use Rattle.rules.specs.declared.Run.{Run}
use Rattle.rules.specs.declared.Step.{Step}
use Rattle.rules.specs.Answers.{Begun}
use Rattle.rules.specs.declared.Step.TheVariants.{Next, Refused}
use Rattle.state.specs.Outcomes.{started}
use Rattle.rules.proofs.Tests.{by_test}
use Rattle.rules.proofs.Runs.{run_halted, run_limit, run_next, run_refused, run_long, run_broken, run_enter}
use Rattle.rules.proofs.FairEffects.{sound_facts}
use Rattle.rules.proofs.Sound.{step_plain, sound_step}

-- ---- a run of a sound state ends in one

abbrev Stands : Program → Ran → Type 0
Stands p a = sound p a.answer.registers a.memory ≡ true

module _ (p : Program) (left made : ℕ) (r : Registers) (m : Memory) (s : sound p r m ≡ true) (going : eqb r.halt 1 ≡ false) where
  stands_next : ((r' : Registers) (m' : Memory) → sound p r' m' ≡ true → Stands p (run_from p left (made + 1) r' m'))
      → (a : Step) → (step p r m).answer ≡ a → Stands p (run_from p (suc left) made r m)
  stands_next f (Next r') e =
      let q : sound p r' (step p r m).memory ≡ true = rw (step_plain p r m s) (sound_step p r r' m s (rw (step_plain p r m s) at e)) in
      rw (run_next p made r m left going r' e) (f r' (step p r m).memory q)
  stands_next f (Refused x) e = rw (run_refused p made r m left going x e) s

stands : (p : Program) (left made : ℕ) (r : Registers) (m : Memory) → sound p r m ≡ true → Stands p (run_from p left made r m)
stands p zero made r m s =
    by_test (eqb r.halt 1) (λ e. rw (run_halted p made r m zero e) s) (λ e. rw (run_limit p made r m e) s)
stands p (suc left) made r m s =
    by_test (eqb r.halt 1)
    (λ e. rw (run_halted p made r m (suc left) e) s)
    (λ e. stands_next p left made r m s e (λ r' m' s'. stands p left (made + 1) r' m' s') (step p r m).answer refl)

-- ---- SP stays below 1,000, and at most 256 bytes are written

pub record Within (r : Registers) : Type 0 where
  pub sp : r.sp < max_cells
  pub written : r.written ≤ max_output

run_within : (p : Program) (limit : ℕ) (r : Registers) (m : Memory) → Within r → Within (run p limit r m).answer.registers
run_within p limit r m w =
    by_test (leb limit max_limit)
    (λ e.
    by_test (sound p r m)
    (λ s.
    let a = run_from p limit 0 r m in
    let f = sound_facts p a.answer.registers a.memory (stands p limit 0 r m s) in
    rw (run_enter p limit r m e s) (record { sp = omega (arith, f.sp, f.few); written = omega (arith, f.written, f.shown) }))
    (λ s. rw (run_broken p limit r m e s) w))
    (λ e. rw (run_long p limit r m e) w)

cleared_within : (n h : ℕ) → Within (cleared n h)
cleared_within n h = record { sp = omega arith; written = omega arith }

reset_within : (p : Program) (m : Memory) → Within (registers_begun (reset p m).answer)
unfolding reset
reset_within p m =
    by_test (every (size_tests m))
    (λ e. by_test (sound_table p) (λ s. rw (e, s) (cleared_within _ _)) (λ s. rw (e, s) (cleared_within 0 0)))
    (λ e. rw e (cleared_within 0 0))

pub console_within : (p : Program) → Within (console_run p).answer.registers
unfolding console_run
console_within p =
    let start = reset p console_memory in
    run_within p console_limit (registers_begun start.answer) start.memory (reset_within p console_memory)

pub ran_within : (p : Program) (a : Run) (m : Memory) → console_run p ≡ record { answer = a; memory = m } → Within a.registers
ran_within p a m e = subst (λ (x : Ran). Within x.answer.registers) e (console_within p)

-- ---- what the reset and the run of the console leave

none_left : (l : List ℕ) → length l ≡ 0 → l ≡ []
none_left [] e = refl
none_left (x ∷ l) e = absurd (let y : ⊥ = omega (arith, e) in y)

module _
    (p : Program)
    (s : Begun)
    (r : Registers)
    (a : Run)
    (b₁ t₁ h₁ o₁ b₂ t₂ h₂ o₂ : List ℕ)
    (starts : r ≡ registers_begun s)
    (begins : started s b₁ t₁ h₁ o₁ ≡ reset p console_memory)
    (tells : a ≡ (run p console_limit r (memory b₁ t₁ h₁ o₁)).answer)
    (leaves : memory b₂ t₂ h₂ o₂ ≡ (run p console_limit r (memory b₁ t₁ h₁ o₁)).memory)
    (bare : length h₂ ≡ 0) where
  pub console_ran : console_run p ≡ record { answer = a; memory = memory b₂ t₂ [] o₂ }
  unfolding console_run
  console_ran =
      let e : memory b₂ t₂ [] o₂ ≡ (run p console_limit r (memory b₁ t₁ h₁ o₁)).memory = rw (none_left h₂ bare) at leaves in
      rw (← begins, tells, e, starts)
