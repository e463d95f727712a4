-- The unbounded run: each state that its accepted steps reach is that of a machine of no history in a good state, and each of its records is well formed.
-- Assumes nothing.
use Rattle.std.specs.Prelude.{Ok, Err}
use Prim.Native.Nat.{ℕ, zero, suc, ◌≤◌}
use mathlib.Core.Path.{◌≡◌, refl, sym, ap, ◌∙◌, subst}
use mathlib.Core.List.{[]}
use native.Mathlib.Omega.{arith}
use lib.ListN.{length}
use Rattle.rules.specs.Table.{Program}
use Rattle.rules.specs.declared.Effect.{Effect}
use Rattle.rules.specs.Answers.{Decision}
use Rattle.rules.proofs.Fair.{Sound, Going, Fair}
use Rattle.rules.proofs.FairEffects.{sound_facts, judged_going, going_below, fair_judged}
use Rattle.rules.proofs.Formed.{record_formed}
use Rattle.rules.proofs.Records.{AllFormed}
use Rattle.promises.specs.Unbounded.{Unbounded, moves, decided, moved}
use Rattle.promises.specs.Series.{plain}
use Rattle.promises.proofs.Demand3Good.{Good, good_committed}

-- each of the first k steps is accepted
abbrev pub Makes : Program → Unbounded → ℕ → Type 0
Makes p x zero = Unit {0}
Makes p x (suc k) = Makes p x k × (e : Effect) × (decided p (moved p k x) ≡ Ok e)

-- what an accepted step makes
module _ (p : Program) (x : Unbounded) (good : Good p (plain x)) (e : Effect) (q : decided p x ≡ Ok e) where
  pub good_moves : Good p (plain (moves x (Ok e)))
  good_moves = good_committed p (plain x) good e q

  made_sound : Sound p (plain x).registers (plain x).memory
  made_sound = sound_facts p (plain x).registers (plain x).memory good.sound

  made_going : Going p (plain x).registers (plain x).memory e
  made_going = judged_going p (plain x).registers (plain x).memory e q

  pub made_fair : Fair p (plain x).registers e
  made_fair = fair_judged p (plain x).registers (plain x).memory e good.sound q

  pub formed_moves : AllFormed x.registers.n p.count x.records → AllFormed x.registers.n p.count (moves x (Ok e)).records
  formed_moves f = (
    record_formed p (plain x).registers (plain x).memory e made_sound good.narrow
        (going_below p (plain x).registers (plain x).memory e made_sound made_going) made_fair.fits,
    f,
  )

-- and what so many of them do
pub record Run (p : Program) (x : Unbounded) : Type 0 where
  pub good : Good p (plain x)
  pub formed : AllFormed x.registers.n p.count x.records

pub run_made : (p : Program) (x : Unbounded) → Run p x → (k : ℕ) → Makes p x k → Run p (moved p k x)
run_made p x w zero m = w
run_made p x w (suc k) m =
    let v : Run p (moved p k x) = run_made p x w k m.0 in
    subst (λ (d : Decision). Run p (moves (moved p k x) d)) (sym m.2)
    (record { good = good_moves p (moved p k x) v.good m.1 m.2; formed = formed_moves p (moved p k x) v.good m.1 m.2 v.formed })

-- one record for each
pub records_made : (p : Program) (x : Unbounded) → x.records ≡ [] → (k : ℕ) → Makes p x k → length (moved p k x).records ≡ k
records_made p x none zero m = ap length none
records_made p x none (suc k) m =
    ap (λ (d : Decision). length (moves (moved p k x) d).records) m.2 ∙ ap suc (records_made p x none k m.0)

-- and no more: so a run that has k records after k steps made each of them
no_more_records : (p : Program) (x : Unbounded) → x.records ≡ [] → (k : ℕ) → length (moved p k x).records ≤ k
no_more_records p x none zero = omega (arith, ap length none)
no_more_records p x none (suc k) = go (decided p (moved p k x)) (no_more_records p x none k)
  where
    go : (d : Decision) → length (moved p k x).records ≤ k → length (moves (moved p k x) d).records ≤ suc k
    go (Ok e) h = omega (arith, h)
    go (Err y) h = omega (arith, h)

pub all_made : (p : Program) (x : Unbounded) → x.records ≡ [] → (k : ℕ) → length (moved p k x).records ≡ k → Makes p x k
all_made p x none zero e = tt
all_made p x none (suc k) e = go (decided p (moved p k x)) refl e (all_made p x none k) (no_more_records p x none k)
  where
    go : (d : Decision) → decided p (moved p k x) ≡ d → length (moves (moved p k x) d).records ≡ suc k
        → (length (moved p k x).records ≡ k → Makes p x k) → length (moved p k x).records ≤ k → Makes p x (suc k)
    go (Ok f) q l before few = (before (omega (arith, l)), f, q)
    go (Err y) q l before few = absurd (let z : ⊥ = omega (arith, l, few) in z)
