-- Demand 3 where nothing is forgotten: everything equals a fresh reset or load of the same sizes and S minus B steps of the machine itself. It follows from what a session
-- keeps: all the records of the fresh run are held, so each of its steps had room. Assumes nothing.
use Rattle.std.specs.Prelude.{IsOk}
use Prim.Native.Nat.{ℕ, ◌+◌, ◌-◌, ◌≤◌}
use mathlib.Core.Path.{◌≡◌, refl, ap, ◌∙◌, subst}
use mathlib.Core.Bool.{Bool, true, false, ◌||◌, cond}
use mathlib.Core.List.{List, [], ◌∷◌}
use native.Mathlib.Omega.{arith}
use lib.Dec.{ltb, eqb}
use lib.ListN.{length, take, replicate}
use borrow.Author.Tests.{eqb-true, eqb-false, eq-eqb, ne_eqb}
use Rattle.rules.specs.Table.{Program}
use Rattle.rules.specs.State.{Memory}
use Rattle.rules.specs.Numbers.{machine_number}
use Rattle.rules.specs.Records.{places_of}
use Rattle.rules.specs.Reset as Reset
use Rattle.rules.specs.SavedState as SavedState
use Rattle.rules.specs.declared.MachineRefusal.TheVariants.{NoHistory}
use Rattle.promises.specs.Unbounded.{Unbounded}
use Rattle.promises.specs.Series.{Request, step, run, back, forget, State, Session, state_of, ask, series, begin, left, left_by_load, SameSizes, fresh, Origin, afresh, ahead, Promised}
use Rattle.promises.specs.Whole.{NoForgets, Whole}
use Rattle.promises.proofs.Runs.{none_undone, none_forgotten}
use Rattle.promises.proofs.Demand3Held.{Begins}
use Rattle.promises.proofs.Demand3Reset.{reset_sized}
use Rattle.promises.proofs.Demand3Load.{load_sized}
use Rattle.promises.proofs.Demand3Origin.{origin_begins, reset_origin, load_origin}
use Rattle.promises.proofs.Demand3Kept.{reached, Kept, kept_series}
use Rattle.promises.proofs.Demand3.{far_is, promised, same_held}
use Rattle.promises.proofs.KeepsUp.{steps_made}

module _ (p : Program) (o : State) (x₀ : Unbounded) (begins : Begins p o x₀) where
  abbrev h : ℕ
  h = o.registers.h

  whole_kept : (s : Session) (w : Kept p o x₀ begins s) → s.forgotten ≡ 0 → Whole p o s
  whole_kept s w f =
      let k : ℕ = ahead s in
      let v : Promised p o x₀ s = promised p o x₀ begins s w in
      let few : w.few ≡ cond (ltb 0 h) w.far 0 = omega (arith, f) ∙ w.kept in
      let fits : length (places_of (take (cond (ltb 0 h) w.far 0) (reached p o x₀ begins w.far).records)) ≤ h =
      subst (λ (n : ℕ). length (places_of (take n (reached p o x₀ begins w.far).records)) ≤ h) few w.holds.fits in
      let made : (afresh p o k).made ≡ k =
      subst (λ (n : ℕ). (afresh p o n).made ≡ n) (far_is p o x₀ begins s w) (steps_made p o x₀ begins w.far w.makes fits) in
      let same : state_of s ≡ state_of (afresh p o k) =
      same_held p o x₀ begins s (afresh p o k) w (kept_series p o x₀ begins (replicate k step))
      (omega (arith, made, none_undone p k (begin o))) (omega (arith, f, none_forgotten p k (begin o))) in
      let all : ahead s - s.forgotten ≡ ahead s = omega (arith, f) in
      record {
        within = omega (arith, v.within);
        registers = ap (λ (t : State). t.registers) same;
        memory = ap (λ (t : State). t.memory) same;
        steps = made;
        refused = v.refused ∙ ap (λ (b : Bool). cond (eqb s.registers.h 0 || b) (machine_number NoHistory) 0) (even (eqb s.made s.undone) refl v.within);
        kept = v.kept ∙ ap (λ (n : ℕ). cond (ltb 0 s.registers.h) n 0) all;
      }
    where
      even : (b : Bool) → eqb s.made s.undone ≡ b → s.undone + s.forgotten ≤ s.made → eqb (ahead s) s.forgotten ≡ b
      even true z low = let same : s.made ≡ s.undone = eqb-true _ _ z in eq-eqb (ahead s) s.forgotten (omega (arith, same, f))
      even false z low = ne_eqb (ahead s) s.forgotten (λ y. eqb-false s.made s.undone z (omega (arith, y, f, low)))

-- nothing is forgotten where no forget is asked for
unforgotten : (p : Program) (qs : List Request) (s : Session) → NoForgets qs → (series p qs s).forgotten ≡ s.forgotten
unforgotten p [] s n = refl
unforgotten p (step ∷ qs) s n = unforgotten p qs (ask p s step) n
unforgotten p (run limit ∷ qs) s n = unforgotten p qs (ask p s (run limit)) n
unforgotten p (back ∷ qs) s n = unforgotten p qs (ask p s back) n
unforgotten p (forget k ∷ qs) s n = absurd n

-- beside the steps from the same origin
pub demand3_whole : (p : Program) (o : State) (x : Unbounded) → Origin p o x → (qs : List Request) → NoForgets qs → Whole p o (series p qs (begin o))
demand3_whole p o x origin qs n =
    let begins : Begins p o x = origin_begins p o x origin in
    whole_kept p o x begins (series p qs (begin o)) (kept_series p o x begins qs) (unforgotten p qs (begin o) n)

-- beside a fresh reset of the same sizes
pub demand3_fresh : (p : Program) (m m' : Memory) → IsOk (Reset.reset p m).answer → SameSizes m m' → length m.history ≡ length m'.history
    → (qs : List Request) → NoForgets qs → Whole p (left (Reset.reset p m')) (series p qs (begin (left (Reset.reset p m))))
demand3_fresh p m m' ready same history qs n =
    let o : State = left (Reset.reset p m) in
    subst (λ (l : Reset.Started). Whole p (left l) (series p qs (begin o))) (reset_sized p m m' ready same history)
    (demand3_whole p o (fresh o) (reset_origin p m ready) qs n)

-- beside a fresh load of the same image, "in place of a fresh reset" (02 k)
pub demand3_loaded : (p : Program) (image : List ℕ) (m m' : Memory) → IsOk (SavedState.load image p m).answer → SameSizes m m' → length m.history ≡ length m'.history
    → (qs : List Request) → NoForgets qs → Whole p (left_by_load (SavedState.load image p m')) (series p qs (begin (left_by_load (SavedState.load image p m))))
demand3_loaded p image m m' going same history qs n =
    let o : State = left_by_load (SavedState.load image p m) in
    subst (λ (l : SavedState.Loading). Whole p (left_by_load l) (series p qs (begin o))) (load_sized image p m m' going same history)
    (demand3_whole p o (fresh o) (load_origin p image m going) qs n)
