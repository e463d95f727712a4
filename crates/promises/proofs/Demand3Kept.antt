-- What every request of a series keeps: the session is the fresh run after S minus B steps, and of its records the newest are held, as many as were not forgotten.
-- Assumes nothing.
use Rattle.std.specs.Prelude.{Ok, Err}
use Prim.Native.Nat.{ℕ, zero, suc, ◌+◌, ◌-◌, ◌≤◌, ◌<◌, zero-le}
use mathlib.Core.Path.{◌≡◌, refl, sym, ap, ◌∙◌, subst}
use mathlib.Core.Bool.{Bool, true, false, cond}
use mathlib.Core.List.{List, [], ◌∷◌}
use native.Mathlib.Omega.{arith}
use lib.Dec.{leb, ltb}
use lib.ListN.{length, take, drop, replicate, length-append}
use lib.Seq.{length-take-le, take-take}
use borrow.Author.Tests.{lt-ltb, ltb-true, leb-true}
use Rattle.rules.specs.Sizes.{max_limit}
use Rattle.rules.specs.Table.{Program}
use Rattle.rules.specs.Step.{Stepped, judged, unchanged, carried}
use Rattle.rules.specs.Back as Back
use Rattle.rules.specs.Run.{Ran}
use Rattle.rules.specs.Run as Run
use Rattle.rules.specs.Commit.{record_of, room_for}
use Rattle.rules.specs.Records.{places_of}
use Rattle.rules.specs.Forget as Forget
use Rattle.rules.specs.declared.Effect.{Effect}
use Rattle.rules.specs.Answers.{Decision}
use Rattle.rules.specs.declared.MachineRefusal.TheVariants.{NoHistory}
use Rattle.rules.specs.declared.ForgetRefusal.TheVariants.{TooManySteps}
use Rattle.rules.specs.declared.Step.TheVariants.{Next}
use Rattle.rules.proofs.Runs.{run_long}
use Rattle.rules.proofs.Room.{judged_room, room_does}
use Rattle.rules.proofs.Records.{AllFormed, formed_take, places_split}
use Rattle.promises.specs.Unbounded.{Unbounded, moves, decided, moved}
use Rattle.promises.specs.Series.{Request, step, run, back, forget, State, plain, Session, state_of, stepped, backed, ran, forgot, ask, series, begin}
use Rattle.promises.proofs.Runs.{run_within}
use Rattle.promises.proofs.Demand3Good.{Good, committed, step_good}
use Rattle.promises.proofs.Demand3Run.{Makes, Run, run_made, records_made}
use Rattle.promises.proofs.Demand3Held.{held, added, good_held, fits_added, commit_held, back_held, back_nothing, forget_held, forget_many, Begins}

-- ---- how many records are held: with a history all that were made, less those forgotten; without one none

-- one more after a step
abbrev more : Bool → ℕ → ℕ
more true few = suc few
more false few = few

module _ (gone : ℕ) where
  none_kept : (b : Bool) → ◌≡◌ {A = ℕ} 0 (cond b 0 0)
  none_kept true = refl
  none_kept false = refl

  more_kept : (b : Bool) (few far : ℕ) → few + gone ≡ cond b far 0 → more b few + gone ≡ cond b (suc far) 0
  more_kept true few far e = omega (arith, e)
  more_kept false few far e = e

  less_kept : (b : Bool) (few far : ℕ) → suc few + gone ≡ cond b (suc far) 0 → few + gone ≡ cond b far 0
  less_kept true few far e = omega (arith, e)
  less_kept false few far e = absurd (let z : ⊥ = omega (arith, e) in z)

  -- none without steps, and none without history
  some_made : {A : Type 0} (b : Bool) (few : ℕ) → suc few + gone ≡ cond b 0 0 → A
  some_made true few e = absurd (let z : ⊥ = omega (arith, e) in z)
  some_made false few e = absurd (let z : ⊥ = omega (arith, e) in z)

  some_room : (h few far : ℕ) (b : Bool) → ltb 0 h ≡ b → suc few + gone ≡ cond b far 0 → 0 < h
  some_room h few far true z e = ltb-true 0 h z
  some_room h few far false z e = absurd (let y : ⊥ = omega (arith, e) in y)

  pub no_more_kept : (b : Bool) (few far : ℕ) → few + gone ≡ cond b far 0 → few + gone ≤ far
  no_more_kept true few far e = omega (arith, e)
  no_more_kept false few far e = omega (arith, e)

  -- the newest first
  take_more : (b : Bool) (few far : ℕ) → few + gone ≡ cond b far 0 → (l : List ℕ) (ls : List (List ℕ)) → take (more b few) (l ∷ ls) ≡ added b l (take few ls)
  take_more true few far e l ls = refl
  take_more false few far e l ls =
      let none : few ≡ 0 = omega (arith, e) in ap (λ (n : ℕ). take n (l ∷ ls)) none ∙ sym (ap (λ (n : ℕ). take n ls) none)

-- h places hold the newest few records of x
pub record Holds (h few : ℕ) (x : Unbounded) (t : State) : Type 0 where
  pub fits : length (places_of (take few x.records)) ≤ h
  pub at : t ≡ held h (take few x.records) x

module _ (p : Program) (o : State) (x₀ : Unbounded) (begins : Begins p o x₀) where
  -- the run so far
  abbrev pub reached : ℕ → Unbounded
  reached k = moved p k x₀

  abbrev pub room : ℕ
  room = o.registers.h

  pub record Kept (s : Session) : Type 0 where
    pub far : ℕ
    pub few : ℕ
    pub makes : Makes p x₀ far
    pub count : s.made ≡ s.undone + far
    pub kept : few + s.forgotten ≡ cond (ltb 0 room) far 0
    pub holds : Holds room few (reached far) (state_of s)

  -- ---- the run is good, and so is every kept session

  pub run_reached : (k : ℕ) → Makes p x₀ k → Run p (reached k)
  run_reached k m = run_made p x₀ (record { good = begins.good; formed = none }) k m
    where
      none : AllFormed x₀.registers.n p.count x₀.records
      none = subst (AllFormed x₀.registers.n p.count) (sym begins.none) tt

  pub records_reached : (k : ℕ) → Makes p x₀ k → length (reached k).records ≡ k
  records_reached k m = records_made p x₀ begins.none k m

  pub formed_held : (k few : ℕ) → Makes p x₀ k → AllFormed (reached k).registers.n p.count (take few (reached k).records)
  formed_held k few m = formed_take (reached k).registers.n p.count few (reached k).records (run_reached k m).formed

  pub good_reached : (k few : ℕ) → Makes p x₀ k → length (places_of (take few (reached k).records)) ≤ room
      → Good p (held room (take few (reached k).records) (reached k))
  good_reached k few m fits =
      good_held p room begins.short (take few (reached k).records) (reached k) (run_reached k m).good (formed_held k few m) fits

  pub good_kept : (s : Session) → Kept s → Good p (state_of s)
  good_kept s w = subst (Good p) (sym w.holds.at) (good_reached w.far w.few w.makes w.holds.fits)

  -- ---- nothing asked yet

  pub kept_begin : Kept (begin o)
  kept_begin =
      record {
        far = 0;
        few = 0;
        makes = tt;
        count = refl;
        kept = none_kept 0 (ltb 0 room);
        holds = record { fits = zero-le; at = begins.holds };
      }

  -- ---- a step

  -- an accepted one is one more of the run, and its record is held where there is a history
  module _ (s : Session) (w : Kept s) (e : Effect) (q : judged p s.registers s.memory.cells (length s.memory.output) ≡ Ok e) where
    abbrev x : Unbounded
    x = reached w.far

    abbrev ls : List (List ℕ)
    ls = take w.few x.records

    was : (room_for (held room ls x).registers e ≡ true) × (decided p x ≡ Ok e)
    was =
        room_does (held room ls x).registers (decided p x) e
        (sym (judged_room p (held room ls x).registers x.cells (length x.output))
        ∙ ap (λ (t : State). judged p t.registers t.memory.cells (length t.memory.output)) (sym w.holds.at) ∙ q)

    holds_more : Holds room (more (ltb 0 room) w.few) (moves x (Ok e)) (committed (state_of s) e)
    holds_more =
        let good : Good p (plain x) = (run_reached w.far w.makes).good in
        let newest : List ℕ = record_of x.registers x.cells e in
        let first : take (more (ltb 0 room) w.few) (newest ∷ x.records) ≡ added (ltb 0 room) newest ls =
        take_more s.forgotten (ltb 0 room) w.few w.far w.kept newest x.records in
        let fits : length (places_of (added (ltb 0 room) newest ls)) ≤ room =
        fits_added p room begins.short x good e was.1 ls (ltb 0 room) w.holds.fits was.0 in
        record {
          fits = subst (λ (l : List (List ℕ)). length (places_of l) ≤ room) (sym first) fits;
          at =
              ap (λ (t : State). committed t e) w.holds.at ∙ commit_held p room begins.short x good e was.1 ls fits
              ∙ ap (λ (l : List (List ℕ)). held room l (moves x (Ok e))) (sym first);
        }

    keep_does : Kept (stepped s (carried s.registers s.memory (Ok e)))
    keep_does =
        record {
          far = suc w.far;
          few = more (ltb 0 room) w.few;
          makes = (w.makes, e, was.1);
          count = omega (arith, w.count);
          kept = more_kept s.forgotten (ltb 0 room) w.few w.far w.kept;
          holds =
              subst (λ (d : Decision). Holds room (more (ltb 0 room) w.few) (moves x d) (committed (state_of s) e)) (sym was.1) holds_more;
        }

  -- a refused request leaves everything
  unasked : (s : Session) → Kept s → (made undone forgotten : ℕ) → made ≡ s.made → undone ≡ s.undone → forgotten ≡ s.forgotten
      → Kept (record { registers = s.registers; memory = s.memory; made = made; undone = undone; forgotten = forgotten })
  unasked s w made undone forgotten a b c =
      record {
        far = w.far;
        few = w.few;
        makes = w.makes;
        count = omega (arith, w.count, a, b);
        kept = ap (λ (n : ℕ). w.few + n) c ∙ w.kept;
        holds = w.holds;
      }

  keep_decided : (s : Session) → Kept s → (d : Decision) → judged p s.registers s.memory.cells (length s.memory.output) ≡ d
      → Kept (stepped s (carried s.registers s.memory d))
  keep_decided s w (Ok e) q = keep_does s w e q
  keep_decided s w (Err y) q = unasked s w _ _ _ (omega arith) refl refl

  pub keep_step : (s : Session) → Kept s → Kept (ask p s step)
  keep_step s w =
      subst (λ (a : Stepped). Kept (stepped s a)) (sym (step_good p (state_of s) (good_kept s w)))
      (keep_decided s w (judged p s.registers s.memory.cells (length s.memory.output)) refl)

  -- ---- a step-back

  -- nothing, with 9, where no record is held; or the newest of the held ones is taken back
  pub data BackOn (s : Session) (far few : ℕ) : Type 0 where
    nothing : few ≡ 0 → Back.back p s.registers s.memory ≡ unchanged s.memory NoHistory → BackOn s far few
    one : (k j : ℕ) (t : State) → far ≡ suc k → few ≡ suc j → 0 < room → Makes p x₀ k → Holds room j (reached k) t
        → Back.back p s.registers s.memory ≡ record { answer = Next t.registers; memory = t.memory } → BackOn s far few

  back_at : (s : Session) (far few : ℕ) → Makes p x₀ far → few + s.forgotten ≡ cond (ltb 0 room) far 0 → Holds room few (reached far) (state_of s) → BackOn s far few
  back_at s far zero m kept v =
      nothing refl (back_nothing p room begins.short (reached far) (good_reached far 0 m v.fits) (state_of s) v.at)
  back_at s zero (suc j) m kept v = some_made s.forgotten (ltb 0 room) j kept
  back_at s (suc k) (suc j) m kept v =
      let some : 0 < room = some_room s.forgotten room j (suc k) (ltb 0 room) refl kept in
      let x : Unbounded = reached k in
      let e : Effect = m.1 in
      let newest : List ℕ = record_of x.registers x.cells e in
      let ls : List (List ℕ) = take j x.records in
      let u : Holds room (suc j) (moves x (Ok e)) (state_of s) = subst (λ (d : Decision). Holds room (suc j) (moves x d) (state_of s)) m.2 v in
      let fits : length (places_of ls) ≤ room = omega (arith, length-append (places_of ls) newest, u.fits) in
      let keeps : true ≡ ltb 0 room = sym (lt-ltb 0 room some) in
      one k j (held room ls x) refl refl some m.0 (record { fits = fits; at = refl })
      (back_held p room begins.short x (run_reached k m.0).good e m.2 ls
      (subst (λ (b : Bool). length (places_of (added b newest ls)) ≤ room) keeps u.fits) some (good_reached k j m.0 fits) (state_of s)
      (u.at ∙ ap (λ (b : Bool). held room (added b newest ls) (moves x (Ok e))) keeps))

  pub back_on : (s : Session) (w : Kept s) → BackOn s w.far w.few
  back_on s w = back_at s w.far w.few w.makes w.kept w.holds

  keep_backed : (s : Session) (w : Kept s) → BackOn s w.far w.few → Kept (ask p s back)
  keep_backed s w (nothing z e) = subst (λ (a : Stepped). Kept (backed s a)) (sym e) (unasked s w _ _ _ refl (omega arith) refl)
  keep_backed s w (one k j t far few some m v e) =
      subst (λ (a : Stepped). Kept (backed s a)) (sym e)
      (record {
        far = k;
        few = j;
        makes = m;
        count = omega (arith, w.count, far);
        kept =
            less_kept s.forgotten (ltb 0 room) j k
            (ap (λ (n : ℕ). n + s.forgotten) (sym few) ∙ w.kept ∙ ap (λ (n : ℕ). cond (ltb 0 room) n 0) far);
        holds = v;
      })

  pub keep_back : (s : Session) → Kept s → Kept (ask p s back)
  keep_back s w = keep_backed s w (back_on s w)

  -- ---- a run: as many steps as it tells, or one refused at its entry, which leaves everything

  keep_steps : (k : ℕ) (s : Session) → Kept s → Kept (series p (replicate k step) s)
  keep_steps zero s w = w
  keep_steps (suc k) s w = keep_steps k (ask p s step) (keep_step s w)

  keep_entered : (limit : ℕ) (s : Session) → Kept s → (b : Bool) → leb limit max_limit ≡ b → Kept (ask p s (run limit))
  keep_entered limit s w true b =
      subst Kept (sym (run_within p limit s (good_kept s w).sound (leb-true _ _ b)))
      (keep_steps (Run.run p limit s.registers s.memory).answer.steps s w)
  keep_entered limit s w false b =
      subst (λ (a : Ran). Kept (ran s a)) (sym (run_long p limit s.registers s.memory b)) (unasked s w _ _ _ (omega arith) refl refl)

  pub keep_run : (limit : ℕ) (s : Session) → Kept s → Kept (ask p s (run limit))
  keep_run limit s w = keep_entered limit s w (leb limit max_limit) refl

  -- ---- a forget: fewer are held of the same run, or it is refused and leaves everything

  -- no more are held than were made
  pub few_made : (s : Session) (w : Kept s) → w.few ≤ w.far
  few_made s w = omega (arith, no_more_kept s.forgotten (ltb 0 room) w.few w.far w.kept)

  pub length_held : (s : Session) (w : Kept s) → length (take w.few (reached w.far).records) ≡ w.few
  length_held s w = length-take-le w.few (reached w.far).records (omega (arith, few_made s w, records_reached w.far w.makes))

  module _ (k : ℕ) (s : Session) (w : Kept s) where
    abbrev y : Unbounded
    y = reached w.far

    abbrev hs : List (List ℕ)
    hs = take w.few y.records

    good_hs : Good p (held room hs y)
    good_hs = good_reached w.far w.few w.makes w.holds.fits

    formed_hs : AllFormed y.registers.n p.count hs
    formed_hs = formed_held w.far w.few w.makes

    keep_fewer : (b : Bool) → leb k (length hs) ≡ b → Kept (ask p s (forget k))
    keep_fewer true b =
        let i : ℕ = length hs - k in
        let low : k ≤ length hs = leb-true _ _ b in
        let long : length hs ≡ w.few = length_held s w in
        let e = ap (λ (t : State). Forget.forget p k t.registers t.memory) w.holds.at
        ∙ forget_held p room begins.short hs y good_hs formed_hs w.holds.fits k low in
        let same : take i hs ≡ take i y.records = take-take i w.few y.records (omega arith) in
        let fits : length (places_of (take i hs)) ≤ room =
        omega (arith, ap length (places_split i hs), length-append (places_of (drop i hs)) (places_of (take i hs)), w.holds.fits) in
        let all : i + (s.forgotten + k) ≡ w.few + s.forgotten = omega (arith, long, low) in
        subst (λ (a : Forget.Forgets). Kept (forgot s k a)) (sym e)
        (record {
          far = w.far;
          few = i;
          makes = w.makes;
          count = w.count;
          kept = all ∙ w.kept;
          holds =
              record {
                fits = subst (λ (l : List (List ℕ)). length (places_of l) ≤ room) same fits;
                at = ap (λ (l : List (List ℕ)). held room l y) same;
              };
        })
    keep_fewer false b =
        let e = subst (λ (t : State). Forget.forget p k t.registers t.memory ≡ Forget.not_forgotten t.memory TooManySteps) (sym w.holds.at)
        (forget_many p room begins.short hs y good_hs formed_hs w.holds.fits k b) in
        subst (λ (a : Forget.Forgets). Kept (forgot s k a)) (sym e) (unasked s w _ _ _ refl refl (omega arith))

  pub keep_forget : (k : ℕ) (s : Session) → Kept s → Kept (ask p s (forget k))
  keep_forget k s w = keep_fewer k s w (leb k (length (take w.few (reached w.far).records))) refl

  -- ---- a series

  pub keep_series : (qs : List Request) (s : Session) → Kept s → Kept (series p qs s)
  keep_series [] s w = w
  keep_series (step ∷ qs) s w = keep_series qs (ask p s step) (keep_step s w)
  keep_series (run limit ∷ qs) s w = keep_series qs (ask p s (run limit)) (keep_run limit s w)
  keep_series (back ∷ qs) s w = keep_series qs (ask p s back) (keep_back s w)
  keep_series (forget k ∷ qs) s w = keep_series qs (ask p s (forget k)) (keep_forget k s w)

  pub kept_series : (qs : List Request) → Kept (series p qs (begin o))
  kept_series qs = keep_series qs (begin o) kept_begin
