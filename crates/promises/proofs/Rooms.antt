-- Request n: two machines with one start and any two histories. Both show the one fresh run of request i, which has room for all its records, as far as each is ahead
-- (demand 3), and so each other; and both answer what that run decides, or 8. (proofs/GoesOn.antt goes step by step, since what is saved is any sound state, with no
-- start.) Assumes nothing.
use Rattle.std.specs.Prelude.{Ok, Err}
use Prim.Native.Nat.{ℕ, zero, suc, ◌+◌, ◌-◌, ◌<◌}
use mathlib.Core.Path.{◌≡◌, refl, sym, ap, ap₂, ◌∙◌, subst₂}
use mathlib.Core.Logic.{◌⊎◌, inl, inr}
use mathlib.Core.Bool.{Bool, true, false, true≢false}
use mathlib.Core.List.{List, [], ◌∷◌, ◌++◌}
use native.Mathlib.Omega.{arith}
use lib.Dec.{leb, ltb, eqb}
use lib.ListN.{length, take, replicate}
use lib.Seq.{length-take-le}
use borrow.Author.Tests.{leb-true, leb-false, ltb-true, ltb-false}
use Rattle.rules.specs.Sizes.{max_limit}
use Rattle.rules.specs.Table.{Program}
use Rattle.rules.specs.State.{Memory}
use Rattle.rules.specs.Numbers.{number_of_step}
use Rattle.rules.specs.Commit.{room_in, room_for}
use Rattle.rules.specs.Records.{places_of}
use Rattle.rules.specs.Step.{Stepped, in_history, carried}
use Rattle.rules.specs.Step as Step
use Rattle.rules.specs.declared.Registers.{Registers}
use Rattle.rules.specs.declared.Effect.{Effect}
use Rattle.rules.specs.Answers.{Decision}
use Rattle.rules.proofs.Fair.{Sound}
use Rattle.rules.proofs.FairEffects.{sound_facts}
use Rattle.rules.proofs.Runs.{run_long, run_enter}
use Rattle.promises.specs.Unbounded.{Unbounded, decided, moved}
use Rattle.promises.specs.Series.{Request, step, run, State, plain, Session, state_of, accepted, stepped, ask, series, begin, afresh, fresh, SameStart, ahead, remembered, fresh_run, Promised}
use Rattle.promises.specs.Carried.{answer_after, RoomAfter}
use Rattle.promises.specs.Dwells.{read_in, read_off}
use Rattle.promises.specs.Rooms.{without_history, HoldTheSame, full, FullFirst, number_after, AnswerAlike, SameEvening, EndAlike, run_of, AlikeUnlessFull, AsFar, SameSoFar, MoreRoomSameEvening}
use Rattle.promises.proofs.Runs.{steps_end, none_forgotten}
use Rattle.promises.proofs.Counts.{series_then}
use Rattle.promises.proofs.Demand3Origin.{one_origin, other_origin}
use Rattle.promises.proofs.Demand3.{demand3}
use Rattle.promises.proofs.Dwells.{dwell_afresh}
use Rattle.promises.proofs.LargerLimit.{larger_limit}
use Rattle.promises.proofs.SideBySide.{Together, both, neither, one_full, other_full, decided_once, same_or_full, same_accepted, unless_full, answer, Goes, none_left, some_left}

-- ---- a session beside the fresh run

module _ (p : Program) (o : State) (x : Unbounded) (u : Session) (v : Promised p o x u) where
  -- it shows the run, S minus B steps on
  stands : without_history (state_of u) ≡ plain (fresh_run p x u)
  stands = λ i. record { registers = v.registers i; memory = record { cells = v.cells i; history = []; output = v.output i } }

  -- one step more
  ahead_next : ahead (ask p u step) ≡ ahead u + accepted (answer p u)
  ahead_next = omega (arith, v.within)

  -- after an 8 it stands where it stood, and so answers 8 again
  stays_full : number_of_step (answer p u) ≡ full → state_of (ask p u step) ≡ state_of u
  stays_full q = go (in_history u.registers (decided p (fresh_run p x u))) v.next
    where
      go : (d : Decision) → Step.step p u.registers u.memory ≡ carried u.registers u.memory d → state_of (ask p u step) ≡ state_of u
      go (Err y) e = ap (λ (a : Stepped). state_of (stepped u a)) e
      go (Ok f) e = absurd (let z : ⊥ = omega (arith, sym (ap (λ (a : Stepped). number_of_step a.answer) e) ∙ q) in z)

-- steps alone forget nothing, so that the places of all the run's records are used
used_steps : (p : Program) (o : State) (x : Unbounded) (k : ℕ) → Promised p o x (afresh p o k) → 0 < o.registers.h
    → (afresh p o k).registers.used ≡ length (places_of (take (ahead (afresh p o k)) (fresh_run p x (afresh p o k)).records))
used_steps p o x k v some =
    let u : Session = afresh p o k in
    let f : Sound p u.registers u.memory = sound_facts p u.registers u.memory v.sound in
    let all : remembered u ≡ ahead u = omega (arith, none_forgotten p k (begin o)) in
    sym (length-take-le u.registers.used u.memory.history (omega (arith, f.used, f.history)))
    ∙ ap length (v.history (omega (arith, some, v.h))) ∙ ap (λ (n : ℕ). length (places_of (take n (fresh_run p x u).records))) all

-- two histories, h and h' places, with u and u' used: one has no room for n places and the other has
less_room : (h h' u u' n : ℕ) → (0 < h → 0 < h' → u ≡ u') → room_in (ltb 0 h) (h - u) n ≡ false → room_in (ltb 0 h') (h' - u') n ≡ true
    → (0 < h) × ((h' ≡ 0) ⊎ (h < h'))
less_room h h' u u' n same = go (ltb 0 h) refl (ltb 0 h') refl
  where
    go : (b : Bool) → ltb 0 h ≡ b → (b' : Bool) → ltb 0 h' ≡ b' → room_in b (h - u) n ≡ false → room_in b' (h' - u') n ≡ true → (0 < h) × ((h' ≡ 0) ⊎ (h < h'))
    go false f b' g none room = absurd (true≢false none)
    go true f false g none room = (ltb-true _ _ f, inl (omega (arith, ltb-false 0 h' g)))
    go true f true g none room =
        let some : 0 < h = ltb-true _ _ f in
        let some' : 0 < h' = ltb-true _ _ g in
        (some, inr (omega (arith, leb-false n (h - u) none, leb-true n (h' - u') room, same some some')))

-- ---- two sessions beside the one run

module _ (p : Program) (s t : State) (start : SameStart p s t) where
  abbrev one : List Request → Session
  one qs = series p qs (begin s)

  abbrev other : List Request → Session
  other qs = series p qs (begin t)

  -- the fresh run of both: with room for all its records, it begins where either begins
  abbrev x : Unbounded
  x = fresh t

  one_promised : (qs : List Request) → Promised p s x (one qs)
  one_promised qs = demand3 p s x (one_origin p s t start) qs

  other_promised : (qs : List Request) → Promised p t x (other qs)
  other_promised qs = demand3 p t x (other_origin p s t start) qs

  module _ (qs qs' : List Request) (far : AsFar (one qs) (other qs')) where
    -- both agree with the one run of request i, and so with each other
    hold : HoldTheSame (state_of (one qs)) (state_of (other qs'))
    hold =
        stands p s x (one qs) (one_promised qs) ∙ ap (λ (k : ℕ). plain (moved p k x)) far
        ∙ sym (stands p t x (other qs') (other_promised qs'))

    -- both answer what it decides, or 8
    together : Together (one qs).registers (other qs').registers (answer p (one qs)) (answer p (other qs'))
    together =
        subst₂ (Together (one qs).registers (other qs').registers) (sym (ap (λ (a : Stepped). a.answer) (one_promised qs).next))
        (sym (ap (λ (a : Stepped). a.answer) (other_promised qs').next
        ∙ ap (λ (k : ℕ). (carried r' m' (in_history r' (decided p (moved p k x)))).answer) (sym far)))
        (decided_once (one qs).registers r' (one qs).memory m' (decided p (fresh_run p x (one qs))))
      where
        r' : Registers
        r' = (other qs').registers

        m' : Memory
        m' = (other qs').memory

    -- after one step more of both
    far_next : accepted (answer p (one qs)) ≡ accepted (answer p (other qs')) → AsFar (ask p (one qs) step) (ask p (other qs') step)
    far_next same =
        ahead_next p s x (one qs) (one_promised qs) ∙ ap₂ ◌+◌ far same ∙ sym (ahead_next p t x (other qs') (other_promised qs'))

  -- ---- steps

  abbrev steps : ℕ → List Request
  steps k = replicate k step

  abbrev AsFarAfter : ℕ → Type 0
  AsFarAfter k = AsFar (one (steps k)) (other (steps k))

  in_step : (k : ℕ) → AsFarAfter k → number_after p s k ≡ number_after p t k → AsFarAfter (suc k)
  in_step k far same =
      ap ahead (steps_end p k (begin s)) ∙ far_next (steps k) (steps k) far (same_accepted (together (steps k) (steps k) far) same)
      ∙ sym (ap ahead (steps_end p k (begin t)))

  alike_as_far : (k : ℕ) → AnswerAlike p s t k → AsFarAfter k
  alike_as_far zero alike = refl
  alike_as_far (suc k) alike = in_step k (alike_as_far k (λ i low. alike i (omega (arith, low)))) (alike k (omega arith))

  -- the next answers of two that are as far, where neither is 8
  same_number : (k : ℕ) → AsFarAfter k → RoomAfter p s k → RoomAfter p t k → number_after p s k ≡ number_after p t k
  same_number k far room room' = unless_full (same_or_full (together (steps k) (steps k) far)) room room'

  -- a step that is not answered with 8 comes after none that was
  room_before : (o : State) → ((k : ℕ) → Promised p o x (afresh p o k)) → (k : ℕ) → RoomAfter p o (suc k) → RoomAfter p o k
  room_before o promised k room q =
      room
      (ap (λ (u : Session). number_of_step (answer p u)) (steps_end p k (begin o))
      ∙ ap (λ (u : State). number_of_step (Step.step p u.registers u.memory).answer) (stays_full p o x (afresh p o k) (promised k) q) ∙ q)

  room_as_far : (k : ℕ) → RoomAfter p s k → RoomAfter p t k → AsFarAfter k
  room_as_far zero room room' = refl
  room_as_far (suc k) room room' =
      let before : RoomAfter p s k = room_before s (λ i. one_promised (steps i)) k room in
      let before' : RoomAfter p t k = room_before t (λ i. other_promised (steps i)) k room' in
      let far : AsFarAfter k = room_as_far k before before' in
      in_step k far (same_number k far before before')

  -- the same places are used in both histories, where there are two, so that it is the one with less room that is full
  used_alike : (k : ℕ) → AsFarAfter k → 0 < s.registers.h → 0 < t.registers.h → (one (steps k)).registers.used ≡ (other (steps k)).registers.used
  used_alike k far some some' =
      used_steps p s x k (one_promised (steps k)) some ∙ ap (λ (n : ℕ). length (places_of (take n (moved p n x).records))) far
      ∙ sym (used_steps p t x k (other_promised (steps k)) some')

  -- two that are as far: their answers, and which of them is full
  apart : (k : ℕ) → AsFarAfter k → (number_after p s k ≡ number_after p t k) ⊎ (FullFirst p s t k ⊎ FullFirst p t s k)
  apart k far = go (together (steps k) (steps k) far)
    where
      r : Registers
      r = (one (steps k)).registers

      r' : Registers
      r' = (other (steps k)).registers

      room : (e : Effect) {b : Bool} → room_for r e ≡ b → room_in (ltb 0 s.registers.h) (s.registers.h - r.used) (e.count + 1) ≡ b
      room e f = ap (λ (h : ℕ). room_in (ltb 0 h) (h - r.used) (e.count + 1)) (sym (one_promised (steps k)).h) ∙ f

      room' : (e : Effect) {b : Bool} → room_for r' e ≡ b → room_in (ltb 0 t.registers.h) (t.registers.h - r'.used) (e.count + 1) ≡ b
      room' e f = ap (λ (h : ℕ). room_in (ltb 0 h) (h - r'.used) (e.count + 1)) (sym (other_promised (steps k)).h) ∙ f

      go : Together r r' (answer_after p s k) (answer_after p t k) → (number_after p s k ≡ number_after p t k) ⊎ (FullFirst p s t k ⊎ FullFirst p t s k)
      go (both a a' e f) = inl (ap number_of_step e ∙ sym (ap number_of_step f))
      go (neither y e f) = inl (ap number_of_step e ∙ sym (ap number_of_step f))
      go (one_full w a' none some e f) =
          inr (inl (record {
            refused = ap number_of_step e;
            done = ap number_of_step f;
            less = less_room s.registers.h t.registers.h r.used r'.used (w.count + 1) (used_alike k far) (room w none) (room' w some);
          }))
      go (other_full w a some none e f) =
          inr (inr (record {
            refused = ap number_of_step f;
            done = ap number_of_step e;
            less =
                less_room t.registers.h s.registers.h r'.used r.used (w.count + 1) (λ h' h. sym (used_alike k far h h')) (room' w none)
                (room w some);
          }))

  same_evening : SameEvening p s t
  same_evening =
      record {
        holds = λ k accepts accepts'. hold (steps k) (steps k) (alike_as_far k (λ i low. accepts i low ∙ sym (accepts' i low)));
        first = λ k alike. apart k (alike_as_far k alike);
        answers = λ k room room'. same_number k (room_as_far k room room') room room';
        leaves =
            λ k room room'.
            let far : AsFarAfter k = room_as_far k room room' in
            hold (steps (suc k)) (steps (suc k)) (in_step k far (same_number k far room room'));
      }

  -- ---- runs

  step_more : (o : State) (qs : List Request) → series p (qs ++ (step ∷ [])) (begin o) ≡ ask p (series p qs (begin o)) step
  step_more o qs = series_then p qs (step ∷ []) (begin o)

  all_turns : (left made : ℕ) (qs qs' : List Request) → AsFar (one qs) (other qs') → Goes p left made (one qs) (other qs')
  all_turns zero made qs qs' far = none_left p (one qs) (other qs') (hold qs qs' far) made (eqb (one qs).registers.halt 1) refl
  all_turns (suc left) made qs qs' far =
      some_left p (one qs) (other qs') (hold qs qs' far) left made
      (λ same.
      subst₂ (Goes p left (made + 1)) (step_more s qs) (step_more t qs')
      (all_turns left (made + 1) (qs ++ (step ∷ [])) (qs' ++ (step ∷ []))
      (ap ahead (step_more s qs) ∙ far_next qs qs' far same ∙ sym (ap ahead (step_more t qs')))))
      (together qs qs' far) (eqb (one qs).registers.halt 1) refl

  module _ (qs qs' : List Request) (far : AsFar (one qs) (other qs')) where
    -- "Run: 11, then 10.", which no such state is
    by_limit : (limit : ℕ) (c : Bool) → leb limit max_limit ≡ c → AlikeUnlessFull (run_of p (one qs) limit) (run_of p (other qs') limit)
    by_limit limit true c =
        subst₂ AlikeUnlessFull (sym (run_enter p limit _ _ c (one_promised qs).sound)) (sym (run_enter p limit _ _ c (other_promised qs').sound))
        (all_turns limit 0 qs qs' far)
    by_limit limit false c =
        λ room room'.
        subst₂ EndAlike (sym (run_long p limit _ _ c)) (sym (run_long p limit _ _ c)) (record { number = refl; steps = refl; holds = hold qs qs' far })

    both_run : (limit : ℕ) → AlikeUnlessFull (run_of p (one qs) limit) (run_of p (other qs') limit)
    both_run limit = by_limit limit (leb limit max_limit) refl

    -- after runs of the same number of steps they are as far again
    run_far : (limit : ℕ) → (run_of p (one qs) limit).answer.steps ≡ (run_of p (other qs') limit).answer.steps
        → AsFar (one (qs ++ (run limit ∷ []))) (other (qs' ++ (run limit ∷ [])))
    run_far limit same =
        ap ahead (series_then p qs (run limit ∷ []) (begin s)) ∙ omega (arith, far, same, (one_promised qs).within, (other_promised qs').within)
        ∙ sym (ap ahead (series_then p qs' (run limit ∷ []) (begin t)))

  -- the door board reads the one run
  same_dwell : (qs qs' : List Request) → AsFar (one qs) (other qs') → read_in p (one qs) ≡ read_in p (other qs')
  same_dwell qs qs' far =
      dwell_afresh p s x (one_origin p s t start) qs ∙ ap (λ (k : ℕ). read_off p (moved p k x)) far
      ∙ sym (dwell_afresh p t x (other_origin p s t start) qs')

  same_so_far : (qs qs' : List Request) → AsFar (one qs) (other qs') → SameSoFar p (one qs) (other qs')
  same_so_far qs qs' far =
      record {
        holds = hold qs qs' far;
        dwell = same_dwell qs qs' far;
        next = same_or_full (together qs qs' far);
        runs = both_run qs qs' far;
        tunes =
            λ limit room room'.
            ap (read_in p) (sym (series_then p qs (run limit ∷ []) (begin s)))
            ∙ same_dwell (qs ++ (run limit ∷ [])) (qs' ++ (run limit ∷ [])) (run_far qs qs' far limit (both_run qs qs' far limit room room').steps)
            ∙ ap (read_in p) (series_then p qs' (run limit ∷ []) (begin t));
      }

-- ---- the whole

pub more_room : (p : Program) → MoreRoomSameEvening p
more_room p = record { steps = same_evening p; sessions = same_so_far p; limits = larger_limit p }
