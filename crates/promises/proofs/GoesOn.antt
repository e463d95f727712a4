-- Request k: a session that is saved, and loaded again under the same program beside an output of the same length, goes on as the first does until one of them has no
-- room in its history. Assumes nothing.
use Rattle.std.specs.Prelude.{Option, Some, None, Ok, Err}
use Prim.Native.Nat.{ℕ, zero, suc, ◌+◌, ◌-◌, ◌<◌, zero-le}
use mathlib.Core.Path.{◌≡◌, refl, sym, ap, ap₂, ◌∙◌, subst}
use mathlib.Core.Bool.{Bool, true}
use mathlib.Core.List.{List, [], ◌∷◌, ◌++◌}
use native.Mathlib.Numerals.{add-one}
use native.Mathlib.Omega.{arith}
use borrow.Author.Tests.{ltb-true}
use lib.ListN.{length, take, set, replicate, length-append, length-replicate, take-append-drop}
use lib.Seq.{take_at, take-suc-set, length-take-le}
use Rattle.rules.specs.Sizes.{state_size}
use Rattle.rules.specs.Table.{Program}
use Rattle.rules.specs.Cells.{Cells}
use Rattle.rules.specs.State.{Memory, sound}
use Rattle.rules.specs.Numbers.{number_of_step, registers_after}
use Rattle.rules.specs.Commit.{room_on, room_for, written_after, output_after, registers_with, cells_after}
use Rattle.rules.specs.Decide.{demand}
use Rattle.rules.specs.Step.{Stepped, judged, in_history, carried, plain_step}
use Rattle.rules.specs.Step as Step
use Rattle.rules.specs.SavedState.{save, load}
use Rattle.rules.specs.declared.Registers.{Registers}
use Rattle.rules.specs.declared.Effect.{Effect}
use Rattle.rules.specs.Answers.{Decision}
use Rattle.rules.specs.declared.MachineRefusal.TheVariants.{HistoryFull}
use Rattle.rules.proofs.Tests.{by_test}
use Rattle.rules.proofs.Fair.{Sound}
use Rattle.rules.proofs.FairEffects.{sound_facts, judged_going}
use Rattle.rules.proofs.Sound.{output_length, step_plain, sound_judged}
use Rattle.promises.specs.Unbounded.{Unbounded, decided}
use Rattle.promises.specs.Series.{Request, State, plain, Session, state_of, series, begin, afresh, left_by_load, fresh, Origin}
use Rattle.promises.specs.Carried.{Typed, RoomFor, told_image, carried_to, Unwritten, NotEight, RoomAfter, SameShown, GoesOn}
use Rattle.promises.proofs.Runs.{steps_end}
use Rattle.promises.proofs.Agrees.{steps_roomed}
use Rattle.promises.proofs.Demand3Good.{Good, committed, sound_beside}
use Rattle.promises.proofs.Demand3Held.{Begins}
use Rattle.promises.proofs.Demand3Origin.{origin_begins}
use Rattle.promises.proofs.Demand3Kept.{good_kept, kept_series}
use Rattle.promises.proofs.Carried.{carried_over}

-- the state after a step that gave this
abbrev after : State → Stepped → State
after s a = record { registers = registers_after s.registers a.answer; memory = a.memory }

abbrev step_of : Program → State → Stepped
step_of p s = Step.step p s.registers s.memory

module _ (p : Program) where
  abbrev SoundAt : State → Type 0
  SoundAt s = sound p s.registers s.memory ≡ true

  -- a step of a sound state leaves a sound state, accepted or not
  sound_after : (s : State) → SoundAt s → SoundAt (after s (step_of p s))
  unfolding plain_step
  sound_after s h = subst (λ (a : Stepped). SoundAt (after s a)) (sym (step_plain p s.registers s.memory h)) (go (judged p s.registers s.memory.cells (length s.memory.output)) refl)
    where
      go : (d : Decision) → judged p s.registers s.memory.cells (length s.memory.output) ≡ d → SoundAt (after s (carried s.registers s.memory d))
      go (Ok e) q = sound_judged p s.registers s.memory e h q
      go (Err x) q = h

  -- two machines in sound states that show the same
  record Twins (s t : State) : Type 0 where
    one : SoundAt s
    other : SoundAt t
    same : SameShown s t

  -- what their next steps give
  record Alongside (s t : State) : Type 0 where
    number : number_of_step (step_of p s).answer ≡ number_of_step (step_of p t).answer
    same : SameShown (after s (step_of p s)) (after t (step_of p t))
    outputs : s.memory.output ≡ t.memory.output → (step_of p s).memory.output ≡ (step_of p t).memory.output

  module _ (s t : State) (w : Twins s t) where
    -- both do what the machine without a history decides that shows what they show
    abbrev x : Unbounded
    x = fresh s

    -- a step of one of them
    abbrev StepsBy : State → Type 0
    StepsBy u = step_of p u ≡ carried u.registers u.memory (in_history u.registers (decided p x))

    steps_one : StepsBy s
    steps_one = steps_roomed p x s w.one refl refl refl

    steps_other : StepsBy t
    steps_other = steps_roomed p x t w.other (sym w.same.registers) (sym w.same.cells) (sym w.same.size)

    -- where it is done, it is refused for want of room alone
    done_by : (u : State) → StepsBy u → (e : Effect) → decided p x ≡ Ok e → NotEight (step_of p u).answer → step_of p u ≡ carried u.registers u.memory (Ok e)
    done_by u steps e q room =
        by_test (room_for u.registers e)
        (λ b. decides b)
        (λ b. absurd (room (ap (λ (a : Stepped). number_of_step a.answer) (decides b))))
      where
        decides : {b : Bool} → room_for u.registers e ≡ b → step_of p u ≡ carried u.registers u.memory (demand b HistoryFull (Ok e))
        decides f =
            steps ∙ ap (λ (d : Decision). carried u.registers u.memory (in_history u.registers d)) q
            ∙ ap (λ (c : Bool). carried u.registers u.memory (demand c HistoryFull (Ok e))) f

    count_same : s.registers.written ≡ t.registers.written
    count_same = ap (λ (r : Registers). r.written) w.same.registers

    -- the bytes written after it: one more on both, or none
    shown_after : (e : Effect) → room_on (length s.memory.output) s.registers.written e.shows ≡ true
        → SameShown (committed s e) (committed t e)
    shown_after e room =
        record {
          cells = ap (λ (c : Cells). cells_after c e) w.same.cells;
          registers = ap (λ (r : Registers). registers_with r e 0 0) w.same.registers;
          size =
              output_length s.memory.output s.registers.written e.shows ∙ w.same.size
              ∙ sym (output_length t.memory.output t.registers.written e.shows);
          written =
              go e.shows room
              ∙ ap (λ (k : ℕ). take (written_after e.shows s.registers.written) (output_after e.shows k t.memory.output)) count_same;
        }
      where
        go : (y : Option ℕ) → room_on (length s.memory.output) s.registers.written y ≡ true
            → take (written_after y s.registers.written) (output_after y s.registers.written s.memory.output)
            ≡ take (written_after y s.registers.written) (output_after y s.registers.written t.memory.output)
        go None q = w.same.written
        go (Some b) q =
            let n : ℕ = s.registers.written in
            let low : n < length s.memory.output = ltb-true _ _ q in
            ap (λ (k : ℕ). take k (set s.memory.output n b)) (add-one n) ∙ take-suc-set s.memory.output n b low
            ∙ ap (λ (l : List ℕ). l ++ (b ∷ [])) w.same.written
            ∙ sym (take-suc-set t.memory.output n b (omega (arith, low, w.same.size))) ∙ ap (λ (k : ℕ). take k (set t.memory.output n b)) (sym (add-one n))

    alongside : NotEight (step_of p s).answer → NotEight (step_of p t).answer → Alongside s t
    alongside rooms roomt = go (decided p x) refl
      where
        both : (a b : Stepped) → step_of p s ≡ a → step_of p t ≡ b → number_of_step a.answer ≡ number_of_step b.answer → SameShown (after s a) (after t b)
            → (s.memory.output ≡ t.memory.output → a.memory.output ≡ b.memory.output) → Alongside s t
        both a b f g number same outputs =
            record {
              number = ap (λ (o : Stepped). number_of_step o.answer) f ∙ number ∙ sym (ap (λ (o : Stepped). number_of_step o.answer) g);
              same = rw (f, g) same;
              outputs = rw (f, g) outputs;
            }

        go : (d : Decision) → decided p x ≡ d → Alongside s t
        go (Ok e) q =
            both _ _ (done_by s steps_one e q rooms) (done_by t steps_other e q roomt) refl
            (shown_after e (judged_going p (plain x).registers (plain x).memory e q).panel)
            (λ f. ap₂ (output_after e.shows) count_same f)
        go (Err e) q =
            both _ _
            (steps_one ∙ ap (λ (d : Decision). carried s.registers s.memory (in_history s.registers d)) q)
            (steps_other ∙ ap (λ (d : Decision). carried t.registers t.memory (in_history t.registers d)) q)
            refl w.same (λ f. f)

    -- and where they stand after them
    next : NotEight (step_of p s).answer → NotEight (step_of p t).answer → Twins (after s (step_of p s)) (after t (step_of p t))
    next rooms roomt =
        record { one = sound_after s w.one; other = sound_after t w.other; same = (alongside rooms roomt).same }

  -- after k steps of both
  after_steps_lem : (s t : State) → Twins s t → (k : ℕ) → ((i : ℕ) → i < k → RoomAfter p s i × RoomAfter p t i) → Twins (state_of (afresh p s k)) (state_of (afresh p t k))
  after_steps_lem s t w zero room = w
  after_steps_lem s t w (suc k) room =
      let rooms : RoomAfter p s k × RoomAfter p t k = room k (omega arith) in
      rw (steps_end p k (begin s), steps_end p k (begin t))
      (next (state_of (afresh p s k)) (state_of (afresh p t k)) (after_steps_lem s t w k (λ i h. room i (omega (arith, h)))) rooms.0 rooms.1)

  outputs_after : (s t : State) → Twins s t → s.memory.output ≡ t.memory.output → (k : ℕ) → ((i : ℕ) → i < k → RoomAfter p s i × RoomAfter p t i)
      → (afresh p s k).memory.output ≡ (afresh p t k).memory.output
  outputs_after s t w same zero room = same
  outputs_after s t w same (suc k) room =
      let rooms : RoomAfter p s k × RoomAfter p t k = room k (omega arith) in
      let before : (i : ℕ) → i < k → RoomAfter p s i × RoomAfter p t i = λ i h. room i (omega (arith, h)) in
      ap (λ (u : Session). u.memory.output) (steps_end p k (begin s))
      ∙ (alongside (state_of (afresh p s k)) (state_of (afresh p t k)) (after_steps_lem s t w k before) rooms.0 rooms.1).outputs (outputs_after s t w same k before)
      ∙ sym (ap (λ (u : Session). u.memory.output) (steps_end p k (begin t)))

  go_on : (s t : State) → Twins s t → GoesOn p s t
  go_on s t w =
      record {
        shown = λ k room. (after_steps_lem s t w k room).same;
        outputs = outputs_after s t w;
        answers =
            λ k room.
            let rooms : RoomAfter p s k × RoomAfter p t k = room k (omega arith) in
            (alongside (state_of (afresh p s k)) (state_of (afresh p t k)) (after_steps_lem s t w k (λ i h. room i (omega (arith, h)))) rooms.0 rooms.1).number;
      }

-- ---- a state that is saved, and the one that its image is loaded as
module _ (p : Program) (r : Registers) (m : Memory) (image : List ℕ) (lent : Memory) (h : sound p r m ≡ true) (t : Typed m) (long : length image ≡ state_size)
    (takes : RoomFor r lent) (same : length lent.output ≡ length m.output) where
  abbrev here : State
  here = record { registers = r; memory = m }

  abbrev there : State
  there = left_by_load (load (told_image (save p r m image)) p lent)

  is_there : there ≡ carried_to lent r m
  is_there = (carried_over p r m image lent h t long takes).keeps

  pub goes_on_lem : GoesOn p here there
  goes_on_lem =
      let s : Sound p r m = sound_facts p r m h in
      let out : List ℕ = (carried_to lent r m).memory.output in
      let low : length (take r.written m.output) ≡ r.written = length-take-le r.written m.output s.written in
      let size : length out ≡ length m.output =
      length-append (take r.written m.output) (replicate (length lent.output - r.written) 0)
      ∙ ap₂ ◌+◌ low (length-replicate (length lent.output - r.written) 0) ∙ omega (arith, same, s.written) in
      let judged : sound p (carried_to lent r m).registers (carried_to lent r m).memory ≡ true =
      sound_beside p r m s (length lent.history) 0 0 (carried_to lent r m).memory.history out
      (record {
        long = length-replicate (length lent.history) 0;
        short = takes.history;
        used = zero-le;
        kept = zero-le;
        none = λ q. refl;
        shown = omega (arith, size, s.shown);
        written = omega (arith, size, s.written);
      }) in
      subst (GoesOn p here) (sym is_there)
      (go_on p here (carried_to lent r m)
      (record {
        one = h;
        other = judged;
        same =
            record {
              cells = refl;
              registers = refl;
              size = sym size;
              written = sym (take_at (take r.written m.output) (replicate (length lent.output - r.written) 0) r.written low);
            };
      }))

  -- with nothing behind the bytes that are written, the whole output is as it was
  pub whole_output : Unwritten r m → m.output ≡ there.memory.output
  whole_output unwritten =
      sym (ap (λ (u : State). u.memory.output) is_there
      ∙ ap (λ (k : ℕ). take r.written m.output ++ replicate (k - r.written) 0) same ∙ ap (λ (l : List ℕ). take r.written m.output ++ l) (sym unwritten)
      ∙ take-append-drop r.written m.output)

-- so every session goes on that began at a reset or a load, whatever was asked since, with its whole output
pub session_goes_on : (p : Program) (o : State) (x : Unbounded) → Origin p o x → (qs : List Request) (image : List ℕ) (lent : Memory)
    → let s : Session = series p qs (begin o) in
    let there : State = left_by_load (load (told_image (save p s.registers s.memory image)) p lent) in
    Typed s.memory → length image ≡ state_size → RoomFor s.registers lent → length lent.output ≡ length s.memory.output
    → GoesOn p (state_of s) there × (s.memory.output ≡ there.memory.output)
session_goes_on p o x origin qs image lent typed long takes same =
    let begins : Begins p o x = origin_begins p o x origin in
    let s : Session = series p qs (begin o) in
    let good : Good p (state_of s) = good_kept p o x begins s (kept_series p o x begins qs) in (
      goes_on_lem p s.registers s.memory image lent good.sound typed long takes same,
      whole_output p s.registers s.memory image lent good.sound typed long takes same good.blank.output,
    )
