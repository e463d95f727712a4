-- A machine of H places that keeps some newest records of the unbounded run: what a step, a step-back and a forget do there. Assumes nothing.
use Rattle.std.specs.Prelude.{Ok}
use Prim.Native.Nat.{ℕ, ◌+◌, ◌-◌, ◌≤◌, ◌<◌}
use mathlib.Core.Path.{◌≡◌, refl, sym, ap, ◌∙◌, subst}
use mathlib.Core.Bool.{Bool, true, false}
use mathlib.Core.List.{List, [], ◌∷◌, ◌++◌}
use native.Mathlib.Numerals.{add-one}
use native.Mathlib.Omega.{arith}
use lib.Dec.{ltb, leb}
use lib.ListN.{length, take, drop, replicate, length-append, length-replicate}
use lib.Seq.{drop_at, length-take-le}
use borrow.Author.Tests.{le-leb, leb-true, leb-false, eq-eqb}
use Rattle.rules.specs.Lists.{every}
use Rattle.rules.specs.Sizes.{max_history}
use Rattle.rules.specs.Table.{Program}
use Rattle.rules.specs.State.{Memory, registers_holding}
use Rattle.rules.specs.Commit.{record_of, grown, history_after, output_after, registers_with, cells_after, room_in}
use Rattle.rules.specs.Step.{judged, unchanged}
use Rattle.rules.specs.Back.{back}
use Rattle.rules.specs.Records.{HistoryRecord, records_in_use, record_tests, places_of}
use Rattle.rules.specs.Forget as Forget
use Rattle.rules.specs.Forget.{moved_down, not_forgotten}
use Rattle.rules.specs.declared.Registers.{Registers}
use Rattle.rules.specs.declared.Effect.{Effect}
use Rattle.rules.specs.declared.MachineRefusal.TheVariants.{NoHistory}
use Rattle.rules.specs.declared.ForgetRefusal.TheVariants.{TooManySteps}
use Rattle.rules.specs.declared.Step.TheVariants.{Next}
use Rattle.rules.proofs.Fair.{Sound, Fair}
use Rattle.rules.proofs.FairEffects.{sound_facts}
use Rattle.rules.proofs.Sound.{length_record}
use Rattle.rules.proofs.Inverse.{inverse}
use Rattle.rules.proofs.Room.{judged_others}
use Rattle.rules.proofs.Forgetting.{forget_too_many, forget_done}
use Rattle.rules.proofs.Records.{AllFormed, fewer_than_places, places_split, more_places, fewer_places, CutTo, cut_places}
use Rattle.promises.specs.Unbounded.{Unbounded, moves, decided}
use Rattle.promises.specs.Series.{State, plain}
use Rattle.promises.proofs.Demand3Good.{Good, committed, back_empty, sound_beside}
use Rattle.promises.proofs.Demand3Run.{made_fair}

-- the registers, the cells and the output of x, with h places, of which the first hold these records, and the others zeros
abbrev pub held : ℕ → List (List ℕ) → Unbounded → State
held h ls x =
    record {
      registers = registers_holding h (length (places_of ls)) (length ls) x.registers;
      memory = record { cells = x.cells; history = places_of ls ++ replicate (h - length (places_of ls)) 0; output = x.output };
    }

-- an origin, however it came about: o holds no record of x, which has made none and is good
pub record Begins (p : Program) (o : State) (x : Unbounded) : Type 0 where
  pub short : o.registers.h ≤ max_history
  pub holds : o ≡ held o.registers.h [] x
  pub none : x.records ≡ []
  pub good : Good p (plain x)

-- the records held after a step: one more where there is a history
abbrev pub added : Bool → List ℕ → List (List ℕ) → List (List ℕ)
added true l ls = l ∷ ls
added false l ls = ls

no_places : (ls : List (List ℕ)) → length ls ≡ 0 → length (places_of ls) ≡ 0
no_places [] e = refl
no_places (l ∷ ls) e = absurd (let z : ⊥ = omega (arith, e) in z)

module _ (p : Program) (h : ℕ) (short : h ≤ max_history) where
  -- ---- such a machine is in a good state

  pub good_held : (ls : List (List ℕ)) (x : Unbounded) → Good p (plain x) → AllFormed x.registers.n p.count ls → length (places_of ls) ≤ h
      → Good p (held h ls x)
  good_held ls x g f fits =
      let s : Sound p (plain x).registers (plain x).memory = sound_facts p (plain x).registers (plain x).memory g.sound in
      record {
        sound =
            sound_beside p (plain x).registers (plain x).memory s h (length (places_of ls)) (length ls) (held h ls x).memory.history x.output
            (record {
              long =
                  length-append (places_of ls) (replicate (h - length (places_of ls)) 0)
                  ∙ ap (λ (k : ℕ). length (places_of ls) + k) (length-replicate (h - length (places_of ls)) 0) ∙ omega arith;
              short = short;
              used = fits;
              kept = fewer_than_places x.registers.n p.count ls f;
              none = no_places ls;
              shown = s.shown;
              written = s.written;
            });
        narrow = g.narrow;
        blank =
            record {
              history = drop_at (places_of ls) (replicate (h - length (places_of ls)) 0) (length (places_of ls)) refl;
              output = g.blank.output;
            };
      }

  -- ---- a step

  module _ (x : Unbounded) (g : Good p (plain x)) (e : Effect) (q : decided p x ≡ Ok e) where
    abbrev newest : List ℕ
    newest = record_of x.registers x.cells e

    pub length_newest : length newest ≡ e.count + 1
    length_newest =
        let s : Sound p (plain x).registers (plain x).memory = sound_facts p (plain x).registers (plain x).memory g.sound in
        let f : Fair p (plain x).registers e = made_fair p x g e q in
        length_record (plain x).memory e (omega (arith, f.fits, s.tags)) (omega (arith, f.fits, s.bits)) x.registers

    -- of the records that are held, with the newest where there is a history
    module _ (ls : List (List ℕ)) where
      abbrev u : ℕ
      u = length (places_of ls)

      long : length (places_of ls ++ newest) ≡ u + (e.count + 1)
      long = length-append (places_of ls) newest ∙ ap (λ (k : ℕ). u + k) length_newest

      -- there is room for it where it fits
      room_added : (b : Bool) → length (places_of (added b newest ls)) ≤ h → room_in b (h - u) (e.count + 1) ≡ true
      room_added true fits = le-leb (e.count + 1) (h - u) (omega (arith, long, fits))
      room_added false fits = refl

      pub fits_added : (b : Bool) → u ≤ h → room_in b (h - u) (e.count + 1) ≡ true → length (places_of (added b newest ls)) ≤ h
      fits_added true low room = let free : e.count + 1 ≤ h - u = leb-true (e.count + 1) (h - u) room in omega (arith, long, free)
      fits_added false low room = low

      commit_added : (b : Bool) → length (places_of (added b newest ls)) ≤ h
          → record {
            registers = registers_with (held h ls x).registers e (grown b u (e.count + 1)) (grown b (length ls) 1);
            memory =
                record {
                  cells = cells_after x.cells e;
                  history = history_after b (places_of ls ++ replicate (h - u) 0) u newest;
                  output = output_after e.shows x.registers.written x.output;
                };
          }
          ≡ held h (added b newest ls) (moves x (Ok e))
      commit_added true fits =
          λ i. record {
            registers = registers_with (held h ls x).registers e (sym long i) (add-one (length ls) i);
            memory =
                record {
                  cells = cells_after x.cells e;
                  history = more_places (places_of ls) newest h fits i;
                  output = output_after e.shows x.registers.written x.output;
                };
          }
      commit_added false fits = refl

      module _ (fits : length (places_of (added (ltb 0 h) newest ls)) ≤ h) where
        pub judged_held : judged p (held h ls x).registers x.cells (length x.output) ≡ Ok e
        judged_held = judged_others p (held h ls x).registers x.cells (length x.output) e q (room_added (ltb 0 h) fits)

        pub commit_held : committed (held h ls x) e ≡ held h (added (ltb 0 h) newest ls) (moves x (Ok e))
        commit_held = commit_added (ltb 0 h) fits

        -- a step-back takes it away again
        pub back_held : 0 < h → Good p (held h ls x) → (t : State) → t ≡ held h (added (ltb 0 h) newest ls) (moves x (Ok e))
            → back p t.registers t.memory ≡ record { answer = Next (held h ls x).registers; memory = (held h ls x).memory }
        back_held some good t at =
            ap (λ (y : State). back p y.registers y.memory) (at ∙ sym commit_held)
            ∙ inverse p (held h ls x).registers (held h ls x).memory e good.sound good.narrow good.blank some judged_held

  -- ---- a step-back of nothing

  pub back_nothing : (x : Unbounded) → Good p (held h [] x) → (t : State) → t ≡ held h [] x → back p t.registers t.memory ≡ unchanged t.memory NoHistory
  back_nothing x good t at =
      subst (λ (y : State). back p y.registers y.memory ≡ unchanged y.memory NoHistory) (sym at) (back_empty p (held h [] x) good refl)

  -- ---- a forget

  module _ (ls : List (List ℕ)) (x : Unbounded) (good : Good p (held h ls x)) (formed : AllFormed x.registers.n p.count ls)
      (fits : length (places_of ls) ≤ h) where
    abbrev found : List HistoryRecord
    found = records_in_use (held h ls x).registers (held h ls x).memory

    pub cuts : CutTo x.registers.n p.count ls found
    cuts = cut_places x.registers.n p.count ls formed (replicate (h - length (places_of ls)) 0)

    tests : every (record_tests p (held h ls x).registers (held h ls x).memory) ≡ true
    tests = simp (good.sound, cuts.formed, eq-eqb (length ls) (length found) (sym cuts.many))

    -- the oldest places go, and the others move down
    module _ (i : ℕ) where
      abbrev oldest : List ℕ
      oldest = places_of (drop i ls)

      abbrev stay : List ℕ
      stay = places_of (take i ls)

      both : length (places_of ls) ≡ length oldest + length stay
      both = ap length (places_split i ls) ∙ length-append oldest stay

      moved_held : moved_down (length oldest) (length (places_of ls)) (held h ls x).memory.history ≡ (held h (take i ls) x).memory.history
      moved_held =
          subst (λ (l : List ℕ). moved_down (length oldest) (length l) (l ++ replicate (h - length l) 0) ≡ stay ++ replicate (h - length stay) 0)
          (sym (places_split i ls)) (fewer_places oldest stay h (subst (λ (l : List ℕ). length l ≤ h) (places_split i ls) fits))

    pub forget_held : (k : ℕ) → k ≤ length ls
        → Forget.forget p k (held h ls x).registers (held h ls x).memory
        ≡ record { answer = Ok (held h (take (length ls - k) ls) x).registers; memory = (held h (take (length ls - k) ls) x).memory }
    forget_held k few =
        let i : ℕ = length ls - k in
        let r : Registers = (held h ls x).registers in
        let m : Memory = (held h ls x).memory in
        let free : Forget.freed k r m ≡ length (places_of (drop i ls)) = cuts.taken i in
        let used : length (places_of ls) - length (places_of (drop i ls)) ≡ length (places_of (take i ls)) = omega (arith, both i) in
        let kept : i ≡ length (take i ls) = sym (length-take-le i ls (omega arith)) in
        forget_done p k r m tests few ∙ ap (λ (n : ℕ). Forget.forgotten n k r m) free
        ∙ (λ j. record {
          answer = Ok (registers_holding h (used j) (kept j) r);
          memory = record { cells = x.cells; history = moved_held i j; output = x.output };
        })

    pub forget_many : (k : ℕ) → leb k (length ls) ≡ false
        → Forget.forget p k (held h ls x).registers (held h ls x).memory ≡ not_forgotten (held h ls x).memory TooManySteps
    forget_many k many = forget_too_many p k (held h ls x).registers (held h ls x).memory tests (leb-false k (length ls) many)
