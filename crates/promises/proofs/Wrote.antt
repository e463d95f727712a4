-- Request l: "the named step did write that cell and no later kept one did": `explained`. After any series from any origin, of any cell. The records in use are the newest
-- of the fresh run (`demand3`), and each of them tells of the cells that its step's effect wrote, and of no others. Assumes nothing.
use Rattle.std.specs.Prelude.{Some, None, Ok, Err}
use Prim.Native.Nat.{ℕ, zero, suc, ◌+◌, ◌-◌, ◌^◌, ◌≤◌, ◌<◌}
use mathlib.Core.Path.{◌≡◌, sym, ap, ap₂, ◌∙◌, subst}
use mathlib.Core.Bool.{Bool, true, false, cond}
use mathlib.Core.List.{List, [], ◌∷◌, map}
use native.Mathlib.Nat.{zero-add}
use native.Mathlib.Omega.{arith}
use lib.Dec.{leb, ltb, eqb, leb-zero}
use lib.ListN.{length, get_or, take, drop}
use borrow.Author.Tests.{ltb-true, ltb-false, leb-true, leb-false, eqb-true, eqb-false}
use Rattle.rules.specs.Lists.{every, part}
use Rattle.rules.specs.Table.{Program}
use Rattle.rules.specs.Places.{cell_place, step_place, step_pc}
use Rattle.rules.specs.State.{Memory}
use Rattle.rules.specs.Commit.{cells_kept, record_of}
use Rattle.rules.specs.Numbers.{forget_number, number_of_forgot}
use Rattle.rules.specs.Records.{HistoryRecord, records_in_use, record_tests, whole_record}
use Rattle.rules.specs.Forget as Forget
use Rattle.rules.specs.Why.{named_step, told_by, newest}
use Rattle.rules.specs.declared.Registers.{Registers}
use Rattle.rules.specs.declared.Effect.{Effect}
use Rattle.rules.specs.Answers.{Decision}
use Rattle.rules.specs.declared.ForgetRefusal.TheVariants.{TooManySteps}
use Rattle.rules.specs.declared.NamedStep.{NamedStep}
use Rattle.rules.specs.Answers.{Why}
use Rattle.rules.proofs.Tests.{by_test, every_at}
use Rattle.rules.proofs.Table.{table_short}
use Rattle.rules.proofs.Places.{cell_tag_of, cell_bits_of, step_pc_of}
use Rattle.rules.proofs.Fair.{Sound}
use Rattle.rules.proofs.FairEffects.{sound_facts}
use Rattle.rules.proofs.Formed.{Keepable, keepable}
use Rattle.rules.proofs.Forgetting.{forget_broken}
use Rattle.rules.proofs.Asking.{why_outside, why_newest}
use Rattle.rules.proofs.Sound.{Each}
use Rattle.promises.specs.Unbounded.{Unbounded, moves, decided, moved}
use Rattle.promises.specs.Series.{Request, State, plain, Session, series, begin, Origin, ahead, Promised}
use Rattle.promises.specs.Wrote.{stood, holding, Writes, Wrote, ToldOf, Explained}
use Rattle.promises.proofs.Demand3Good.{Good}
use Rattle.promises.proofs.Demand3Run.{Makes, made_fair, all_made}
use Rattle.promises.proofs.Demand3Held.{Begins}
use Rattle.promises.proofs.Demand3Origin.{origin_begins}
use Rattle.promises.proofs.Demand3Kept.{run_reached}
use Rattle.promises.proofs.Demand3.{demand3}
use Rattle.promises.proofs.WrittenCells.{last_place, kept_inside, kept_outside, cell_stays}

-- ---- one step of the run, from y, and what its record tells

module _ (p : Program) (y : Unbounded) (good : Good p (plain y)) (e : Effect) (q : decided p y ≡ Ok e) (cell : ℕ) where
  sound_there : Sound p (plain y).registers (plain y).memory
  sound_there = sound_facts p (plain y).registers (plain y).memory good.sound

  fits : e.at + e.count ≤ y.registers.n
  fits = (made_fair p y good e q).fits

  abbrev step_there : ℕ
  step_there = step_place y.registers.pc y.registers.sp y.registers.fbr e.count

  -- the step that it names
  abbrev named_there : (back : ℕ) → NamedStep
  named_there back =
      record { back = back; pc = y.registers.pc; instruction = get_or p.places y.registers.pc 0; before = holding y cell }

  named_is : (back : ℕ) → cell < y.registers.n
      → named_step p.places back step_there (cell_place cell (get_or y.cells.tags cell 0) (get_or y.cells.bits cell 0)) ≡ named_there back
  named_is back low =
      let s = sound_there in
      let address : cell < 2 ^ 10 = omega (arith, low, s.few) in
      let tag : get_or y.cells.tags cell 0 < 2 ^ 3 = omega (arith, (s.cells cell).tag) in
      let pc_is : step_pc step_there ≡ y.registers.pc =
      step_pc_of y.registers.pc y.registers.sp y.registers.fbr e.count (omega (arith, s.pc, table_short p s.table)) (omega (arith, s.sp, s.few))
      (omega (arith, s.fbr, s.few)) (omega (arith, fits, s.few)) in
      λ i. record {
        back = back;
        pc = pc_is i;
        instruction = get_or p.places (pc_is i) 0;
        before =
            record {
              bits = cell_bits_of cell (get_or y.cells.tags cell 0) (get_or y.cells.bits cell 0) address tag (good.narrow cell) i;
              tag = cell_tag_of cell (get_or y.cells.tags cell 0) (get_or y.cells.bits cell 0) address tag (good.narrow cell) i;
            };
      }

  -- of its record, w, the newest of some
  module _ (w : HistoryRecord) (is : whole_record w ≡ record_of y.registers y.cells e) (back : ℕ) (ws : List HistoryRecord) where
    parts : (w.cells ≡ cells_kept y.cells e) × (w.place ≡ step_there)
    parts = last_place w.cells (cells_kept y.cells e) w.place step_there is

    abbrev older : Why
    older = newest p.places cell (back + 1) ws

    by_record : newest p.places cell back (w ∷ ws) ≡ told_by cell (cells_kept y.cells e) (λ q. Ok (Some (named_step p.places back step_there q))) older
    by_record =
        ap₂ (λ (l : List ℕ) (step : ℕ). told_by cell l (λ q. Ok (Some (named_step p.places back step q))) older) parts.0 parts.1

    keepable_there : Each (Keepable p.count) (part e.at e.count y.cells.tags) (part e.at e.count y.cells.bits)
    keepable_there = keepable p (plain y).registers (plain y).memory sound_there good.narrow e.at e.count

    newest_wrote : Writes (Ok e) cell → newest p.places cell back (w ∷ ws) ≡ Ok (Some (named_there back))
    newest_wrote wrote =
        by_record
        ∙ kept_inside cell y.registers.n y.cells e sound_there.bits sound_there.tags fits p.count sound_there.few keepable_there
        (λ q. Ok (Some (named_step p.places back step_there q))) older wrote.0 wrote.1
        ∙ ap {B = Why} (λ s. Ok (Some s)) (named_is back (omega (arith, wrote.1, fits)))

    newest_older : (Writes (Ok e) cell → ⊥) → newest p.places cell back (w ∷ ws) ≡ older
    newest_older not =
        by_record
        ∙ kept_outside cell y.registers.n y.cells e sound_there.bits sound_there.tags fits p.count sound_there.few keepable_there
        (λ q. Ok (Some (named_step p.places back step_there q))) older (λ low high. not (low, high))

  holding_still : (Writes (Ok e) cell → ⊥) → holding (moves y (Ok e)) cell ≡ holding y cell
  holding_still not =
      cell_stays cell y.registers.n y.cells e sound_there.bits sound_there.tags fits (λ low high. not (low, high))

-- whether an effect writes a cell
writes_or_not : {P : Type 0} (e : Effect) (cell : ℕ) → (Writes (Ok e) cell → P) → ((Writes (Ok e) cell → ⊥) → P) → P
writes_or_not e cell does leaves =
    by_test (leb e.at cell)
    (λ low.
    by_test (ltb cell (e.at + e.count)) (λ high. does (leb-true e.at cell low, ltb-true cell (e.at + e.count) high))
    (λ high. leaves (λ w. omega (arith, w.1, ltb-false cell (e.at + e.count) high))))
    (λ low. leaves (λ w. omega (arith, w.0, leb-false e.at cell low)))

-- ---- the run of `far` steps, and its newest records

module _ (p : Program) (x : Unbounded) (none : x.records ≡ []) (good-at : (k : ℕ) → Makes p x k → Good p (plain (moved p k x))) (far cell : ℕ) where
  -- a step that did not write the cell, before those that are told of
  module _ (back k : ℕ) (not : Wrote p x far cell (back + 1) → ⊥) (still : holding (stood p x far back) cell ≡ holding (stood p x far (back + 1)) cell) where
    later_too : (j : ℕ) → back < j → (back + 1 < j → Wrote p x far cell j → ⊥) → Wrote p x far cell j → ⊥
    later_too j low rest =
        by_test (eqb j (back + 1))
        (λ t. let here : j ≡ back + 1 = eqb-true j (back + 1) t in λ w. not (subst (Wrote p x far cell) here w))
        (λ t. let there : j ≡ back + 1 → ⊥ = eqb-false j (back + 1) t in rest (omega arith))

    widen : (a : Why) → ToldOf p x far (back + 1) (back + 1 + k) cell a → ToldOf p x far back (back + suc k) cell a
    widen (Ok (Some a)) t =
        record {
          above = omega (arith, t.above);
          within = omega (arith, t.within);
          wrote = t.wrote;
          newest = λ j low high. later_too j low (λ more. t.newest j more high);
          pc = t.pc;
          instruction = t.instruction;
          held = t.held;
          holds = still ∙ t.holds;
        }
    widen (Ok None) t =
        let all : back + 1 + k ≡ back + suc k = omega arith in
        record {
          none = λ j low high. later_too j low (λ more. t.none j more (omega (arith, high)));
          holds = still ∙ t.holds ∙ ap (λ (n : ℕ). holding (stood p x far n) cell) all;
        }
    widen (Err e) t = t

  -- k records, the newest of which is one more than `back` steps back; so many steps were made when it was the last
  tells : (k made back : ℕ) (ws : List HistoryRecord) → Makes p x made → far ≡ made + back → length ws ≡ k
      → map whole_record ws ≡ take k (moved p made x).records → ToldOf p x far back (back + k) cell (newest p.places cell (back + 1) ws)
  tells zero made back [] m at long same =
      let all : back ≡ back + 0 = omega arith in
      record { none = λ j low high. absurd (let z : ⊥ = omega (arith, low, high) in z); holds = ap (λ (n : ℕ). holding (stood p x far n) cell) all }
  tells zero made back (w ∷ ws) m at long same = absurd (let z : ⊥ = omega (arith, long) in z)
  tells (suc k) made back [] m at long same = absurd (let z : ⊥ = omega (arith, long) in z)
  tells (suc k) zero back (w ∷ ws) m at long same =
      let empty : length (map whole_record (w ∷ ws)) ≡ 0 = ap length (same ∙ ap (take (suc k)) none) in
      absurd (let z : ⊥ = omega (arith, empty) in z)
  tells (suc k) (suc made) back (w ∷ ws) m at long same =
      let y : Unbounded = moved p made x in
      let e : Effect = m.1 in
      let good : Good p (plain y) = good-at made m.0 in
      let split : record_of y.registers y.cells e ∷ take k y.records ≡ take (suc k) (moved p (suc made) x).records =
      ap (λ (d : Decision). take (suc k) (moves y d).records) (sym m.2) in
      let top : whole_record w ≡ record_of y.registers y.cells e = ap (λ (l : List (List ℕ)). get_or l 0 []) (same ∙ sym split) in
      let others : map whole_record ws ≡ take k y.records = ap (drop 1) (same ∙ sym split) in
      let here : far - (back + 1) ≡ made = omega (arith, at) in
      let now : far - back ≡ suc made = omega (arith, at) in
      writes_or_not e cell
      (λ wrote.
      let one : back + 1 - 1 ≡ back = omega arith in
      subst (ToldOf p x far back (back + suc k) cell) (sym (newest_wrote p y good e m.2 cell w top (back + 1) ws wrote))
      (record {
        above = omega arith;
        within = omega arith;
        wrote = subst (λ (n : ℕ). Writes (decided p (moved p n x)) cell) (sym here) (subst (λ (d : Decision). Writes d cell) (sym m.2) wrote);
        newest = λ j low high. absurd (let z : ⊥ = omega (arith, low, high) in z);
        pc = ap (λ (n : ℕ). (moved p n x).registers.pc) (sym here);
        instruction = ap (λ (n : ℕ). get_or p.places (moved p n x).registers.pc 0) (sym here);
        held = ap (λ (n : ℕ). holding (moved p n x) cell) (sym here);
        holds = ap (λ (n : ℕ). holding (stood p x far n) cell) (sym one);
      }))
      (λ not.
      let still : holding (moved p (suc made) x) cell ≡ holding y cell =
      ap (λ (d : Decision). holding (moves y d) cell) m.2 ∙ holding_still p y good e m.2 cell not in
      subst (ToldOf p x far back (back + suc k) cell) (sym (newest_older p y good e m.2 cell w top (back + 1) ws not))
      (widen back k
      (λ wrote. not (subst (λ (d : Decision). Writes d cell) m.2 (subst (λ (n : ℕ). Writes (decided p (moved p n x)) cell) here wrote)))
      (ap (λ (n : ℕ). holding (moved p n x) cell) now ∙ still ∙ ap (λ (n : ℕ). holding (moved p n x) cell) (sym here))
      (newest p.places cell (back + 1 + 1) ws)
      (tells k made (back + 1) ws m.0 (omega (arith, at)) (omega (arith, long)) others)))

-- ---- a session

-- where a forget of none is done, nothing is 10
module _ (p : Program) (r : Registers) (m : Memory) where
  not_ten : number_of_forgot (Forget.forget p 0 r m).answer ≡ cond (leb 0 r.kept) 0 (forget_number TooManySteps) → every (record_tests p r m) ≡ true
  not_ten done =
      by_test (every (record_tests p r m)) (λ t. t)
      (λ t.
      let zero : 10 ≡ 0 =
      ap (λ (o : Forget.Forgets). number_of_forgot o.answer) (sym (forget_broken p 0 r m t)) ∙ done
      ∙ ap (λ (b : Bool). cond b 0 (forget_number TooManySteps)) (leb-zero r.kept) in
      absurd (let z : ⊥ = omega (arith, zero) in z))

-- S minus B minus F, or 0 with H = 0, is at most S minus B
at_most : (b : Bool) (n k : ℕ) → cond b (n - k) 0 ≤ n
at_most true n k = omega arith
at_most false n k = omega arith

pub explained : (p : Program) (o : State) (x : Unbounded) → Origin p o x → (qs : List Request) (cell : ℕ) → Explained p x (series p qs (begin o)) cell
explained p o x origin qs cell =
    let begins : Begins p o x = origin_begins p o x origin in
    let s : Session = series p qs (begin o) in
    let promised : Promised p o x s = demand3 p o x origin qs in
    let ws : List HistoryRecord = records_in_use s.registers s.memory in
    let passes : every (record_tests p s.registers s.memory) ≡ true = not_ten p s.registers s.memory (promised.forgets 0) in
    let long : s.registers.kept ≡ length ws = eqb-true s.registers.kept (length ws) (every_at (record_tests p s.registers s.memory) 2 passes) in
    let now : ahead s ≡ ahead s - 0 = omega arith in
    let makes : Makes p x (ahead s) = all_made p x begins.none (ahead s) promised.steps in
    record {
      cells = promised.cells ∙ ap (λ (n : ℕ). (moved p n x).cells) now;
      kept = omega (arith, promised.kept, at_most (ltb 0 s.registers.h) (ahead s) s.forgotten);
      told =
          λ low.
          subst (ToldOf p x (ahead s) 0 s.registers.kept cell) (sym (why_newest p cell s.registers s.memory passes low))
          (subst (λ (upto : ℕ). ToldOf p x (ahead s) 0 upto cell (newest p.places cell 1 ws)) (zero-add s.registers.kept)
          (tells p x begins.none (λ k m. (run_reached p o x begins k m).good) (ahead s) cell s.registers.kept (ahead s) 0 ws makes (omega arith)
          (sym long) promised.records));
      refused = why_outside p cell s.registers s.memory passes;
    }
