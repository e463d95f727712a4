-- Request j: at a place that is listed with SP, in a list that is accepted, a step is not refused with 2, 3 or 7, and where it is accepted the place that it leads to is
-- listed with the new SP. So it goes on, step after step. Assumes nothing.
use Rattle.std.specs.Prelude.{Ok, Err}
use Prim.Native.Nat.{ℕ, zero, suc, ◌-◌, ◌<◌}
use mathlib.Core.Path.{◌≡◌, refl, sym, ap, subst}
use mathlib.Core.Bool.{true, not}
use mathlib.Core.Logic.{⊎_elim}
use mathlib.Core.List.{List, [], ◌∷◌}
use native.Mathlib.Omega.{arith}
use lib.Dec.{ltb, eqb}
use lib.ListN.{length}
use borrow.Author.Tests.{lt-ltb, ne_eqb}
use Rattle.rules.specs.Cells.{Cells, cell_at}
use Rattle.rules.specs.Decide.{Action, demand, enough, on_values, decide}
use Rattle.rules.specs.Table.{Program}
use Rattle.rules.specs.State.{Memory, others}
use Rattle.rules.specs.Commit.{room_on, room_for}
use Rattle.rules.specs.Step.{decide_at, in_stack, in_output, fitted, judged}
use Rattle.rules.specs.DepthList.{depth_after, followers}
use Rattle.rules.specs.declared.Cell.{Cell}
use Rattle.rules.specs.declared.Registers.{Registers}
use Rattle.rules.specs.declared.Effect.{Effect}
use Rattle.rules.specs.Answers.{Decision}
use Rattle.rules.specs.declared.MachineRefusal.TheVariants.{AlreadyHalted, AtEnd, TooFewValues, WrongTag, NoResult, BadAddress, StackFull, HistoryFull, OutputFull}
use Rattle.rules.proofs.Enough.{le_enough}
use Rattle.rules.proofs.Spares.{Spares, spares_demand, spares_passed, spares_fitting}
use Rattle.rules.proofs.Fair.{Going}
use Rattle.rules.proofs.FairEffects.{judged_going}
use Rattle.promises.specs.Unbounded.{Unbounded, moves, decided, moved}
use Rattle.promises.specs.Each.{Each}
use Rattle.promises.specs.Delivered.{HasDepth, OwnRule, instruction_at, action_at, operand_at, Among, Acceptable, meets}
use Rattle.promises.proofs.Told.{Told, decided_told}

-- ---- a decision that is not 2, 3 or 7

-- 4, 5 and 6 are left, where there are enough values
values_spared : (r : Registers) (c : Cells) (n : ℕ) (vb vt : Cell) (a : Action) → enough (a.needs n) r.sp ≡ true → Spares meets (on_values r c n vb vt a)
values_spared r c n vb vt a h =
    let last : Decision = demand (a.reaches r n vb vt) BadAddress (Ok (a.effect r c n vb vt)) in
    let middle : Decision = demand (a.results vb.bits vt.bits) NoResult last in
    spares_passed meets (enough (a.needs n) r.sp) TooFewValues (demand (a.takes vb.tag vt.tag) WrongTag middle) h
    (spares_demand meets (a.takes vb.tag vt.tag) WrongTag middle refl
    (spares_demand meets (a.results vb.bits vt.bits) NoResult last refl
    (spares_demand meets (a.reaches r n vb vt) BadAddress (Ok (a.effect r c n vb vt)) refl tt)))

-- 7 is not given, where the new SP is below N
stack_spared : (r : Registers) (d : Decision) → Spares meets d → ((e : Effect) → d ≡ Ok e → e.sp < r.n) → Spares meets (in_stack r d)
stack_spared r (Ok e) s h = spares_passed meets (ltb e.sp r.n) StackFull (Ok e) (lt-ltb _ _ (h e refl)) s
stack_spared r (Err x) s h = s

-- ---- where the machine stands

pub record OnList (p : Program) (depths : List ℕ) (r : Registers) : Type 0 where
  pub list : Acceptable p r.n depths
  pub low : r.sp < r.n
  pub place : HasDepth p depths r.sp r.pc

each_among : (P : ℕ → Type 0) (l : List ℕ) (x : ℕ) → Each P l → Among x l → P x
each_among P [] x h a = absurd a
each_among P (y ∷ l) x h a = ⊎_elim (λ e. subst P (sym e) h.0) (λ b. each_among P l x h.1 b) a

module _ (p : Program) (depths : List ℕ) (r : Registers) (o : OnList p depths r) where
  abbrev does : Action
  does = action_at p r.pc

  abbrev operand : ℕ
  operand = operand_at p r.pc

  abbrev after : ℕ
  after = depth_after does operand r.sp

  own : OwnRule p r.n depths r.pc r.sp
  own =
      subst (OwnRule p r.n depths r.pc) o.place.listed
      (o.list.rules r.pc o.place.inside (λ q. absurd (let z : ⊥ = omega (arith, o.low, o.list.few, o.place.listed, q) in z)))

  -- its effect, where it has one
  told : (c : Cells) (e : Effect) → decide_at r c (instruction_at p r.pc) ≡ Ok e → Told does r operand e
  told c e q = (decided_told r c (instruction_at p r.pc) e (o.list.allows r.pc o.place.inside) q).1

  decide_spared : (c : Cells) → Spares meets (decide_at r c (instruction_at p r.pc))
  unfolding decide_at decide
  decide_spared c =
      values_spared r c operand (cell_at c (record { 0 = r.sp - 2 })) (cell_at c (record { 0 = r.sp - 1 })) does (le_enough _ r.sp own.enough)

  pub judged_spared : (c : Cells) (size : ℕ) → Spares meets (judged p r c size)
  unfolding judged
  judged_spared c size =
      let d : Decision = decide_at r c (instruction_at p r.pc) in
      let low : (e : Effect) → d ≡ Ok e → e.sp < r.n = λ e q. (let same : e.sp ≡ after = (told c e q).0 in omega (arith, same, own.low)) in
      let inside : not (eqb r.pc p.count) ≡ true =
      ap not (ne_eqb r.pc p.count (λ q. absurd (let z : ⊥ = omega (arith, o.place.inside, q) in z))) in
      spares_demand meets (eqb r.halt 0) AlreadyHalted (demand (not (eqb r.pc p.count)) AtEnd (fitted r size d)) refl
      (spares_passed meets (not (eqb r.pc p.count)) AtEnd (fitted r size d) inside
      (spares_fitting meets (room_for r) HistoryFull (in_output r size (in_stack r d)) refl
      (spares_fitting meets (λ e. room_on size r.written e.shows) OutputFull (in_stack r d) refl (stack_spared r d (decide_spared c) low))))

  judged_leads : (m : Memory) (e : Effect) → judged p r m.cells (length m.output) ≡ Ok e → HasDepth p depths e.sp e.pc
  judged_leads m e q =
      let g : Going p r m e = judged_going p r m e q in
      let t : Told does r operand e = told m.cells e g.decides in
      ⊎_elim
      (λ stays. subst (λ (d : ℕ). HasDepth p depths d e.pc) (sym stays.2) (subst (HasDepth p depths r.sp) (sym stays.1) o.place))
      (λ goes. subst (λ (d : ℕ). HasDepth p depths d e.pc) (sym t.0) (each_among (HasDepth p depths after) (followers does operand r.pc) e.pc own.follow goes)) t.1

-- ---- step after step

module _ (p : Program) (depths : List ℕ) where
  moves_on : (x : Unbounded) → OnList p depths x.registers → (d : Decision) → decided p x ≡ d → OnList p depths (moves x d).registers
  moves_on x o (Ok e) q =
      let m : Memory = record { cells = x.cells; history = []; output = x.output } in
      let w : OnList p depths (others x.registers) = record { list = o.list; low = o.low; place = o.place } in
      record {
        list = o.list;
        low = (judged_going p (others x.registers) m e q).sp;
        place = judged_leads p depths (others x.registers) w m e q;
      }
  moves_on x o (Err y) q = o

  pub moved_on : (x : Unbounded) → OnList p depths x.registers → (k : ℕ) → OnList p depths (moved p k x).registers
  moved_on x o zero = o
  moved_on x o (suc k) = moves_on (moved p k x) (moved_on x o k) (decided p (moved p k x)) refl
