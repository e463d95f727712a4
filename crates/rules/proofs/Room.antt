-- What a step decides does not hang on H, U or the kept number, but for 8, which is asked last. So a machine decides as one of no history does, and then asks
-- for room. Assumes nothing.
use Rattle.std.specs.Prelude.{Ok, Err}
use Prim.Native.Nat.{ℕ, ◌-◌}
use mathlib.Core.Path.{◌≡◌, refl, ap, ap₂, subst, ◌∙◌}
use mathlib.Core.Bool.{Bool, true, false, not, true≢false}
use lib.Dec.{eqb, ltb}
use lib.ListN.{get_or}
use Rattle.rules.specs.Instructions.{Row, rows, action_of}
use Rattle.rules.specs.Table.{Program, code_of, operand_of}
use Rattle.rules.specs.Cells.{Cells, cell_at}
use Rattle.rules.specs.State.{others}
use Rattle.rules.specs.Numbers.{machine_number}
use Rattle.rules.specs.Decide.{demand, enough, decide}
use Rattle.rules.specs.Commit.{room_on, room_for}
use Rattle.rules.specs.Step.{decide_at, in_stack, in_output, in_history, fitted, judged}
use Rattle.rules.specs.declared.Cell.{Cell}
use Rattle.rules.specs.declared.Registers.{Registers}
use Rattle.rules.specs.declared.Effect.{Effect}
use Rattle.rules.specs.Answers.{Decision}
use Rattle.rules.specs.declared.MachineRefusal.TheVariants.{AlreadyHalted, AtEnd, TooFewValues, WrongTag, NoResult, BadAddress, StackFull, HistoryFull, OutputFull}
use Rattle.rules.proofs.Rows.{EachRow, end, ◌then◌, at_code}
use Rattle.rules.proofs.FairEffects.{fitting_does}
use Rattle.rules.proofs.Spares.{Spares, spares_demand, spares_fitting}

-- ---- each row: the address and the effect are the same whatever H, U and the kept number are

abbrev Same : Row → Type 0
Same w =
    (w.action.reaches ≡ (λ r. w.action.reaches (others r))) × (w.action.effect ≡ (λ r. w.action.effect (others r)))

same_rows : EachRow Same rows
unfolding rows
same_rows =
    (refl, refl) then (refl, refl) then (refl, refl) then (refl, refl) then (refl, refl) then (refl, refl) then (refl, refl) then (refl, refl) then (refl, refl)
    then (refl, refl) then (refl, refl) then (refl, refl) then (refl, refl) then (refl, refl) then (refl, refl) then (refl, refl) then (refl, refl) then (refl, refl)
    then (refl, refl) then (refl, refl) then (refl, refl) then (refl, refl) then (refl, refl) then (refl, refl) then (refl, refl) then (refl, refl) then (refl, refl)
    then (refl, refl) then (refl, refl) then (refl, refl) then (refl, refl) then (refl, refl) then (refl, refl) then (refl, refl) then (refl, refl) then (refl, refl)
    then (refl, refl) then (refl, refl) then (refl, refl) then (refl, refl) then (refl, refl) then (refl, refl) then (refl, refl) then (refl, refl) then (refl, refl)
    then (refl, refl) then (refl, refl) then (refl, refl) then (refl, refl) then (refl, refl) then (refl, refl) then (refl, refl) then (refl, refl) then (refl, refl)
    then end

pub decide_others : (r : Registers) (c : Cells) (place : ℕ) → decide_at r c place ≡ decide_at (others r) c place
unfolding decide_at decide action_of
decide_others r c place =
    let n : ℕ = operand_of place in
    let a = action_of (code_of place) in
    let vb : Cell = cell_at c (record { 0 = r.sp - 2 }) in
    let vt : Cell = cell_at c (record { 0 = r.sp - 1 }) in
    let same = at_code Same same_rows (code_of place) in
    ap₂ (λ (b : Bool) (e : Effect).
    demand (enough (a.needs n) r.sp) TooFewValues
    (demand (a.takes vb.tag vt.tag) WrongTag (demand (a.results vb.bits vt.bits) NoResult (demand b BadAddress (Ok e)))))
    (λ i. same.0 i r n vb vt) (λ i. same.1 i r c n vb vt)

-- ---- 8, asked last

pub judged_room : (p : Program) (r : Registers) (c : Cells) (size : ℕ) → judged p r c size ≡ in_history r (judged p (others r) c size)
unfolding judged
judged_room p r c size =
    ap (λ (d : Decision). demand (eqb r.halt 0) AlreadyHalted (demand (not (eqb r.pc p.count)) AtEnd (fitted r size d)))
    (decide_others r c (get_or p.places r.pc 0))
    ∙ asked (eqb r.halt 0) (not (eqb r.pc p.count)) (in_output r size (in_stack r (decide_at (others r) c (get_or p.places r.pc 0))))
  where
    asked : (a b : Bool) (d : Decision)
        → demand a AlreadyHalted (demand b AtEnd (in_history r d)) ≡ in_history r (demand a AlreadyHalted (demand b AtEnd (in_history (others r) d)))
    asked false b d = refl
    asked true false d = refl
    asked true true (Ok e) = refl
    asked true true (Err x) = refl

-- where it has room, it decides the same
pub judged_others : (p : Program) (r : Registers) (c : Cells) (size : ℕ) (e : Effect) → judged p (others r) c size ≡ Ok e → room_for r e ≡ true
    → judged p r c size ≡ Ok e
judged_others p r c size e q room = judged_room p r c size ∙ ap (in_history r) q ∙ ap (λ (b : Bool). demand b HistoryFull (Ok e)) room

-- what is done was decided, and had room
pub room_does : (r : Registers) (d : Decision) (e : Effect) → in_history r d ≡ Ok e → (room_for r e ≡ true) × (d ≡ Ok e)
room_does r d e q = fitting_does (room_for r) HistoryFull d e q

-- ---- with H = 0 there is no 8

abbrev is_full : ℕ → Bool
is_full k = eqb k (machine_number HistoryFull)

spares_decided : (r : Registers) (c : Cells) (place : ℕ) → Spares is_full (decide_at r c place)
unfolding decide_at decide
spares_decided r c place =
    let n : ℕ = operand_of place in
    let a = action_of (code_of place) in
    let vb : Cell = cell_at c (record { 0 = r.sp - 2 }) in
    let vt : Cell = cell_at c (record { 0 = r.sp - 1 }) in
    spares_demand is_full (enough (a.needs n) r.sp) TooFewValues _ refl
    (spares_demand is_full (a.takes vb.tag vt.tag) WrongTag _ refl
    (spares_demand is_full (a.results vb.bits vt.bits) NoResult _ refl
    (spares_demand is_full (a.reaches r n vb vt) BadAddress (Ok (a.effect r c n vb vt)) refl tt)))

spares_room : (r : Registers) (d : Decision) → Spares is_full d → Spares is_full (in_history (others r) d)
spares_room r (Ok e) h = tt
spares_room r (Err x) h = h

pub never_full : (p : Program) (r : Registers) (c : Cells) (size : ℕ) → judged p (others r) c size ≡ Err HistoryFull → ⊥
unfolding judged
never_full p r c size q = true≢false (subst (Spares is_full) q spares)
  where
    decision : Decision
    decision = decide_at (others r) c (get_or p.places r.pc 0)

    spares : Spares is_full (judged p (others r) c size)
    spares =
        spares_demand is_full (eqb r.halt 0) AlreadyHalted (demand (not (eqb r.pc p.count)) AtEnd (fitted (others r) size decision)) refl
        (spares_demand is_full (not (eqb r.pc p.count)) AtEnd (fitted (others r) size decision) refl
        (spares_room r (in_output r size (in_stack r decision))
        (spares_fitting is_full (λ e. room_on size r.written e.shows) OutputFull (in_stack r decision) refl
        (spares_fitting is_full (λ e. ltb e.sp r.n) StackFull decision refl
        (spares_decided (others r) c (get_or p.places r.pc 0))))))
