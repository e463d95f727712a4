-- Request j: the row of an allowed instruction tells where SP and PC are after it, by its operand, SP and PC alone; and so an accepted step leaves them. Assumes nothing.
use Rattle.std.specs.Prelude.{Ok, Err}
use Prim.Native.Nat.{ℕ, ◌-◌}
use mathlib.Core.Path.{◌≡◌, refl, subst}
use mathlib.Core.Bool.{true, false}
use mathlib.Core.Logic.{◌⊎◌, inl, inr}
use mathlib.Core.List.{List, [], ◌∷◌}
use native.Mathlib.Omega.{arith}
use lib.ListN.{length}
use Rattle.rules.specs.Lists.{text, same}
use Rattle.rules.specs.Words.{holds}
use Rattle.rules.specs.Cells.{Cells, cell_at}
use Rattle.rules.specs.Effects.{program_address, following}
use Rattle.rules.specs.Actions.{stop, jump_c}
use Rattle.rules.specs.Decide.{Action, demand, enough, decide}
use Rattle.rules.specs.Instructions.{Row, rows, row_of, action_of}
use Rattle.rules.specs.Table.{Program, code_of, operand_of}
use Rattle.rules.specs.State.{Memory, sound}
use Rattle.rules.specs.Commit.{registers_of}
use Rattle.rules.specs.Step.{decide_at, judged, carried}
use Rattle.rules.specs.Step as Step
use Rattle.rules.specs.DepthList.{depth_after, followers, forbidden}
use Rattle.rules.specs.declared.Cell.{Cell}
use Rattle.rules.specs.declared.ProgramAddress.{ProgramAddress}
use Rattle.rules.specs.declared.Registers.{Registers}
use Rattle.rules.specs.declared.Effect.{Effect}
use Rattle.rules.specs.Answers.{Decision}
use Rattle.rules.specs.declared.MachineRefusal.TheVariants.{Broken}
use Rattle.rules.specs.declared.Step.TheVariants.{Next}
use Rattle.rules.proofs.Tests.{never, either}
use Rattle.rules.proofs.Enough.{enough_le}
use Rattle.rules.proofs.Rows.{EachRow, end, ◌then◌, at_code}
use Rattle.rules.proofs.Fair.{Going}
use Rattle.rules.proofs.FairEffects.{demand_does, values_does, judged_going}
use Rattle.promises.specs.Delivered.{instruction_at, AllowedAt, Among, StepTold}

-- ---- of an effect

-- SP after is the depth after; and it halts, and PC and SP are as they were, or PC is one of the places that may follow
abbrev pub Told : Action → Registers → (operand : ℕ) → Effect → Type 0
Told a r n e =
    (e.sp ≡ depth_after a n r.sp) × (((e.halt ≡ 1) × (e.pc ≡ r.pc) × (e.sp ≡ r.sp)) ⊎ Among e.pc (followers a n r.pc))

abbrev ToldOf : Action → Type 0
ToldOf a = (r : Registers) (c : Cells) (n : ℕ) (vb vt : Cell) → Told a r n (a.effect r c n vb vt)

told_stop : ToldOf stop
unfolding depth_after
told_stop r c n vb vt = (refl, inl (refl, refl, refl))

-- "Both ways of JUMPC count"
told_jumpc : ToldOf jump_c
unfolding depth_after followers
told_jumpc r c n vb vt =
    (refl, inr (either (λ (x : ProgramAddress). Among x.0 ((following r).0 ∷ n ∷ [])) (holds vt.bits) {x = program_address n} {y = following r} (inr (inl refl)) (inl refl)))

-- what hangs on the registers, the cells, the operand and the two values
abbrev By : Type 0 → Type 0
By A = Registers → Cells → ℕ → Cell → Cell → A

-- all others go on to one place, which their rows tell twice
data Way (a : Action) : Type 0 where
  goes : ◌≡◌ {A = By ℕ} (λ r c n vb vt. (a.effect r c n vb vt).sp) (λ r c n vb vt. depth_after a n r.sp)
      → ◌≡◌ {A = By (List ℕ)} (λ r c n vb vt. (a.effect r c n vb vt).pc ∷ (a.effect r c n vb vt).pc ∷ []) (λ r c n vb vt. followers a n r.pc)
      → Way a
  other : ToldOf a → Way a

told_by_lem : (a : Action) → Way a → ToldOf a
told_by_lem a (other told) r c n vb vt = told r c n vb vt
told_by_lem a (goes sp pc) r c n vb vt =
    (λ i. sp i r c n vb vt, inr (subst (Among (a.effect r c n vb vt).pc) (λ i. pc i r c n vb vt) (inl refl)))

abbrev ToldRow : Row → Type 0
ToldRow w = forbidden w ≡ false → Way w.action

told_rows : EachRow ToldRow rows
unfolding rows forbidden text same depth_after followers
told_rows =
    -- STOP, PUSHIMM, PUSHIMMF, DUP, SWAP, ADD
    (λ h. other told_stop) then (λ h. goes refl refl) then (λ h. goes refl refl) then (λ h. goes refl refl) then (λ h. goes refl refl) then (λ h. goes refl refl)
    -- SUB, TIMES, DIV, MOD, ADDF, SUBF
    then (λ h. goes refl refl) then (λ h. goes refl refl) then (λ h. goes refl refl) then (λ h. goes refl refl) then (λ h. goes refl refl) then (λ h. goes refl refl)
    -- TIMESF, DIVF, AND, OR, NAND, NOR
    then (λ h. goes refl refl) then (λ h. goes refl refl) then (λ h. goes refl refl) then (λ h. goes refl refl) then (λ h. goes refl refl) then (λ h. goes refl refl)
    -- XOR, NOT, BITAND, BITOR, BITNAND, BITNOR
    then (λ h. goes refl refl) then (λ h. goes refl refl) then (λ h. goes refl refl) then (λ h. goes refl refl) then (λ h. goes refl refl) then (λ h. goes refl refl)
    -- BITXOR, BITNOT, CMP, CMPF, GREATER, LESS
    then (λ h. goes refl refl) then (λ h. goes refl refl) then (λ h. goes refl refl) then (λ h. goes refl refl) then (λ h. goes refl refl) then (λ h. goes refl refl)
    -- EQUAL, ISNIL, ISPOS, ISNEG, PUSHSP, POPSP
    then (λ h. goes refl refl) then (λ h. goes refl refl) then (λ h. goes refl refl) then (λ h. goes refl refl) then (λ h. goes refl refl) then never
    -- PUSHFBR, POPFBR, LINK, ADDSP, PUSHIND, STOREIND
    then (λ h. goes refl refl) then (λ h. goes refl refl) then (λ h. goes refl refl) then (λ h. goes refl refl) then (λ h. goes refl refl) then (λ h. goes refl refl)
    -- PUSHOFF, STOREOFF, JUMP, JUMPC, JUMPIND, JSR
    then (λ h. goes refl refl) then (λ h. goes refl refl) then (λ h. goes refl refl) then (λ h. other told_jumpc) then never then never
    -- JSRIND, PUSHIMMPA, ITOF, FTOI, PUSHIMMCH, WRITECH
    then never then (λ h. goes refl refl) then (λ h. goes refl refl) then (λ h. goes refl refl) then (λ h. goes refl refl) then (λ h. goes refl refl)
    then end

-- an allowed instruction that does something had as many values as it needs, and leaves SP and PC as told
pub decided_told : (r : Registers) (c : Cells) (place : ℕ) (e : Effect) → forbidden (row_of (code_of place)) ≡ false → decide_at r c place ≡ Ok e
    → (enough ((action_of (code_of place)).needs (operand_of place)) r.sp ≡ true) × Told (action_of (code_of place)) r (operand_of place) e
unfolding decide_at decide action_of
decided_told r c place e h q =
    let code : ℕ = code_of place in
    let n : ℕ = operand_of place in
    let vb : Cell = cell_at c (record { 0 = r.sp - 2 }) in
    let vt : Cell = cell_at c (record { 0 = r.sp - 1 }) in
    let d = values_does r c n vb vt (action_of code) e q in
    (d.0.needs, subst (Told (action_of code) r n) d.1 (told_by_lem (action_of code) (at_code ToldRow told_rows code h) r c n vb vt))

-- ---- of a step

-- a step that is accepted was decided
next_does : (r : Registers) (m : Memory) (d : Decision) (r' : Registers) → (carried r m d).answer ≡ Next r' → (e : Effect) × (d ≡ Ok e) × (registers_of r e ≡ r')
next_does r m (Ok e) r' q = (e, refl, cc)
next_does r m (Err x) r' q = absurd (let z : ◌≡◌ {A = ℕ} 0 1 = cc in let y : ⊥ = omega arith in y)

-- the law that ties the table to the step
pub step_told : (p : Program) (r : Registers) (m : Memory) (r' : Registers) → AllowedAt p r.pc → (Step.step p r m).answer ≡ Next r' → StepTold p r r'
unfolding Step.step
step_told p r m r' allowed q =
    let does = next_does r m (demand (sound p r m) Broken (judged p r m.cells (length m.output))) r' q in
    let e : Effect = does.0 in
    let g : Going p r m e = judged_going p r m e (demand_does (sound p r m) Broken _ e does.1).1 in
    let t = decided_told r m.cells (instruction_at p r.pc) e allowed g.decides in
    subst (StepTold p r) does.2 (record { needs = enough_le _ r.sp t.0; sp = t.1.0; goes = t.1.1 })
