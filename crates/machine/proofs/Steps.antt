-- A step in each of its cases, and what a sound state gives to the parts of a step. Assumes nothing.
use Rattle.std.specs.Prelude.{Option, Some, None, Ok, Err}
use Prim.Native.Nat.{ℕ, ◌<◌}
use mathlib.Core.Path.{◌≡◌, refl, sym, ap, ◌∙◌, subst}
use mathlib.Core.Bool.{true, false}
use mathlib.Core.List.{List}
use native.Mathlib.Omega.{arith}
use lib.Arith.{lt_of_le-ne}
use lib.ListN.{length, get_or}
use borrow.Author.Tests.{eq-eqb, ne_eqb, ltb-true}
use Rattle.rules.specs.Instructions.{codes}
use Rattle.rules.specs.Table.{Program, code_of, sound_place}
use Rattle.rules.specs.State.{Memory, memory, sound}
use Rattle.rules.specs.Commit.{registers_of}
use Rattle.rules.specs.Step.{decide_at, in_stack, in_output, in_history, fitted, judged, unchanged, carried, step, plain_step}
use Rattle.rules.specs.declared.Registers.{Registers}
use Rattle.rules.specs.declared.Effect.{Effect}
use Rattle.rules.specs.Answers.{Decision}
use Rattle.rules.specs.declared.MachineRefusal.{MachineRefusal}
use Rattle.rules.specs.declared.MachineRefusal.TheVariants.{AlreadyHalted, AtEnd, Broken}
use Rattle.rules.specs.declared.Step.{Step}
use Rattle.rules.specs.declared.Step.TheVariants.{Next, Refused}
use Rattle.rules.proofs.Fair.{FairByte, Sound, Fair}
use Rattle.rules.proofs.FairEffects.{sound_facts, fitting_does, fair_place}
use Rattle.rules.proofs.Table.{table_short, table_long, place_sound, place_coded}
use Rattle.rules.proofs.Sound.{step_plain, sound_step}
use Rattle.state.specs.Outcomes.{stepped}
use Rattle.machine.specs.Small.{Small}
use Rattle.machine.specs.Live.{Live}
use Rattle.machine.specs.Fields.{Fields}
use Rattle.machine.specs.Fits.{InByte, Fits}

-- a character is a byte
in_byte : (x : Option ℕ) → FairByte x → InByte x
in_byte None h = tt
in_byte (Some b) h = omega arith

module _ (p : Program) (r : Registers) (m : Memory) where
  -- ---- "1 to 8 in order"

  pub judged_halted : (r.halt ≡ 0 → ⊥) → judged p r m.cells (length m.output) ≡ Err AlreadyHalted
  unfolding judged
  judged_halted h = rw (ne_eqb r.halt 0 h) refl

  module _ (running : r.halt ≡ 0) where
    pub judged_end : r.pc ≡ p.count → judged p r m.cells (length m.output) ≡ Err AtEnd
    unfolding judged
    judged_end h = rw (eq-eqb r.halt 0 running, eq-eqb r.pc p.count h) refl

    pub judged_fitted : (r.pc ≡ p.count → ⊥) → judged p r m.cells (length m.output) ≡ fitted r (length m.output) (decide_at r m.cells (get_or p.places r.pc 0))
    unfolding judged
    judged_fitted h = rw (eq-eqb r.halt 0 running, ne_eqb r.pc p.count h) refl

  -- ---- "10, then 1 to 8 in order"

  pub step_broken : sound p r m ≡ false → step p r m ≡ unchanged m Broken
  unfolding step
  step_broken h = rw h refl

  module _ (s : sound p r m ≡ true) where
    pub small : Small r
    small =
        let f : Sound p r m = sound_facts p r m s in
        let short = table_short p f.table in
        (omega (arith, f.pc, short), omega (arith, f.sp, f.few), omega (arith, f.fbr, f.few), f.sp)

    fields : Fields r m.cells.tags
    fields =
        let f : Sound p r m = sound_facts p r m s in
        record { small = small; few = omega (arith, f.tags, f.few); tag = λ k. let h = (f.cells k).tag in omega (arith, h) }

    pub live : Live r m.cells.bits m.cells.tags
    live =
        let f : Sound p r m = sound_facts p r m s in
        (omega (arith, f.bits, f.sp), f.tags ∙ sym f.bits)

    carries : step p r m ≡ carried r m (judged p r m.cells (length m.output))
    unfolding plain_step
    carries = step_plain p r m s

    pub step_refuses : (a : Step) (x : MachineRefusal) → a ≡ Refused x → judged p r m.cells (length m.output) ≡ Err x → record { answer = a; memory = m } ≡ step p r m
    step_refuses a x h q = ap (λ (z : Step). record { answer = z; memory = m }) h ∙ sym (carries ∙ ap (carried r m) q)

    -- at an instruction
    module _ (running : r.halt ≡ 0) (inside : r.pc ≡ p.count → ⊥) where
      below : r.pc < p.count
      below = let f : Sound p r m = sound_facts p r m s in lt_of_le-ne f.pc inside

      pub placed : r.pc < length p.places
      placed =
          let f : Sound p r m = sound_facts p r m s in
          omega (arith, below, table_short p f.table, table_long p f.table)

      abbrev place : ℕ
      place = get_or p.places r.pc 0

      place_fits : sound_place p.count place ≡ true
      place_fits = place_sound p (sound_facts p r m s).table r.pc below

      pub coded : code_of (get_or p.places r.pc 0) < codes
      coded = place_coded p (sound_facts p r m s).table r.pc below

      pub fits : (e : Effect) → in_stack r (decide_at r m.cells (get_or p.places r.pc 0)) ≡ Ok e → Fits r e m.cells m.history
      fits e q =
          let f : Sound p r m = sound_facts p r m s in
          let does = fitting_does _ _ (decide_at r m.cells place) e q in
          let fair : Fair p r e = fair_place p r m f below place e place_fits does.1 (ltb-true e.sp r.n does.0) in
          record {
            cells = f.bits;
            tagged = f.tags;
            fields = fields;
            places = f.history;
            used = f.used;
            kept = f.kept;
            block = fair.fits;
            written = omega (arith, f.written, f.shown);
            byte = in_byte e.shows fair.shows;
          }

      pub step_carries : step p r m
          ≡ carried r m (in_history r (in_output r (length m.output) (in_stack r (decide_at r m.cells (get_or p.places r.pc 0)))))
      step_carries = carries ∙ ap (carried r m) (judged_fitted running inside)

    -- what an accepted step leaves is sound, and a refused step leaves what was
    module _ (bits tags history output : List ℕ) where
      pub next_sound : (a : Step) (q : Registers) → a ≡ Next q → stepped a bits tags history output ≡ step p r m → sound p q (memory bits tags history output) ≡ true
      next_sound a q k e =
          let plain = e ∙ step_plain p r m s in
          subst (λ (n : Memory). sound p q n ≡ true) (sym (ap (λ x. x.memory) plain))
          (sound_step p r q m s (sym (ap (λ x. x.answer) plain) ∙ k))

      refused_same : (d : Decision) (x : MachineRefusal) → stepped (Refused x) bits tags history output ≡ carried r m d → memory bits tags history output ≡ m
      refused_same (Ok e) x h =
          let a : Refused x ≡ Next (registers_of r e) = ap (λ k. k.answer) h in
          let z : ◌≡◌ {A = ℕ} 0 1 = cc in
          absurd (let y : ⊥ = omega arith in y)
      refused_same (Err y) x h = ap (λ k. k.memory) h

      pub refused_keeps : (a : Step) (x : MachineRefusal) → a ≡ Refused x → stepped a bits tags history output ≡ step p r m → memory bits tags history output ≡ m
      refused_keeps a x k e = refused_same (judged p r m.cells (length m.output)) x (ap (λ (z : Step). stepped z bits tags history output) (sym k) ∙ e ∙ carries)
