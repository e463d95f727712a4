-- Demand 3, as requests i and k have it: `demand3`. For every program, every origin (a reset or a load that is accepted, of any lent memory, of any N and H, H = 0 among
-- them), and every series of steps, limited runs, step-backs and forgets, refused ones among them. What it says is specs/Series.antt, over the definitions that the
-- contracts of the calls cite, and the fresh run of specs/Unbounded.antt. Assumes nothing.
use Prim.Native.Nat.{ℕ, ◌+◌, ◌-◌, ◌<◌}
use mathlib.Core.Path.{◌≡◌, refl, sym, ap, ap₂, ◌∙◌, subst}
use mathlib.Core.Bool.{Bool, true, false, ◌||◌, cond}
use mathlib.Core.List.{List, [], ◌∷◌, map}
use native.Mathlib.Nat.{pos_of_ne-zero}
use native.Mathlib.Omega.{arith}
use lib.Dec.{leb, ltb, eqb}
use lib.ListN.{length, take, replicate}
use lib.Seq.{take_at}
use borrow.Author.Tests.{leb-true, lt-ltb, eqb-false, eq-eqb, ne_eqb}
use Rattle.rules.specs.Table.{Program}
use Rattle.rules.specs.State.{others, steps_in_use}
use Rattle.rules.specs.Numbers.{machine_number, forget_number, number_of_step, number_of_forgot}
use Rattle.rules.specs.Step.{Stepped}
use Rattle.rules.specs.Back.{back}
use Rattle.rules.specs.Records.{places_of, whole_record, records_in_use}
use Rattle.rules.specs.Forget as Forget
use Rattle.rules.specs.declared.MachineRefusal.TheVariants.{NoHistory}
use Rattle.rules.specs.declared.ForgetRefusal.TheVariants.{TooManySteps}
use Rattle.rules.proofs.Fair.{Sound}
use Rattle.rules.proofs.FairEffects.{sound_facts}
use Rattle.rules.proofs.Records.{AllFormed, CutTo, steps_cut}
use Rattle.promises.specs.Unbounded.{Unbounded}
use Rattle.promises.specs.Series.{Request, State, plain, Session, state_of, series, begin, Origin, ahead, remembered, fresh_run, Promised}
use Rattle.promises.specs.Agrees.{Alike}
use Rattle.promises.proofs.Agrees.{agrees}
use Rattle.promises.proofs.Demand3Good.{Good}
use Rattle.promises.proofs.Demand3Held.{held, cuts, forget_held, forget_many, Begins}
use Rattle.promises.proofs.Demand3Origin.{origin_begins}
use Rattle.promises.proofs.Demand3Kept.{reached, no_more_kept, Kept, run_reached, records_reached, formed_held, good_reached, good_kept, BackOn, nothing, one, back_on, length_held, kept_series}

no_elements : (l : List ℕ) → length l ≡ 0 → l ≡ []
no_elements [] e = refl
no_elements (q ∷ l) e = absurd (let z : ⊥ = omega (arith, e) in z)

-- how few are held, of those made and those forgotten
few_held : (b : Bool) (few far gone : ℕ) → few + gone ≡ cond b far 0 → few ≡ cond b (far - gone) 0
few_held true few far gone e = omega (arith, e)
few_held false few far gone e = omega (arith, e)

-- the number of a step-back that is refused for want of a history, or done
abbrev answered : Bool → ℕ
answered none = cond none (machine_number NoHistory) 0

module _ (p : Program) (o : State) (x₀ : Unbounded) (begins : Begins p o x₀) (s : Session) (w : Kept p o x₀ begins s) where
  abbrev x : Unbounded
  x = reached p o x₀ begins w.far

  abbrev ls : List (List ℕ)
  ls = take w.few x.records

  abbrev room : ℕ
  room = o.registers.h

  -- how far, how few
  pub far_is : w.far ≡ ahead s
  far_is = omega (arith, w.count)

  pub few_is : w.few ≡ cond (ltb 0 room) (remembered s) 0
  few_is =
      few_held (ltb 0 room) w.few w.far s.forgotten w.kept
      ∙ ap (λ (n : ℕ). cond (ltb 0 room) (n - s.forgotten) 0) far_is

  few_some : 0 < room → w.few + s.forgotten ≡ w.far
  few_some some = w.kept ∙ ap (λ (b : Bool). cond b w.far 0) (lt-ltb 0 room some)

  room_is : s.registers.h ≡ room
  room_is = ap (λ (t : State). t.registers.h) w.holds.at

  some_room : 0 < s.registers.h → 0 < room
  some_room some = omega (arith, some, room_is)

  pub kept_few : s.registers.kept ≡ w.few
  kept_few = ap (λ (t : State). t.registers.kept) w.holds.at ∙ length_held p o x₀ begins s w

  first_places : take s.registers.used s.memory.history ≡ places_of ls
  first_places =
      ap (λ (t : State). take t.registers.used t.memory.history) w.holds.at
      ∙ take_at (places_of ls) (replicate (room - length (places_of ls)) 0) (length (places_of ls)) refl

  -- a step-back is accepted exactly where a record is held
  refused_when : BackOn p o x₀ begins s w.far w.few
      → number_of_step (back p s.registers s.memory).answer ≡ answered (eqb s.registers.h 0 || eqb (ahead s) s.forgotten)
  refused_when (nothing z e) =
      ap (λ (a : Stepped). number_of_step a.answer) e ∙ sym (ap answered (go (eqb s.registers.h 0) refl))
    where
      go : (b : Bool) → eqb s.registers.h 0 ≡ b → (b || eqb (ahead s) s.forgotten) ≡ true
      go true y = refl
      go false y =
          let some : 0 < s.registers.h = pos_of_ne-zero (eqb-false _ _ y) in
          eq-eqb (ahead s) s.forgotten (omega (arith, far_is, few_some (some_room some), z))
  refused_when (one k j t far few some m v e) =
      ap (λ (a : Stepped). number_of_step a.answer) e
      ∙ sym (ap answered (ap₂ ◌||◌ (ne_eqb s.registers.h 0 (λ z. omega (arith, some, room_is, z)))
      (ne_eqb (ahead s) s.forgotten (λ z. omega (arith, far_is, few_some some, few, z)))))

  -- the records that are held are found, and a forget is accepted exactly where it is of no more of them
  abbrev here : State
  here = held room ls x

  held_good : Good p here
  held_good = good_reached p o x₀ begins w.far w.few w.makes w.holds.fits

  held_formed : AllFormed x.registers.n p.count ls
  held_formed = formed_held p o x₀ begins w.far w.few w.makes

  found : CutTo x.registers.n p.count ls (records_in_use here.registers here.memory)
  found = cuts p room begins.short ls x held_good held_formed w.holds.fits

  -- as many as there are step places in use
  counted : length ls ≡ steps_in_use here.registers here.memory
  counted =
      let f : Sound p here.registers here.memory = sound_facts p here.registers here.memory held_good.sound in
      sym found.many
      ∙ sym (steps_cut x.registers.n p.count here.registers.used here.memory.history (omega (arith, f.used, f.history)) found.formed)

  forgets_when : (k : ℕ) (b : Bool) → leb k (length ls) ≡ b
      → number_of_forgot (Forget.forget p k here.registers here.memory).answer ≡ cond (leb k (length ls)) 0 (forget_number TooManySteps)
  forgets_when k true b =
      ap (λ (a : Forget.Forgets). number_of_forgot a.answer)
      (forget_held p room begins.short ls x held_good held_formed w.holds.fits k (leb-true _ _ b))
      ∙ ap (λ (c : Bool). cond c 0 (forget_number TooManySteps)) (sym b)
  forgets_when k false b =
      ap (λ (a : Forget.Forgets). number_of_forgot a.answer)
      (forget_many p room begins.short ls x held_good held_formed w.holds.fits k b)
      ∙ ap (λ (c : Bool). cond c 0 (forget_number TooManySteps)) (sym b)

  -- the run's state is that of a machine in a good state, and the session shows it
  abbrev run_so_far : Unbounded
  run_so_far = fresh_run p x₀ s

  run_good : Good p (plain run_so_far)
  run_good = subst (λ (k : ℕ). Good p (plain (reached p o x₀ begins k))) far_is (run_reached p o x₀ begins w.far w.makes).good

  alike : Alike run_so_far (state_of s)
  alike =
      record {
        registers =
            ap (λ (t : State). others t.registers) w.holds.at ∙ ap (λ (k : ℕ). others (reached p o x₀ begins k).registers) far_is;
        cells = ap (λ (t : State). t.memory.cells) w.holds.at ∙ ap (λ (k : ℕ). (reached p o x₀ begins k).cells) far_is;
        output = ap (λ (t : State). t.memory.output) w.holds.at ∙ ap (λ (k : ℕ). (reached p o x₀ begins k).output) far_is;
      }

  pub promised : Promised p o x₀ s
  promised =
      let good : Good p (state_of s) = good_kept p o x₀ begins s w in
      let f : Sound p s.registers s.memory = sound_facts p s.registers s.memory good.sound in
      record {
        within = omega (arith, w.count, no_more_kept s.forgotten (ltb 0 room) w.few w.far w.kept);
        steps = subst (λ (k : ℕ). length (reached p o x₀ begins k).records ≡ k) far_is (records_reached p o x₀ begins w.far w.makes);
        cells = alike.cells;
        registers = alike.registers;
        output = alike.output;
        h = room_is;
        history =
            λ some.
            let all : w.few ≡ remembered s = few_is ∙ ap (λ (b : Bool). cond b (remembered s) 0) (lt-ltb 0 room (some_room some)) in
            first_places ∙ ap₂ (λ (n k : ℕ). places_of (take n (reached p o x₀ begins k).records)) all far_is;
        rest = good.blank.history;
        none = λ z. (no_elements s.memory.history (f.history ∙ z), omega (arith, f.used, z));
        kept = kept_few ∙ few_is ∙ ap (λ (h : ℕ). cond (ltb 0 h) (remembered s) 0) (sym room_is);
        in_use = subst (λ (t : State). t.registers.kept ≡ steps_in_use t.registers t.memory) (sym w.holds.at) counted;
        records =
            ap (λ (t : State). map whole_record (records_in_use t.registers t.memory)) w.holds.at ∙ found.same
            ∙ ap₂ (λ (n k : ℕ). take n (reached p o x₀ begins k).records) (sym kept_few) far_is;
        refused = refused_when (back_on p o x₀ begins s w);
        next = (agrees p run_so_far (state_of s) good.sound alike).steps;
        forgets =
            λ k.
            subst (λ (t : State). number_of_forgot (Forget.forget p k t.registers t.memory).answer ≡ cond (leb k t.registers.kept) 0 (forget_number TooManySteps))
            (sym w.holds.at) (forgets_when k (leb k (length ls)) refl);
        sound = good.sound;
        run_sound = run_good.sound;
      }

-- two sessions of one origin that are as far, and have forgotten as much, stand in the same state
pub same_held : (p : Program) (o : State) (x₀ : Unbounded) (begins : Begins p o x₀) (s t : Session) (w : Kept p o x₀ begins s) (v : Kept p o x₀ begins t)
    → ahead s ≡ ahead t → s.forgotten ≡ t.forgotten → state_of s ≡ state_of t
same_held p o x₀ begins s t w v even gone =
    let far : w.far ≡ v.far = far_is p o x₀ begins s w ∙ even ∙ sym (far_is p o x₀ begins t v) in
    let few : w.few ≡ v.few =
    few_is p o x₀ begins s w ∙ ap₂ (λ (n k : ℕ). cond (ltb 0 o.registers.h) (n - k) 0) even gone ∙ sym (few_is p o x₀ begins t v) in
    w.holds.at
    ∙ ap₂ (λ (n k : ℕ). held o.registers.h (take n (reached p o x₀ begins k).records) (reached p o x₀ begins k)) few far
    ∙ sym v.holds.at

pub demand3 : (p : Program) (o : State) (x : Unbounded) → Origin p o x → (qs : List Request) → Promised p o x (series p qs (begin o))
demand3 p o x origin qs =
    let begins : Begins p o x = origin_begins p o x origin in promised p o x begins (series p qs (begin o)) (kept_series p o x begins qs)
