-- A sound state that takes an accepted step is sound again; so a plain step is a step there. Assumes nothing.
use Rattle.std.specs.Prelude.{Option, Some, None, Ok, Err}
use Prim.Native.Nat.{ℕ, zero, suc, ◌+◌, ◌-◌, ◌≤◌, zero-le, min}
use mathlib.Core.Path.{◌≡◌, refl, sym, ap, ap₂, ◌∙◌, subst, subst₂}
use mathlib.Core.Bool.{Bool, true, false, not, ◌&&◌, ◌||◌}
use mathlib.Core.List.{List, [], ◌∷◌, ◌++◌}
use native.Mathlib.Omega.{arith}
use lib.Dec.{leb, eqb}
use lib.ListN.{length, get_or, take, drop, replicate, length-set, length-append, length-take, length-replicate}
use lib.Seq.{get_or-drop}
use borrow.Author.Tests.{leb-true, ltb-true, eqb-true, lt-ltb, le-leb, eq-eqb}
use Rattle.rules.specs.Lists.{part, splice}
use Rattle.rules.specs.Sizes.{max_character}
use Rattle.rules.specs.Tags.{PA, CH}
use Rattle.rules.specs.Places.{step_place}
use Rattle.rules.specs.Table.{Program}
use Rattle.rules.specs.State.{Memory, sound_cell, sound_cells, sound}
use Rattle.rules.specs.Decide.{demand}
use Rattle.rules.specs.Commit.{block, cell_places, cells_kept, record_of, keeps, grown, history_after, written_after, output_after, registers_of, memory_of, room_on, room_in, room_for}
use Rattle.rules.specs.Step.{judged, carried, plain_step, step}
use Rattle.rules.specs.declared.Cell.{Cell}
use Rattle.rules.specs.declared.Registers.{Registers}
use Rattle.rules.specs.declared.Effect.{Effect}
use Rattle.rules.specs.Answers.{Decision}
use Rattle.rules.specs.declared.MachineRefusal.TheVariants.{Broken}
use Rattle.rules.specs.declared.Step.TheVariants.{Next}
use Rattle.rules.proofs.Zeros.{zeros_at_lem}
use Rattle.rules.proofs.Tests.{to_implies}
use Rattle.rules.proofs.Splice.{length_part, length_splice}
use Rattle.rules.proofs.Fair.{FairCell, FairCells, Sound, Fair}
use Rattle.rules.proofs.FairEffects.{fair_plain, sound_facts, judged_going, fair_judged}

-- ---- a relation that holds between tags and bits at every place, and past their end
abbrev pub Each : (ℕ → ℕ → Type 0) → List ℕ → List ℕ → Type 0
Each P ts bs = (k : ℕ) → P (get_or ts k 0) (get_or bs k 0)

module _ (P : ℕ → ℕ → Type 0) (z : P 0 0) where
  pub each_take : (n : ℕ) (ts bs : List ℕ) → length ts ≡ length bs → Each P ts bs → Each P (take n ts) (take n bs)
  each_take zero ts bs e h k = z
  each_take (suc n) [] [] e h k = z
  each_take (suc n) [] (b ∷ bs) e h k = absurd (let y : ⊥ = omega (arith, e) in y)
  each_take (suc n) (t ∷ ts) [] e h k = absurd (let y : ⊥ = omega (arith, e) in y)
  each_take (suc n) (t ∷ ts) (b ∷ bs) e h zero = h zero
  each_take (suc n) (t ∷ ts) (b ∷ bs) e h (suc k) = each_take n ts bs (omega (arith, e)) (λ j. h (suc j)) k

  pub each_drop : (n : ℕ) (ts bs : List ℕ) → Each P ts bs → Each P (drop n ts) (drop n bs)
  each_drop n ts bs h k = subst₂ P (sym (get_or-drop n ts k 0)) (sym (get_or-drop n bs k 0)) (h (n + k))

  pub each_append : (xs ys ts bs : List ℕ) → length xs ≡ length ys → Each P xs ys → Each P ts bs → Each P (xs ++ ts) (ys ++ bs)
  each_append [] [] ts bs e h g k = g k
  each_append [] (y ∷ ys) ts bs e h g k = absurd (let w : ⊥ = omega (arith, e) in w)
  each_append (x ∷ xs) [] ts bs e h g k = absurd (let w : ⊥ = omega (arith, e) in w)
  each_append (x ∷ xs) (y ∷ ys) ts bs e h g zero = h zero
  each_append (x ∷ xs) (y ∷ ys) ts bs e h g (suc k) = each_append xs ys ts bs (omega (arith, e)) (λ j. h (suc j)) g k

  pub each_splice : (i n : ℕ) (ts bs vs ws : List ℕ) → length ts ≡ length bs → length vs ≡ n → length ws ≡ n → Each P ts bs → Each P vs ws
      → Each P (splice ts i vs) (splice bs i ws)
  each_splice i n ts bs vs ws e ev ew h g =
      each_append (take i ts) (take i bs) (vs ++ drop (i + length vs) ts) (ws ++ drop (i + length ws) bs)
      (length-take i ts ∙ ap (min i) e ∙ sym (length-take i bs)) (each_take i ts bs e h)
      (each_append vs ws (drop (i + length vs) ts) (drop (i + length ws) bs) (ev ∙ sym ew) g
      (subst₂ (λ (a b : ℕ). Each P (drop (i + a) ts) (drop (i + b) bs)) (sym ev) (sym ew) (each_drop (i + n) ts bs h)))

  -- what an effect writes
  pub each_block : (n t b t' b' : ℕ) → P t b → P t' b' → Each P (block n t t') (block n b b')
  each_block n t b t' b' p q = each_take n (t ∷ t' ∷ replicate n 0) (b ∷ b' ∷ replicate n 0) refl two
    where
      two : Each P (t ∷ t' ∷ replicate n 0) (b ∷ b' ∷ replicate n 0)
      two zero = p
      two (suc zero) = q
      two (suc (suc k)) = subst₂ P (sym (zeros_at_lem n k)) (sym (zeros_at_lem n k)) z

-- ---- lengths of what a step writes

pub length_block : (n x y : ℕ) → length (block n x y) ≡ n
length_block n x y = length-take n (x ∷ y ∷ replicate n 0) ∙ ap (λ (k : ℕ). min n (suc (suc k))) (length-replicate n 0) ∙ omega arith

pub length_places : (a : ℕ) (ts bs : List ℕ) → length ts ≡ length bs → length (cell_places a ts bs) ≡ length bs
length_places a [] bs e = e
length_places a (t ∷ ts) [] e = refl
length_places a (t ∷ ts) (b ∷ bs) e = ap suc (length_places (suc a) ts bs (omega arith))

module _ (m : Memory) (e : Effect) (ht : e.at + e.count ≤ length m.cells.tags) (hb : e.at + e.count ≤ length m.cells.bits) where
  pub length_kept : length (cells_kept m.cells e) ≡ e.count
  length_kept =
      let lt : length (part e.at e.count m.cells.tags) ≡ e.count = length_part e.at e.count m.cells.tags ht in
      let lb : length (part e.at e.count m.cells.bits) ≡ e.count = length_part e.at e.count m.cells.bits hb in
      length_places e.at (part e.at e.count m.cells.tags) (part e.at e.count m.cells.bits) (lt ∙ sym lb) ∙ lb

  pub length_record : (r : Registers) → length (record_of r m.cells e) ≡ e.count + 1
  length_record r =
      length-append (cells_kept m.cells e) (step_place r.pc r.sp r.fbr e.count ∷ []) ∙ ap (λ (k : ℕ). k + 1) length_kept

-- ---- the tests of a sound state, from the facts

-- where the tag is that one, the bits are at most the limit
tagged_sound : (tag t b limit : ℕ) → (t ≡ tag → b ≤ limit) → (not (eqb t tag) || leb b limit) ≡ true
tagged_sound tag t b limit h = to_implies (eqb t tag) (leb b limit) (λ q. le-leb b limit (h (eqb-true t tag q)))

pub cell_sound : (count : ℕ) (c : Cell) → FairCell count c → sound_cell count c.tag c.bits ≡ true
cell_sound count c f =
    ap₂ ◌&&◌ (le-leb c.tag CH f.tag)
    (ap₂ ◌&&◌ (tagged_sound PA c.tag c.bits count f.pa) (tagged_sound CH c.tag c.bits max_character f.ch))

pub cells_sound : (count : ℕ) (ts bs : List ℕ) → FairCells count ts bs → sound_cells count ts bs ≡ true
cells_sound count [] bs f = refl
cells_sound count (t ∷ ts) [] f = refl
cells_sound count (t ∷ ts) (b ∷ bs) f = ap₂ ◌&&◌ (cell_sound count (record { bits = b; tag = t }) (f zero)) (cells_sound count ts bs (λ k. f (suc k)))

pub facts_sound : (p : Program) (r : Registers) (m : Memory) → Sound p r m → sound p r m ≡ true
unfolding sound
facts_sound p r m s =
    simp (
      s.table,
      le-leb _ _ s.some,
      le-leb _ _ s.few,
      le-leb _ _ s.short,
      eq-eqb _ _ s.bits,
      eq-eqb _ _ s.tags,
      eq-eqb _ _ s.history,
      lt-ltb _ _ s.sp,
      lt-ltb _ _ s.fbr,
      le-leb _ _ s.pc,
      le-leb _ _ s.halt,
      le-leb _ _ s.used,
      le-leb _ _ s.kept,
      to_implies (eqb r.kept 0) (eqb r.used 0) (λ q. eq-eqb _ _ (s.none (eqb-true _ _ q))),
      le-leb _ _ s.shown,
      le-leb _ _ s.written,
      cells_sound p.count m.cells.tags m.cells.bits s.cells,
    )

-- ---- the history after, with a record or without
module _ (u n h : ℕ) (low : u ≤ h) where
  used_after : (b : Bool) → room_in b (h - u) n ≡ true → grown b u n ≤ h
  used_after true q = omega (arith, leb-true n (h - u) q)
  used_after false q = low

  history_after_lem : (b : Bool) (l added : List ℕ) → length l ≡ h → length added ≡ n → room_in b (h - u) n ≡ true
      → length (history_after b l u added) ≡ h
  history_after_lem true l added e a q =
      let room : n ≤ h - u = leb-true n (h - u) q in
      length_splice l u added (omega arith) ∙ e
  history_after_lem false l added e a q = e

-- ---- the kept number after: a record is one step more, and at least one place
module _ (k u n : ℕ) (some : 1 ≤ n) where
  kept_after : (b : Bool) → k ≤ u → grown b k 1 ≤ grown b u n
  kept_after true h = omega arith
  kept_after false h = h

  none_after : (b : Bool) → (k ≡ 0 → u ≡ 0) → grown b k 1 ≡ 0 → grown b u n ≡ 0
  none_after true h q = absurd (let z : ⊥ = omega (arith, q) in z)
  none_after false h q = h q

-- ---- the output after, with a byte or without
module _ (o : List ℕ) (w : ℕ) where
  pub output_length : (x : Option ℕ) → length (output_after x w o) ≡ length o
  output_length None = refl
  output_length (Some b) = length-set o w b

  written_after_lem : (x : Option ℕ) → w ≤ length o → room_on (length o) w x ≡ true → written_after x w ≤ length o
  written_after_lem None h q = h
  written_after_lem (Some b) h q = omega (arith, ltb-true w (length o) q)

-- ---- a fair effect leaves a sound state sound

pub sound_commit : (p : Program) (r : Registers) (m : Memory) (e : Effect) → Sound p r m → Fair p r e → room_on (length m.output) r.written e.shows ≡ true
    → room_for r e ≡ true → Sound p (registers_of r e) (memory_of r m e)
sound_commit p r m e s f panel room =
    let lb : length (block e.count e.first.bits e.second.bits) ≡ e.count = length_block e.count e.first.bits e.second.bits in
    let lt : length (block e.count e.first.tag e.second.tag) ≡ e.count = length_block e.count e.first.tag e.second.tag in
    record {
      table = s.table;
      some = s.some;
      few = s.few;
      short = s.short;
      bits = length_splice m.cells.bits e.at (block e.count e.first.bits e.second.bits) (omega (arith, lb, f.fits, s.bits)) ∙ s.bits;
      tags = length_splice m.cells.tags e.at (block e.count e.first.tag e.second.tag) (omega (arith, lt, f.fits, s.tags)) ∙ s.tags;
      history =
          history_after_lem r.used (e.count + 1) r.h s.used (keeps r) m.history (record_of r m.cells e) s.history
          (length_record m e (omega (arith, f.fits, s.tags)) (omega (arith, f.fits, s.bits)) r) room;
      sp = f.sp;
      fbr = f.fbr;
      pc = f.pc;
      halt = f.halt;
      used = used_after r.used (e.count + 1) r.h s.used (keeps r) room;
      kept = kept_after r.kept r.used (e.count + 1) (omega arith) (keeps r) s.kept;
      none = none_after r.kept r.used (e.count + 1) (omega arith) (keeps r) s.none;
      shown = let same = output_length m.output r.written e.shows in omega (arith, same, s.shown);
      written =
          let same = output_length m.output r.written e.shows in
          let low = written_after_lem m.output r.written e.shows s.written panel in
          omega (arith, same, low);
      cells =
          each_splice (λ t b. FairCell p.count (record { bits = b; tag = t })) (fair_plain p.count 0 0 zero-le)
          e.at e.count m.cells.tags m.cells.bits (block e.count e.first.tag e.second.tag) (block e.count e.first.bits e.second.bits)
          (s.tags ∙ sym s.bits) lt lb s.cells
          (each_block (λ t b. FairCell p.count (record { bits = b; tag = t })) (fair_plain p.count 0 0 zero-le)
          e.count e.first.tag e.first.bits e.second.tag e.second.bits f.first f.second);
    }

pub sound_judged : (p : Program) (r : Registers) (m : Memory) (e : Effect) → sound p r m ≡ true → judged p r m.cells (length m.output) ≡ Ok e
    → sound p (registers_of r e) (memory_of r m e) ≡ true
sound_judged p r m e h q =
    facts_sound p (registers_of r e) (memory_of r m e)
    (let g = judged_going p r m e q in sound_commit p r m e (sound_facts p r m h) (fair_judged p r m e h q) g.panel g.room)

-- ---- a step of a sound state is a plain step

pub step_plain : (p : Program) (r : Registers) (m : Memory) → sound p r m ≡ true → step p r m ≡ plain_step p r m
unfolding step plain_step
step_plain p r m h = ap (λ (b : Bool). carried r m (demand b Broken (judged p r m.cells (length m.output)))) h

-- the state that an accepted step leaves is sound
carried_sound : (p : Program) (r r' : Registers) (m : Memory) (d : Decision) → sound p r m ≡ true → judged p r m.cells (length m.output) ≡ d
    → (carried r m d).answer ≡ Next r' → sound p r' (carried r m d).memory ≡ true
carried_sound p r r' m (Ok e) h q a =
    let same : registers_of r e ≡ r' = cc in
    subst (λ (x : Registers). sound p x (memory_of r m e) ≡ true) same (sound_judged p r m e h q)
carried_sound p r r' m (Err x) h q a = let z : ◌≡◌ {A = ℕ} 0 1 = cc in absurd (let y : ⊥ = omega arith in y)

pub sound_step : (p : Program) (r r' : Registers) (m : Memory) → sound p r m ≡ true → (plain_step p r m).answer ≡ Next r'
    → sound p r' (plain_step p r m).memory ≡ true
unfolding plain_step
sound_step p r r' m h a = carried_sound p r r' m (judged p r m.cells (length m.output)) h refl a
