-- A step-back undoes an accepted step exactly: cells with their tags, history and registers. Assumes nothing.
use Rattle.std.specs.Prelude.{Ok}
use Prim.Native.Nat.{ℕ, zero, suc, ◌+◌, ◌-◌, ◌^◌, ◌≤◌, ◌<◌}
use mathlib.Core.Path.{◌≡◌, refl, sym, ap, ap₂, ◌∙◌, subst}
use mathlib.Core.Bool.{Bool, true, false, not, ◌&&◌, ◌||◌, cond}
use mathlib.Core.List.{List, [], ◌∷◌, ◌++◌, append_assoc}
use native.Mathlib.Omega.{arith}
use lib.Dec.{ltb}
use lib.ListN.{length, get_or, take, drop, set, replicate, length-append}
use lib.Seq.{sets, take_at, get_or_at, drop-drop, get_or-drop}
use borrow.Author.Tests.{leb-true, ne_eqb, lt-ltb}
use Rattle.rules.specs.Lists.{part, splice}
use Rattle.rules.specs.Sizes.{max_cells}
use Rattle.rules.specs.Places.{cell_place, step_place, cell_tag, cell_bits, step_pc, step_sp, step_fbr, step_count}
use Rattle.rules.specs.Table.{Program}
use Rattle.rules.specs.State.{Memory, sound}
use Rattle.rules.specs.Commit.{block, cell_places, cells_kept, record_of, keeps, grown, history_after, registers_with, registers_of, written_after, output_after, cells_after, memory_of, room_on, room_in, room_for}
use Rattle.rules.specs.Step.{judged, unchanged}
use Rattle.rules.specs.Records.{formed_record}
use Rattle.rules.specs.Back.{top_record, top_place, formed_top, shows_at, can_drop, restored, undone_at, undone, plain_back, back}
use Rattle.rules.specs.declared.Registers.{Registers}
use Rattle.rules.specs.declared.Effect.{Effect}
use Rattle.rules.specs.declared.MachineRefusal.TheVariants.{Broken}
use Rattle.rules.specs.declared.Step.TheVariants.{Next}
use Rattle.rules.proofs.Zeros.{take_zeros, drop_zeros}
use Rattle.rules.proofs.Places.{cell_address_of, cell_tag_of, cell_bits_of, step_pc_of, step_sp_of, step_fbr_of, step_count_of}
use Rattle.rules.proofs.Splice.{length_part, drop_splice, rest_splice, length_splice, splice_back, sets_splice}
use Rattle.rules.proofs.Fair.{Sound, Going, Fair, Narrow, Blank}
use Rattle.rules.proofs.FairEffects.{sound_facts, judged_going, going_below, fair_judged}
use Rattle.rules.proofs.Table.{table_short}
use Rattle.rules.proofs.Panel.{is_shown, written_back_lem, output_back_lem, blank_output, drops, shows_at_lem}
use Rattle.rules.proofs.Sound.{output_length, Each, length_block, length_kept, length_record, sound_judged}
use Rattle.rules.proofs.Formed.{Keepable, keepable, WellFormed, places_well}

-- ---- what cell places keep, put back from address a on

-- of each tag and bits, one number
abbrev picked : (ℕ → ℕ → ℕ) → List ℕ → List ℕ → List ℕ
picked f [] bs = []
picked f (t ∷ ts) [] = []
picked f (t ∷ ts) (b ∷ bs) = f t b ∷ picked f ts bs

picked_tags : (ts bs : List ℕ) → length ts ≡ length bs → picked (λ t b. t) ts bs ≡ ts
picked_tags [] bs e = refl
picked_tags (t ∷ ts) [] e = absurd (let z : ⊥ = omega (arith, e) in z)
picked_tags (t ∷ ts) (b ∷ bs) e = ap (λ (l : List ℕ). t ∷ l) (picked_tags ts bs (omega (arith, e)))

picked_bits : (ts bs : List ℕ) → length ts ≡ length bs → picked (λ t b. b) ts bs ≡ bs
picked_bits [] [] e = refl
picked_bits [] (b ∷ bs) e = absurd (let z : ⊥ = omega (arith, e) in z)
picked_bits (t ∷ ts) [] e = refl
picked_bits (t ∷ ts) (b ∷ bs) e = ap (λ (l : List ℕ). b ∷ l) (picked_bits ts bs (omega (arith, e)))

-- `old` reads from a cell place what `f` picks
module _ (count : ℕ) (old : ℕ → ℕ) (f : ℕ → ℕ → ℕ)
    (reads : (a t b : ℕ) → a < 2 ^ 10 → t < 2 ^ 3 → b < 2 ^ 32 → old (cell_place a t b) ≡ f t b) where
  restored_sets : (a : ℕ) (ts bs l : List ℕ) → a + length bs ≤ max_cells → Each (Keepable count) ts bs
      → restored old (cell_places a ts bs) l ≡ sets l a (picked f ts bs)
  restored_sets a [] bs l h c = refl
  restored_sets a (t ∷ ts) [] l h c = refl
  restored_sets a (t ∷ ts) (b ∷ bs) l h c =
      let low : a < 2 ^ 10 = omega arith in
      ap₂ (λ (x y : ℕ). restored old (cell_places (suc a) ts bs) (set l x y)) (cell_address_of a t b low (c zero).tag (c zero).bits)
      (reads a t b low (c zero).tag (c zero).bits)
      ∙ restored_sets (suc a) ts bs (set l a (f t b)) (omega arith) (λ k. c (suc k))

-- ---- what a step-back finds of a record on top: n cell places cs, and the step place q
module _ (h : List ℕ) (u n : ℕ) (cs : List ℕ) (q : ℕ) (lc : length cs ≡ n) (room : u + (n + 1) ≤ length h) where
  length_top : length (cs ++ (q ∷ [])) ≡ n + 1
  length_top = length-append cs (q ∷ []) ∙ ap (λ (k : ℕ). k + 1) lc

  drop_top : drop u (splice h u (cs ++ (q ∷ []))) ≡ cs ++ (q ∷ drop (u + length (cs ++ (q ∷ []))) h)
  drop_top =
      drop_splice h u (cs ++ (q ∷ [])) (omega (arith, length_top)) ∙ append_assoc cs (q ∷ []) (drop (u + length (cs ++ (q ∷ []))) h)

  step_top : get_or (splice h u (cs ++ (q ∷ []))) (u + (n + 1) - 1) 0 ≡ q
  step_top =
      let last : u + (n + 1) - 1 ≡ u + n = omega arith in
      ap (λ (k : ℕ). get_or (splice h u (cs ++ (q ∷ []))) k 0) last ∙ sym (get_or-drop u (splice h u (cs ++ (q ∷ []))) n 0)
      ∙ ap (λ (l : List ℕ). get_or l n 0) drop_top ∙ get_or_at cs q (drop (u + length (cs ++ (q ∷ []))) h) 0 n lc

  cells_top : part u n (splice h u (cs ++ (q ∷ []))) ≡ cs
  cells_top = ap (take n) drop_top ∙ take_at cs (q ∷ drop (u + length (cs ++ (q ∷ []))) h) n lc

  zeros_top : part u (n + 1) h ≡ replicate (n + 1) 0 → splice (splice h u (cs ++ (q ∷ []))) u (replicate (n + 1) 0) ≡ h
  zeros_top z = splice_back h u (n + 1) (cs ++ (q ∷ [])) (replicate (n + 1) 0) length_top room (sym z)

-- ---- the registers and the memory after a step that keeps a record

abbrev registers_kept : Registers → Effect → Registers
registers_kept r e = registers_with r e (r.used + (e.count + 1)) (r.kept + 1)

abbrev memory_kept : Registers → Memory → Effect → Memory
memory_kept r m e =
    record {
      cells = cells_after m.cells e;
      history = splice m.history r.used (record_of r m.cells e);
      output = output_after e.shows r.written m.output;
    }

module _ (p : Program) (r : Registers) (m : Memory) (e : Effect) (s : Sound p r m) (w : Narrow m) (below : r.pc < p.count)
    (fits : e.at + e.count ≤ r.n) (shown : shows_at p r.pc ≡ is_shown e.shows) (panel : room_on (length m.output) r.written e.shows ≡ true)
    (room : r.used + (e.count + 1) ≤ r.h) where
  fits_tags : e.at + e.count ≤ length m.cells.tags
  fits_tags = omega (arith, s.tags)

  fits_bits : e.at + e.count ≤ length m.cells.bits
  fits_bits = omega (arith, s.bits)

  old_tags : length (part e.at e.count m.cells.tags) ≡ e.count
  old_tags = length_part e.at e.count m.cells.tags fits_tags

  old_bits : length (part e.at e.count m.cells.bits) ≡ e.count
  old_bits = length_part e.at e.count m.cells.bits fits_bits

  room_history : r.used + (e.count + 1) ≤ length m.history
  room_history = omega (arith, s.history)

  old : Each (Keepable p.count) (part e.at e.count m.cells.tags) (part e.at e.count m.cells.bits)
  old = keepable p r m s w e.at e.count

  hp : r.pc < 2 ^ 11
  hp = omega (arith, table_short p s.table)

  hs : r.sp < 2 ^ 10
  hs = omega (arith, s.sp, s.few)

  hf : r.fbr < 2 ^ 10
  hf = omega (arith, s.fbr, s.few)

  hc : e.count < 2 ^ 10
  hc = omega (arith, s.few)

  abbrev made : ℕ
  made = step_place r.pc r.sp r.fbr e.count

  top_is_lem : top_place (registers_kept r e) (memory_kept r m e) ≡ made
  top_is_lem = step_top m.history r.used e.count (cells_kept m.cells e) made (length_kept m e fits_tags fits_bits) room_history

  from_is : r.used + (e.count + 1) - 1 - e.count ≡ r.used
  from_is = omega arith

  one_less : r.kept + 1 - 1 ≡ r.kept
  one_less = omega arith

  cells_are : part (r.used + (e.count + 1) - 1 - e.count) e.count (memory_kept r m e).history ≡ cells_kept m.cells e
  cells_are =
      ap (λ (k : ℕ). part k e.count (memory_kept r m e).history) from_is
      ∙ cells_top m.history r.used e.count (cells_kept m.cells e) made (length_kept m e fits_tags fits_bits) room_history

  pc_is : step_pc (top_place (registers_kept r e) (memory_kept r m e)) ≡ r.pc
  pc_is = ap step_pc top_is_lem ∙ step_pc_of r.pc r.sp r.fbr e.count hp hs hf hc

  sp_is : step_sp (top_place (registers_kept r e) (memory_kept r m e)) ≡ r.sp
  sp_is = ap step_sp top_is_lem ∙ step_sp_of r.pc r.sp r.fbr e.count hp hs hf hc

  fbr_is : step_fbr (top_place (registers_kept r e) (memory_kept r m e)) ≡ r.fbr
  fbr_is = ap step_fbr top_is_lem ∙ step_fbr_of r.pc r.sp r.fbr e.count hp hs hf hc

  count_is : step_count (top_place (registers_kept r e) (memory_kept r m e)) ≡ e.count
  count_is = ap step_count top_is_lem ∙ step_count_of r.pc r.sp r.fbr e.count hp hs hf hc

  -- the record is found on top, and well formed
  record_is : top_record (registers_kept r e) (memory_kept r m e)
      ≡ record { cells = cells_kept m.cells e; place = made; below = r.used + (e.count + 1) - 1 }
  record_is =
      λ i. record {
        cells = (ap (λ (k : ℕ). part (r.used + (e.count + 1) - 1 - k) k (memory_kept r m e).history) count_is ∙ cells_are) i;
        place = top_is_lem i;
        below = r.used + (e.count + 1) - 1;
      }

  formed_kept : formed_top p (registers_kept r e) (memory_kept r m e) ≡ true
  formed_kept =
      let f : WellFormed r.n p.count (cells_kept m.cells e) made = places_well p r m e s w below fits in
      let lies : length (cells_kept m.cells e) ≤ r.used + (e.count + 1) - 1 = omega (arith, length_kept m e fits_tags fits_bits) in
      ap (formed_record r.n p.count) record_is
      ∙ ap₂ ◌&&◌ (f.step (r.used + (e.count + 1) - 1) lies) f.restores

  -- a list of N cells, written over by ws, has its old numbers again
  cells_back_lem : (read : ℕ → ℕ) (f : ℕ → ℕ → ℕ) → ((a t b : ℕ) → a < 2 ^ 10 → t < 2 ^ 3 → b < 2 ^ 32 → read (cell_place a t b) ≡ f t b)
      → (l ws : List ℕ) → length l ≡ r.n → length ws ≡ e.count
      → picked f (part e.at e.count m.cells.tags) (part e.at e.count m.cells.bits) ≡ part e.at e.count l
      → restored read (cells_kept m.cells e) (splice l e.at ws) ≡ l
  cells_back_lem read f reads l ws ll lw picks =
      let fl : e.at + e.count ≤ length l = omega arith in
      let lp : length (part e.at e.count l) ≡ e.count = length_part e.at e.count l fl in
      restored_sets p.count read f reads e.at (part e.at e.count m.cells.tags) (part e.at e.count m.cells.bits)
      (splice l e.at ws) (omega (arith, old_bits, s.few)) old
      ∙ ap (sets (splice l e.at ws) e.at) picks
      ∙ sets_splice (part e.at e.count l) (splice l e.at ws) e.at (omega (arith, lp, fl, length_splice l e.at ws (omega arith)))
      ∙ splice_back l e.at e.count ws (part e.at e.count l) lw fl refl

  bits_back : restored cell_bits (cells_kept m.cells e) (memory_kept r m e).cells.bits ≡ m.cells.bits
  bits_back =
      cells_back_lem cell_bits (λ t b. b) cell_bits_of m.cells.bits (block e.count e.first.bits e.second.bits) s.bits
      (length_block e.count e.first.bits e.second.bits)
      (picked_bits (part e.at e.count m.cells.tags) (part e.at e.count m.cells.bits) (old_tags ∙ sym old_bits))

  tags_back : restored cell_tag (cells_kept m.cells e) (memory_kept r m e).cells.tags ≡ m.cells.tags
  tags_back =
      cells_back_lem cell_tag (λ t b. t) cell_tag_of m.cells.tags (block e.count e.first.tag e.second.tag) s.tags
      (length_block e.count e.first.tag e.second.tag)
      (picked_tags (part e.at e.count m.cells.tags) (part e.at e.count m.cells.bits) (old_tags ∙ sym old_bits))

  history_back : drop r.used m.history ≡ replicate (r.h - r.used) 0 → splice (memory_kept r m e).history r.used (replicate (e.count + 1) 0) ≡ m.history
  history_back blank =
      zeros_top m.history r.used e.count (cells_kept m.cells e) made (length_kept m e fits_tags fits_bits) room_history
      (ap (take (e.count + 1)) blank ∙ take_zeros (e.count + 1) (r.h - r.used) (omega arith))

  shows_is : shows_at p (step_pc (top_place (registers_kept r e) (memory_kept r m e))) ≡ is_shown e.shows
  shows_is = ap (shows_at p) pc_is ∙ shown

  -- a byte that it appended is there to be dropped
  drops_kept : can_drop p (registers_kept r e) (memory_kept r m e) ≡ true
  drops_kept = ap (λ (b : Bool). not b || ltb 0 (written_after e.shows r.written)) shows_is ∙ drops e.shows r.written

  undone_kept : r.halt ≡ 0 → Blank r m → undone p (registers_kept r e) (memory_kept r m e) ≡ record { answer = Next r; memory = m }
  undone_kept running blank =
      (λ i. undone_at (pc_is i) (sp_is i) (fbr_is i) (count_is i) (shows_is i) (registers_kept r e) (memory_kept r m e))
      ∙ (λ i. record {
        answer =
            Next
            (record {
              n = r.n;
              h = r.h;
              pc = r.pc;
              sp = r.sp;
              fbr = r.fbr;
              halt = sym running i;
              used = from_is i;
              kept = one_less i;
              written = written_back_lem m.output r.written e.shows i;
            });
        memory = record {
          cells = record {
            bits = (ap (λ (l : List ℕ). restored cell_bits l (memory_kept r m e).cells.bits) cells_are ∙ bits_back) i;
            tags = (ap (λ (l : List ℕ). restored cell_tag l (memory_kept r m e).cells.tags) cells_are ∙ tags_back) i;
          };
          history = (ap (λ (k : ℕ). splice (memory_kept r m e).history k (replicate (e.count + 1) 0)) from_is ∙ history_back blank.history) i;
          output = output_back_lem m.output r.written e.shows panel blank.output i;
        };
      })

  back_kept : r.halt ≡ 0 → Blank r m → plain_back p (registers_kept r e) (memory_kept r m e) ≡ record { answer = Next r; memory = m }
  unfolding plain_back
  back_kept running blank = rw (ne_eqb (r.used + (e.count + 1)) 0 (λ z. omega (arith, z)), formed_kept, drops_kept) (undone_kept running blank)

-- ---- with a history, a record is kept
module _ (r : Registers) (e : Effect) (some : 0 < r.h) where
  keeps_is : keeps r ≡ true
  keeps_is = lt-ltb 0 r.h some

  registers_kept_lem : registers_of r e ≡ registers_kept r e
  registers_kept_lem = rw keeps_is refl

  memory_kept_lem : (m : Memory) → memory_of r m e ≡ memory_kept r m e
  memory_kept_lem m = rw keeps_is refl

  room_kept : r.used ≤ r.h → room_for r e ≡ true → r.used + (e.count + 1) ≤ r.h
  room_kept low q =
      omega (arith, leb-true (e.count + 1) (r.h - r.used) (subst (λ (b : Bool). room_in b (r.h - r.used) (e.count + 1) ≡ true) keeps_is q))

-- a step-back undoes an accepted step exactly
pub inverse : (p : Program) (r : Registers) (m : Memory) (e : Effect) → sound p r m ≡ true → Narrow m → Blank r m → 0 < r.h
    → judged p r m.cells (length m.output) ≡ Ok e → back p (registers_of r e) (memory_of r m e) ≡ record { answer = Next r; memory = m }
unfolding back
inverse p r m e h w blank some q =
    let s : Sound p r m = sound_facts p r m h in
    let g : Going p r m e = judged_going p r m e q in
    let f : Fair p r e = fair_judged p r m e h q in
    ap (λ (b : Bool). cond b (plain_back p (registers_of r e) (memory_of r m e)) (unchanged (memory_of r m e) Broken)) (sound_judged p r m e h q)
    ∙ ap₂ (plain_back p) (registers_kept_lem r e some) (memory_kept_lem r e some m)
    ∙ back_kept p r m e s w (going_below p r m e s g) f.fits (shows_at_lem p r m e s g) g.panel (room_kept r e some s.used g.room) g.running blank

-- ---- what is not used is zero again
module _ (u n h : ℕ) (l added : List ℕ) (low : u ≤ h) (ll : length l ≡ h) (la : length added ≡ n) (blank : drop u l ≡ replicate (h - u) 0) where
  blank_after : (b : Bool) → room_in b (h - u) n ≡ true → drop (grown b u n) (history_after b l u added) ≡ replicate (h - grown b u n) 0
  blank_after true q =
      let room : n ≤ h - u = leb-true n (h - u) q in
      let left : h - u - n ≡ h - (u + n) = omega arith in
      rest_splice l u added (omega arith) n la ∙ sym (drop-drop n u l) ∙ ap (drop n) blank ∙ drop_zeros n (h - u)
      ∙ ap (λ (k : ℕ). replicate k 0) left
  blank_after false q = blank

pub blank_judged : (p : Program) (r : Registers) (m : Memory) (e : Effect) → sound p r m ≡ true → Blank r m → judged p r m.cells (length m.output) ≡ Ok e
    → Blank (registers_of r e) (memory_of r m e)
blank_judged p r m e h blank q =
    let s : Sound p r m = sound_facts p r m h in
    let f : Fair p r e = fair_judged p r m e h q in
    let g : Going p r m e = judged_going p r m e q in
    let same = output_length m.output r.written e.shows in
    record {
      history =
          blank_after r.used (e.count + 1) r.h m.history (record_of r m.cells e) s.used s.history
          (length_record m e (omega (arith, f.fits, s.tags)) (omega (arith, f.fits, s.bits)) r) blank.history (keeps r) g.room;
      output =
          blank_output m.output r.written e.shows g.panel blank.output
          ∙ ap (λ (n : ℕ). replicate (n - written_after e.shows r.written) 0) (sym same);
    }
