-- What an accepted step decides is fair: every instruction's effect lies within N and the program, in a sound state. Assumes nothing.
use Rattle.std.specs.Prelude.{Ok, Err}
use Prim.Native.Nat.{ℕ, zero, suc, ◌+◌, ◌-◌, ◌≤◌, ◌<◌, zero-le}
use mathlib.Core.Path.{◌≡◌, refl, sym, ◌∙◌, subst}
use mathlib.Core.Bool.{Bool, true, false, not, ◌&&◌, ◌||◌, false≢true}
use mathlib.Core.Logic.{⊎_elim}
use mathlib.Core.List.{List, [], ◌∷◌}
use native.Mathlib.Nat.{eq-or-lt_of_le}
use native.Mathlib.Omega.{arith}
use lib.Dec.{leb, ltb, eqb, lit≤}
use lib.IntN.{ℤ, pos, negsuc, ◌+ℤ◌}
use lib.ListN.{length, get_or}
use borrow.Author.Tests.{ltb-true, leb-true, eqb-true, eqb-false, eq-eqb, not-true}
use Rattle.rules.specs.Tags.{INT, FLOAT, MA, PA, CH, int, float, ma, pa, ch, has}
use Rattle.rules.specs.Sizes.{max_character}
use Rattle.rules.specs.Words.{signed, holds}
use Rattle.rules.specs.Instructions.{Row, codes, rows, kind_of, action_of}
use Rattle.rules.specs.Table.{Program, code_of, operand_of, within, sound_place}
use Rattle.rules.specs.Cells.{Cells, cell_at}
use Rattle.rules.specs.State.{Memory, sound_cell, sound_cells, state_tests, sound}
use Rattle.rules.specs.Decide.{Action, demand, enough, on_values, decide}
use Rattle.rules.specs.Effects.{memory_address, program_address, following, result, swapped, stored, moved, framed, linked, jumped, called, shown, halted}
use Rattle.rules.specs.Actions.{inside, frame}
use Rattle.rules.specs.Step.{decide_at, fitting, judged}
use Rattle.rules.specs.declared.Cell.{Cell}
use Rattle.rules.specs.declared.MemoryAddress.{MemoryAddress}
use Rattle.rules.specs.declared.ProgramAddress.{ProgramAddress}
use Rattle.rules.specs.declared.Registers.{Registers}
use Rattle.rules.specs.declared.Effect.{Effect}
use Rattle.rules.specs.Answers.{Decision}
use Rattle.rules.specs.declared.MachineRefusal.{MachineRefusal}
use Rattle.rules.proofs.Tests.{either, and_left, and_right, implies_true, every_at}
use Rattle.rules.proofs.Table.{place_sound}
use Rattle.rules.proofs.Rows.{EachRow, end, ◌then◌, at_code}
use Rattle.rules.proofs.Fair.{FairCell, FairCells, FairByte, Sound, Going, Fair}

-- ---- the tests of a sound state, as facts

-- a cell from its test
pub fair_cell : (count t b : ℕ) → sound_cell count t b ≡ true → FairCell count (record { bits = b; tag = t })
fair_cell count t b h =
    let two = and_right (leb t CH) _ h in
    record {
      tag = leb-true t CH (and_left (leb t CH) _ h);
      pa = λ q. leb-true b count (implies_true (eqb t PA) (leb b count) (and_left (not (eqb t PA) || leb b count) _ two) (eq-eqb t PA q));
      ch = λ q. leb-true b max_character (implies_true (eqb t CH) (leb b max_character) (and_right (not (eqb t PA) || leb b count) _ two) (eq-eqb t CH q));
    }

-- INT, FLOAT and MA hold any bits
pub fair_plain : (count t b : ℕ) → t ≤ 2 → FairCell count (record { bits = b; tag = t })
fair_plain count t b h =
    record { tag = omega arith; pa = λ q. absurd (let z : ⊥ = omega arith in z); ch = λ q. absurd (let z : ⊥ = omega arith in z) }

-- a PA at most the length, and a CH at most 127
pub fair_pa : (count b : ℕ) → b ≤ count → FairCell count (pa b)
fair_pa count b h = record { tag = lit≤ tt; pa = λ q. h; ch = λ q. absurd (let z : ⊥ = omega (arith, q) in z) }

pub fair_ch : (count b : ℕ) → b ≤ max_character → FairCell count (ch b)
fair_ch count b h = record { tag = lit≤ tt; pa = λ q. absurd (let z : ⊥ = omega (arith, q) in z); ch = λ q. h }

pub fair_cells : (count : ℕ) (ts bs : List ℕ) → length ts ≡ length bs → sound_cells count ts bs ≡ true → FairCells count ts bs
fair_cells count [] [] e h k = fair_plain count 0 0 zero-le
fair_cells count [] (b ∷ bs) e h k = absurd (let z : ⊥ = omega (arith, e) in z)
fair_cells count (t ∷ ts) [] e h k = absurd (let z : ⊥ = omega (arith, e) in z)
fair_cells count (t ∷ ts) (b ∷ bs) e h zero = fair_cell count t b (and_left (sound_cell count t b) (sound_cells count ts bs) h)
fair_cells count (t ∷ ts) (b ∷ bs) e h (suc k) =
    fair_cells count ts bs (omega (arith, e)) (and_right (sound_cell count t b) (sound_cells count ts bs) h) k

pub sound_facts : (p : Program) (r : Registers) (m : Memory) → sound p r m ≡ true → Sound p r m
unfolding sound
sound_facts p r m h =
    let at : (k : ℕ) → get_or (state_tests p r m) k true ≡ true = λ k. every_at (state_tests p r m) k h in
    let bits : length m.cells.bits ≡ r.n = eqb-true _ _ (at 4) in
    let tags : length m.cells.tags ≡ r.n = eqb-true _ _ (at 5) in
    record {
      table = at 0;
      some = leb-true _ _ (at 1);
      few = leb-true _ _ (at 2);
      short = leb-true _ _ (at 3);
      bits = bits;
      tags = tags;
      history = eqb-true _ _ (at 6);
      sp = ltb-true _ _ (at 7);
      fbr = ltb-true _ _ (at 8);
      pc = leb-true _ _ (at 9);
      halt = leb-true _ _ (at 10);
      used = leb-true _ _ (at 11);
      kept = leb-true _ _ (at 12);
      none = λ q. eqb-true _ _ (implies_true _ _ (at 13) (eq-eqb _ _ q));
      shown = leb-true _ _ (at 14);
      written = leb-true _ _ (at 15);
      cells = fair_cells p.count m.cells.tags m.cells.bits (tags ∙ sym bits) (at 16);
    }

-- ---- a decision that does something passed its demands

pub does_is : {x e : Effect} → ◌≡◌ {A = Decision} (Ok x) (Ok e) → x ≡ e
does_is q = cc

pub refuses_not : {A : Type 0} (x : MachineRefusal) (e : Effect) → ◌≡◌ {A = Decision} (Err x) (Ok e) → A
refuses_not x e q = let z : ◌≡◌ {A = ℕ} 0 1 = cc in absurd (let y : ⊥ = omega arith in y)

pub demand_does : (b : Bool) (x : MachineRefusal) (d : Decision) (e : Effect) → demand b x d ≡ Ok e → (b ≡ true) × (d ≡ Ok e)
demand_does true x d e q = (refl, q)
demand_does false x d e q = refuses_not x e q

-- what an action asked, where it does something
pub record Passed (r : Registers) (n : ℕ) (vb vt : Cell) (a : Action) : Type 0 where
  pub needs : enough (a.needs n) r.sp ≡ true
  pub takes : a.takes vb.tag vt.tag ≡ true
  pub results : a.results vb.bits vt.bits ≡ true
  pub reaches : a.reaches r n vb vt ≡ true

pub values_does : (r : Registers) (c : Cells) (n : ℕ) (vb vt : Cell) (a : Action) (e : Effect) → on_values r c n vb vt a ≡ Ok e
    → Passed r n vb vt a × (a.effect r c n vb vt ≡ e)
values_does r c n vb vt a e q =
    let needs = demand_does _ _ _ e q in
    let takes = demand_does _ _ _ e needs.1 in
    let results = demand_does _ _ _ e takes.1 in
    let reaches = demand_does _ _ _ e results.1 in
    (record { needs = needs.0; takes = takes.0; results = results.0; reaches = reaches.0 }, does_is reaches.1)

-- what is done with a test asked of it passed it, and is what was decided before
pub fitting_does : (test : Effect → Bool) (x : MachineRefusal) (d : Decision) (e : Effect) → fitting test x d ≡ Ok e → (test e ≡ true) × (d ≡ Ok e)
fitting_does test x (Ok f) e q =
    let a = demand_does (test f) x (Ok f) e q in
    (subst (λ (y : Effect). test y ≡ true) (does_is a.1) a.0, a.1)
fitting_does test x (Err y) e q = refuses_not y e q

pub judged_going : (p : Program) (r : Registers) (m : Memory) (e : Effect) → judged p r m.cells (length m.output) ≡ Ok e → Going p r m e
unfolding judged
judged_going p r m e q =
    let a = demand_does _ _ _ e q in
    let b = demand_does _ _ _ e a.1 in
    let kept = fitting_does _ _ _ e b.1 in
    let shown = fitting_does _ _ _ e kept.1 in
    let stacked = fitting_does _ _ _ e shown.1 in
    record {
      running = eqb-true _ _ a.0;
      inside = eqb-false _ _ (not-true _ b.0);
      sp = ltb-true _ _ stacked.0;
      panel = shown.0;
      room = kept.0;
      decides = stacked.1;
    }

-- ---- the operand at a place that can be assembled is within its range

place_within : (count place : ℕ) → sound_place count place ≡ true → within (kind_of (code_of place)) count (operand_of place) ≡ true
unfolding sound_place
place_within count place h = and_right (ltb (code_of place) codes) (within (kind_of (code_of place)) count (operand_of place)) h

-- ---- the effects, each fair where its new SP is below N
module _ (p : Program) (r : Registers) (m : Memory) (s : Sound p r m) (going : r.pc < p.count) where
  -- an instruction that goes on to the next: cells within N, FBR below N, and what it writes may be held
  fair_next : (e : Effect) → e.pc ≡ r.pc + 1 → e.halt ≡ 0 → e.at + e.count ≤ r.n → e.fbr < r.n → FairCell p.count e.first
      → FairCell p.count e.second → FairByte e.shows → e.sp < r.n → Fair p r e
  fair_next e hp hh hf hb h1 h2 hy hs =
      record { fits = hf; pc = omega arith; sp = hs; fbr = hb; halt = omega arith; first = h1; second = h2; shows = hy }

  zeros : FairCell p.count (int 0)
  zeros = fair_plain p.count 0 0 zero-le

  fair_result : (k : ℕ) (c : Cell) → FairCell p.count c → r.sp - k + 1 < r.n → Fair p r (result r k c)
  fair_result k c h hs = fair_next (result r k c) refl refl (omega arith) s.fbr h zeros tt hs

  fair_swapped : (vb vt : Cell) → FairCell p.count vb → FairCell p.count vt → 2 ≤ r.sp → Fair p r (swapped r vb vt)
  fair_swapped vb vt hb ht h =
      fair_next (swapped r vb vt) refl refl (omega (arith, s.sp)) s.fbr ht hb tt s.sp

  fair_stored : (k : ℕ) (a : MemoryAddress) (c : Cell) → FairCell p.count c → a.0 < r.n → r.sp - k < r.n → Fair p r (stored r k a c)
  fair_stored k a c h ha hs = fair_next (stored r k a c) refl refl (omega arith) s.fbr h zeros tt hs

  fair_moved : (k : ℕ) (a : MemoryAddress) → k ≤ r.sp → a.0 < r.n → Fair p r (moved r k a)
  fair_moved k a hk hs = fair_next (moved r k a) refl refl (omega (arith, s.sp)) s.fbr zeros zeros tt hs

  fair_framed : (a : MemoryAddress) → a.0 < r.n → r.sp - 1 < r.n → Fair p r (framed r a)
  fair_framed a h hs = fair_next (framed r a) refl refl zero-le h zeros zeros tt hs

  fair_linked : r.sp + 1 < r.n → Fair p r (linked r)
  fair_linked hs = fair_next (linked r) refl refl (omega arith) s.sp (fair_plain p.count MA r.fbr (lit≤ tt)) zeros tt hs

  fair_jumped : (k : ℕ) (a : ProgramAddress) → a.0 ≤ p.count → r.sp - k < r.n → Fair p r (jumped r k a)
  fair_jumped k a h hs = record { fits = zero-le; pc = h; sp = hs; fbr = s.fbr; halt = zero-le; first = zeros; second = zeros; shows = tt }

  fair_called : (k : ℕ) (a : ProgramAddress) → a.0 ≤ p.count → r.sp - k + 1 < r.n → Fair p r (called r k a)
  fair_called k a h hs =
      record {
        fits = omega arith;
        pc = h;
        sp = hs;
        fbr = s.fbr;
        halt = zero-le;
        first = fair_pa p.count (following r).0 (omega arith);
        second = zeros;
        shows = tt;
      }

  fair_shown : (b : ℕ) → b ≤ max_character → r.sp - 1 < r.n → Fair p r (shown r b)
  fair_shown b h hs = fair_next (shown r b) refl refl zero-le s.fbr zeros zeros h hs

  fair_halted : Fair p r (halted r)
  fair_halted =
      record { fits = zero-le; pc = s.pc; sp = s.sp; fbr = s.fbr; halt = lit≤ tt; first = zeros; second = zeros; shows = tt }

-- ---- what the demands say of their cells and addresses

inside_below : (z : ℤ) (limit : ℕ) → inside z limit ≡ true → (memory_address z).0 < limit
inside_below (pos a) limit h = ltb-true a limit h
inside_below (negsuc a) limit h = absurd (false≢true h)

-- "Vb MA with Vt INT" or two INTs: the sum has the tag of Vb
summed : (count v : ℕ) (vb vt : Cell) → (has INT vt && (has INT vb || has MA vb)) ≡ true → FairCell count (record { bits = v; tag = vb.tag })
summed count v vb vt h =
    fair_plain count vb.tag v (go (has INT vb) refl (and_right (has INT vt) (has INT vb || has MA vb) h))
  where
    go : (x : Bool) → has INT vb ≡ x → (x || has MA vb) ≡ true → vb.tag ≤ 2
    go true q h = omega (arith, eqb-true vb.tag INT q)
    go false q h = omega (arith, eqb-true vb.tag MA h)

-- ---- each row
module _ (p : Program) (r : Registers) (m : Memory) (s : Sound p r m) (going : r.pc < p.count) (n : ℕ) (vb vt : Cell)
    (hb : FairCell p.count vb) (ht : FairCell p.count vt) where
  -- an effect whose SP is below N is fair
  abbrev FairBelow : Effect → Type 0
  FairBelow e = e.sp < r.n → Fair p r e

  -- a row's effect is, where it passed what its action asks, and its operand is within its range
  abbrev FairRow : Row → Type 0
  FairRow w =
      within w.kind p.count n ≡ true → Passed r n vb vt w.action → FairBelow (w.action.effect r m.cells n vb vt)

  -- effects that are fair whatever was asked: a result of INT, FLOAT or MA, and a copy
  module _ {A B : Type 0} (k : ℕ) where
    tagged : (t : ℕ) → t ≤ 2 → {b : ℕ} → A → B → FairBelow (result r k (record { bits = b; tag = t }))
    tagged t h {b} a q = fair_result p r m s going k (record { bits = b; tag = t }) (fair_plain p.count t b h)

    of_int : {b : ℕ} → A → B → FairBelow (result r k (int b))
    of_int a q = tagged INT zero-le a q

    of_float : {b : ℕ} → A → B → FairBelow (result r k (float b))
    of_float a q = tagged FLOAT (lit≤ tt) a q

    of_ma : {b : ℕ} → A → B → FairBelow (result r k (ma b))
    of_ma a q = tagged MA (lit≤ tt) a q

    copy : (a : ℕ) → A → B → FairBelow (result r k (cell_at m.cells (record { 0 = a })))
    copy a x q = fair_result p r m s going k _ (s.cells a)

  -- a store k below the top
  stores : (k : ℕ) (z : ℤ) → inside z (r.sp - k) ≡ true → FairBelow (stored r k (memory_address z) vt)
  stores k z i = fair_stored p r m s going k (memory_address z) vt ht (omega (arith, inside_below z (r.sp - k) i, s.sp))

  jumps : (k : ℕ) (a : ProgramAddress) → a.0 ≤ p.count → FairBelow (jumped r k a)
  jumps k a h = fair_jumped p r m s going k a h

  calls : (k : ℕ) (a : ProgramAddress) → a.0 ≤ p.count → FairBelow (called r k a)
  calls k a h = fair_called p r m s going k a h

  next : (following r).0 ≤ p.count
  next = omega arith

  -- what is left of SP after popping one value, and none
  lower : r.sp - 1 ≤ r.sp
  lower = omega arith

  whole : r.sp ≤ r.sp
  whole = omega arith

  -- "JUMPIND and JSRIND take PA."
  returning : has PA vt ≡ true → vt.bits ≤ p.count
  returning h = ht.pa (eqb-true vt.tag PA h)

  -- a target
  aims : leb n p.count ≡ true → n ≤ p.count
  aims h = leb-true n p.count h

  -- "which pops a CH"
  character : has CH vt ≡ true → vt.bits ≤ max_character
  character h = ht.ch (eqb-true vt.tag CH h)

  fair_rows : EachRow FairRow rows
  unfolding rows
  fair_rows =
      -- STOP, PUSHIMM, PUSHIMMF, DUP, SWAP
      (λ a q l. fair_halted p r m s going) then of_int 0 then of_float 0 then (λ a q. fair_result p r m s going 0 vt ht)
      then (λ a q l. fair_swapped p r m s going vb vt hb ht (leb-true 2 r.sp q.needs))
      -- ADD, SUB
      then (λ a q. fair_result p r m s going 2 _ (summed p.count _ vb vt q.takes))
      then (λ a q. fair_result p r m s going 2 _ (summed p.count _ vb vt q.takes))
      -- TIMES, DIV, MOD; ADDF to DIVF; AND to XOR, NOT
      then of_int 2 then of_int 2 then of_int 2 then of_float 2 then of_float 2 then of_float 2 then of_float 2
      then of_int 2 then of_int 2 then of_int 2 then of_int 2 then of_int 2 then of_int 1
      -- BITAND to BITXOR, BITNOT; CMP, CMPF, GREATER, LESS, EQUAL; ISNIL, ISPOS, ISNEG
      then of_int 2 then of_int 2 then of_int 2 then of_int 2 then of_int 2 then of_int 1
      then of_int 2 then of_int 2 then of_int 2 then of_int 2 then of_int 2 then of_int 1 then of_int 1 then of_int 1
      -- PUSHSP, POPSP, PUSHFBR, POPFBR, LINK, ADDSP
      then of_ma 0 then (λ a q. fair_moved p r m s going (r.sp - 1) (memory_address (signed vt.bits)) lower)
      then of_ma 0 then (λ a q. fair_framed p r m s going (memory_address (signed vt.bits)) (inside_below (signed vt.bits) r.n q.reaches))
      then (λ a q. fair_linked p r m s going)
      then (λ a q. fair_moved p r m s going r.sp (memory_address (pos r.sp +ℤ signed n)) whole)
      -- PUSHIND, STOREIND, PUSHOFF, STOREOFF
      then copy 1 _ then (λ a q. stores 2 (signed vb.bits) q.reaches) then copy 0 _ then (λ a q. stores 1 (frame r n) q.reaches)
      -- JUMP, JUMPC, JUMPIND, JSR, JSRIND
      then (λ a q. jumps 0 (program_address n) (aims a))
      then (λ a q. jumps 1 _ (either (λ (x : ProgramAddress). x.0 ≤ p.count) (holds vt.bits) (aims a) next))
      then (λ a q. jumps 1 (program_address vt.bits) (returning q.takes))
      then (λ a q. calls 0 (program_address n) (aims a))
      then (λ a q. calls 1 (program_address vt.bits) (returning q.takes))
      -- PUSHIMMPA, ITOF, FTOI
      then (λ a q. fair_result p r m s going 0 (pa n) (fair_pa p.count n (aims a)))
      then of_float 1 then of_int 1
      -- PUSHIMMCH, WRITECH
      then (λ a q. fair_result p r m s going 0 (ch n) (fair_ch p.count n (leb-true n max_character a)))
      then (λ a q. fair_shown p r m s going vt.bits (character q.takes))
      then end

-- PC is below the program's length where a step is accepted
pub going_below : (p : Program) (r : Registers) (m : Memory) (e : Effect) → Sound p r m → Going p r m e → r.pc < p.count
going_below p r m e s g = ⊎_elim (λ q. absurd (g.inside q)) (λ h. h) (eq-or-lt_of_le s.pc)

-- the instruction at a place that can be assembled
pub fair_place : (p : Program) (r : Registers) (m : Memory) (s : Sound p r m) (going : r.pc < p.count) (place : ℕ) (e : Effect)
    → sound_place p.count place ≡ true → decide_at r m.cells place ≡ Ok e → e.sp < r.n → Fair p r e
unfolding decide_at decide kind_of action_of
fair_place p r m s going place e h q l =
    let vb = cell_at m.cells (record { 0 = r.sp - 2 }) in
    let vt = cell_at m.cells (record { 0 = r.sp - 1 }) in
    let d = values_does r m.cells (operand_of place) vb vt (action_of (code_of place)) e q in
    let hb = s.cells (r.sp - 2) in
    let ht = s.cells (r.sp - 1) in
    subst (λ (x : Effect). x.sp < r.n → Fair p r x) d.1
    (at_code (FairRow p r m s going (operand_of place) vb vt hb ht) (fair_rows p r m s going (operand_of place) vb vt hb ht) (code_of place)
    (place_within p.count place h) d.0) l

-- every instruction's effect is fair
pub fair_judged : (p : Program) (r : Registers) (m : Memory) (e : Effect) → sound p r m ≡ true → judged p r m.cells (length m.output) ≡ Ok e → Fair p r e
fair_judged p r m e h q =
    let s : Sound p r m = sound_facts p r m h in
    let g : Going p r m e = judged_going p r m e q in
    let below : r.pc < p.count = going_below p r m e s g in
    fair_place p r m s below (get_or p.places r.pc 0) e (place_sound p s.table r.pc below) g.decides g.sp
