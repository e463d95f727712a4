-- The record that an accepted step makes is well formed: its cells are sound ones of 32 bits, and its step place says how many they are. Assumes nothing.
use Prim.Native.Nat.{ℕ, zero, suc, ◌+◌, ◌-◌, ◌^◌, ◌≤◌, ◌<◌, zero-le}
use mathlib.Core.Path.{◌≡◌, refl, sym, ap, ap₂, ◌∙◌}
use mathlib.Core.Bool.{true, ◌&&◌}
use mathlib.Core.List.{List, [], ◌∷◌, ◌++◌}
use native.Mathlib.Omega.{arith}
use lib.Dec.{lit<}
use lib.ListN.{length, get_or, drop, length-drop}
use borrow.Author.Tests.{eq-eqb, lt-ltb, le-leb}
use Rattle.rules.specs.Lists.{part}
use Rattle.rules.specs.Sizes.{max_cells}
use Rattle.rules.specs.Places.{cell_place, step_place, mark, cell_address, cell_tag, cell_bits, cell_zeros, step_pc, step_sp, step_fbr, step_count, step_zeros}
use Rattle.rules.specs.Table.{Program}
use Rattle.rules.specs.State.{Memory, sound_cell}
use Rattle.rules.specs.Commit.{cell_places, cells_kept, record_of}
use Rattle.rules.specs.Records.{formed_cell, formed_cells, formed_step}
use Rattle.rules.specs.declared.Registers.{Registers}
use Rattle.rules.specs.declared.Effect.{Effect}
use Rattle.rules.proofs.Places.{cell_address_of, cell_tag_of, cell_bits_of, cell_mark_of, cell_zeros_of, step_pc_of, step_sp_of, step_fbr_of, step_count_of, step_mark_of, step_zeros_of}
use Rattle.rules.proofs.Splice.{length_part}
use Rattle.rules.proofs.Fair.{Sound, Narrow}
use Rattle.rules.proofs.Table.{table_short}
use Rattle.rules.proofs.Sound.{cell_sound, Each, each_take, each_drop, length_kept}

-- ---- cells that a place can keep: sound ones of 32 bits

pub record Keepable (count t b : ℕ) : Type 0 where
  pub tag : t < 2 ^ 3
  pub bits : b < 2 ^ 32
  pub sound : sound_cell count t b ≡ true

keepable_zero : (count : ℕ) → Keepable count 0 0
keepable_zero count = record { tag = lit< tt; bits = lit< tt; sound = refl }

pub keepable : (p : Program) (r : Registers) (m : Memory) → Sound p r m → Narrow m → (i n : ℕ)
    → Each (Keepable p.count) (part i n m.cells.tags) (part i n m.cells.bits)
keepable p r m s w i n =
    let even : length m.cells.tags ≡ length m.cells.bits = s.tags ∙ sym s.bits in
    each_take (Keepable p.count) (keepable_zero p.count) n (drop i m.cells.tags) (drop i m.cells.bits)
    (length-drop i m.cells.tags ∙ ap (λ (k : ℕ). k - i) even ∙ sym (length-drop i m.cells.bits))
    (each_drop (Keepable p.count) (keepable_zero p.count) i m.cells.tags m.cells.bits
    (λ k.
    record {
      tag = omega (arith, (s.cells k).tag);
      bits = w k;
      sound = cell_sound p.count (record { bits = get_or m.cells.bits k 0; tag = get_or m.cells.tags k 0 }) (s.cells k);
    }))

-- ---- the places of a record, one by one

step_formed : (n count below q : ℕ) → mark q ≡ 1 → step_zeros q ≡ 0 → step_pc q < count → step_sp q < n → step_fbr q < n → step_count q ≤ below
    → formed_step n count below q ≡ true
step_formed n count below q h1 h2 h3 h4 h5 h6 =
    simp (eq-eqb _ _ h1, eq-eqb _ _ h2, lt-ltb _ _ h3, lt-ltb _ _ h4, lt-ltb _ _ h5, le-leb _ _ h6)

cell_formed : (n count low q : ℕ) → mark q ≡ 0 → cell_zeros q ≡ 0 → low ≤ cell_address q → cell_address q < n
    → sound_cell count (cell_tag q) (cell_bits q) ≡ true → formed_cell n count low q ≡ true
cell_formed n count low q h1 h2 h3 h4 h5 =
    simp (eq-eqb _ _ h1, eq-eqb _ _ h2, le-leb _ _ h3, lt-ltb _ _ h4, h5)

cells_formed : (n count low a : ℕ) (ts bs : List ℕ) → low ≤ a → a + length bs ≤ n → n ≤ max_cells → Each (Keepable count) ts bs
    → formed_cells n count low (cell_places a ts bs) ≡ true
cells_formed n count low a [] bs hl hn few c = refl
cells_formed n count low a (t ∷ ts) [] hl hn few c = refl
cells_formed n count low a (t ∷ ts) (b ∷ bs) hl hn few c =
    let ha : a < 2 ^ 10 = omega arith in
    let ht : t < 2 ^ 3 = (c zero).tag in
    let hb : b < 2 ^ 32 = (c zero).bits in
    let ea : cell_address (cell_place a t b) ≡ a = cell_address_of a t b ha ht hb in
    ap₂ ◌&&◌
    (cell_formed n count low (cell_place a t b) (cell_mark_of a t b) (cell_zeros_of a t b ha ht hb) (omega arith) (omega arith)
    (ap₂ (sound_cell count) (cell_tag_of a t b ha ht hb) (cell_bits_of a t b ha ht hb) ∙ (c zero).sound))
    (cells_formed n count (cell_address (cell_place a t b) + 1) (suc a) ts bs (omega arith) (omega arith) few (λ k. c (suc k)))

-- ---- a well-formed record: cell places, and a step place that says how many

pub record WellFormed (n count : ℕ) (cells : List ℕ) (place : ℕ) : Type 0 where
  pub says : step_count place ≡ length cells
  pub step : (below : ℕ) → length cells ≤ below → formed_step n count below place ≡ true
  pub restores : formed_cells n count 0 cells ≡ true

pub record Formed (n count : ℕ) (l : List ℕ) : Type 0 where
  pub cells : List ℕ
  pub place : ℕ
  pub is : l ≡ cells ++ (place ∷ [])
  pub well : WellFormed n count cells place

-- the one that an accepted step makes
module _ (p : Program) (r : Registers) (m : Memory) (e : Effect) (s : Sound p r m) (w : Narrow m) (below : r.pc < p.count) (fits : e.at + e.count ≤ r.n) where
  pub places_well : WellFormed r.n p.count (cells_kept m.cells e) (step_place r.pc r.sp r.fbr e.count)
  places_well =
      let hp : r.pc < 2 ^ 11 = omega (arith, table_short p s.table) in
      let hs : r.sp < 2 ^ 10 = omega (arith, s.sp, s.few) in
      let hf : r.fbr < 2 ^ 10 = omega (arith, s.fbr, s.few) in
      let hc : e.count < 2 ^ 10 = omega (arith, s.few) in
      let made : ℕ = step_place r.pc r.sp r.fbr e.count in
      let ft : e.at + e.count ≤ length m.cells.tags = omega (arith, s.tags) in
      let fb : e.at + e.count ≤ length m.cells.bits = omega (arith, s.bits) in
      let long : length (cells_kept m.cells e) ≡ e.count = length_kept m e ft fb in
      let count_is : step_count made ≡ e.count = step_count_of r.pc r.sp r.fbr e.count hp hs hf hc in
      let pc_is : step_pc made ≡ r.pc = step_pc_of r.pc r.sp r.fbr e.count hp hs hf hc in
      let sp_is : step_sp made ≡ r.sp = step_sp_of r.pc r.sp r.fbr e.count hp hs hf hc in
      let fbr_is : step_fbr made ≡ r.fbr = step_fbr_of r.pc r.sp r.fbr e.count hp hs hf hc in
      let old : length (part e.at e.count m.cells.bits) ≡ e.count = length_part e.at e.count m.cells.bits fb in
      record {
        says = count_is ∙ sym long;
        step =
            λ u lies.
            step_formed r.n p.count u made (step_mark_of r.pc r.sp r.fbr e.count)
            (step_zeros_of r.pc r.sp r.fbr e.count hp hs hf hc)
            (omega (arith, pc_is)) (omega (arith, sp_is, s.sp)) (omega (arith, fbr_is, s.fbr)) (omega (arith, count_is, long, lies));
        restores =
            cells_formed r.n p.count 0 e.at (part e.at e.count m.cells.tags) (part e.at e.count m.cells.bits) zero-le
            (omega (arith, old)) s.few (keepable p r m s w e.at e.count);
      }

  pub record_formed : Formed r.n p.count (record_of r m.cells e)
  record_formed =
      record { cells = cells_kept m.cells e; place = step_place r.pc r.sp r.fbr e.count; is = refl; well = places_well }
