-- Well-formed records, one above the other, are what cutting them finds; so many step places are in use as there are records. Assumes nothing.
use Prim.Native.Nat.{ℕ, zero, suc, ◌+◌, ◌-◌, ◌≤◌, ◌<◌, zero-le}
use mathlib.Core.Path.{◌≡◌, refl, sym, ap, ap₂, ◌∙◌, subst}
use mathlib.Core.Bool.{Bool, true, false, ◌&&◌, cond}
use mathlib.Core.List.{List, [], ◌∷◌, ◌++◌, append_assoc, append-nil, map}
use native.Mathlib.Omega.{arith}
use lib.Dec.{eqb}
use lib.ListN.{length, get_or, take, drop, replicate, length-append, length-replicate, replicate-append-replicate}
use lib.Seq.{take_at, drop_at, get_or_at, take-suc, take-add}
use borrow.Author.Tests.{leb-true, ltb-true, eqb-true}
use Rattle.rules.specs.Lists.{part, splice}
use Rattle.rules.specs.Places.{cell_address, step_pc, step_count, step_places, mark}
use Rattle.rules.specs.Records.{HistoryRecord, record_at, cut_down, cell_tests, formed_cell, formed_cells, step_tests, formed_step, formed_record, formed_records, places_taken, whole_record, places_of}
use Rattle.rules.specs.Forget.{moved_down}
use Rattle.rules.proofs.Tests.{and_left, and_right, every_at}
use Rattle.rules.proofs.Splice.{splice_mid}
use Rattle.rules.proofs.Formed.{WellFormed, Formed}

-- ---- what a well-formed record tells

-- each of its cell places is well formed, with an address of at least some number
formed_each : (n count low : ℕ) (l : List ℕ) → formed_cells n count low l ≡ true → (k : ℕ) → k < length l
    → (least : ℕ) × (formed_cell n count least (get_or l k 0) ≡ true)
formed_each n count low [] h k kl = absurd (let z : ⊥ = omega arith in z)
formed_each n count low (q ∷ qs) h zero kl = (low, and_left (formed_cell n count low q) (formed_cells n count (cell_address q + 1) qs) h)
formed_each n count low (q ∷ qs) h (suc k) kl =
    formed_each n count (cell_address q + 1) qs (and_right (formed_cell n count low q) (formed_cells n count (cell_address q + 1) qs) h) k (omega arith)

-- a step place's cells lie within the places below it
pub count_within : (n count below q : ℕ) → formed_step n count below q ≡ true → step_count q ≤ below
count_within n count below q h = leb-true _ _ (every_at (step_tests n count below q) 5 h)

module _ (n count : ℕ) (w : HistoryRecord) (formed : formed_record n count w ≡ true) where
  step_formed : formed_step n count w.below w.place ≡ true
  step_formed = and_left (formed_step n count w.below w.place) (formed_cells n count 0 w.cells) formed

  cells_formed : formed_cells n count 0 w.cells ≡ true
  cells_formed = and_right (formed_step n count w.below w.place) (formed_cells n count 0 w.cells) formed

  pub step_marked : mark w.place ≡ 1
  step_marked = eqb-true _ _ (every_at (step_tests n count w.below w.place) 0 step_formed)

  -- its cells have no step place's mark, and their addresses lie below N
  pub cells_unmarked : (k : ℕ) → k < length w.cells → mark (get_or w.cells k 0) ≡ 0
  cells_unmarked k kl =
      let each = formed_each n count 0 w.cells cells_formed k kl in
      eqb-true _ _ (every_at (cell_tests n count each.0 (get_or w.cells k 0)) 0 each.1)

  pub old_pc_below : step_pc w.place < count
  old_pc_below = ltb-true _ _ (every_at (step_tests n count w.below w.place) 2 step_formed)

  pub cells_within : step_count w.place ≤ w.below
  cells_within = count_within n count w.below w.place step_formed

  pub addresses_below : (k : ℕ) → k < length w.cells → cell_address (get_or w.cells k 0) < n
  addresses_below k kl =
      let each = formed_each n count 0 w.cells cells_formed k kl in
      ltb-true _ _ (every_at (cell_tests n count each.0 (get_or w.cells k 0)) 3 each.1)

-- ---- records, each of them well formed

abbrev pub AllFormed : ℕ → ℕ → List (List ℕ) → Type 0
AllFormed n count [] = Unit {0}
AllFormed n count (l ∷ ls) = Formed n count l × AllFormed n count ls

pub formed_take : (n count i : ℕ) (ls : List (List ℕ)) → AllFormed n count ls → AllFormed n count (take i ls)
formed_take n count zero ls f = tt
formed_take n count (suc i) [] f = tt
formed_take n count (suc i) (l ∷ ls) f = (f.0, formed_take n count i ls f.1)

-- a record has one place at least
pub length_formed : (n count : ℕ) (l : List ℕ) (f : Formed n count l) → length l ≡ suc (length f.cells)
length_formed n count l f =
    ap length f.is ∙ length-append f.cells (f.place ∷ []) ∙ omega arith

pub fewer_than_places : (n count : ℕ) (ls : List (List ℕ)) → AllFormed n count ls → length ls ≤ length (places_of ls)
fewer_than_places n count [] f = zero-le
fewer_than_places n count (l ∷ ls) f =
    omega (arith, length-append (places_of ls) l, length_formed n count l f.0, fewer_than_places n count ls f.1)

-- ---- the oldest stand below the newest
pub places_split : (i : ℕ) (ls : List (List ℕ)) → places_of ls ≡ places_of (drop i ls) ++ places_of (take i ls)
places_split zero ls = sym (append-nil (places_of ls))
places_split (suc i) [] = refl
places_split (suc i) (l ∷ ls) = ap (λ (k : List ℕ). k ++ l) (places_split i ls) ∙ append_assoc (places_of (drop i ls)) (places_of (take i ls)) l

-- ---- places in use, and zeros behind them

-- one record more, written over the first of the zeros
pub more_places : (before added : List ℕ) (h : ℕ) → length (before ++ added) ≤ h
    → splice (before ++ replicate (h - length before) 0) (length before) added ≡ (before ++ added) ++ replicate (h - length (before ++ added)) 0
more_places before added h fits =
    ap (λ (j : ℕ). splice (before ++ replicate j 0) (length before) added) all
    ∙ ap (λ (z : List ℕ). splice (before ++ z) (length before) added) (sym (replicate-append-replicate (length added) (h - length (before ++ added)) 0))
    ∙ splice_mid before (replicate (length added) 0) (replicate (h - length (before ++ added)) 0) added (length before) refl (length-replicate (length added) 0)
    ∙ sym (append_assoc before added (replicate (h - length (before ++ added)) 0))
  where
    all : h - length before ≡ length added + (h - length (before ++ added))
    all = omega (arith, length-append before added, fits)

-- the oldest given up, and the others moved down
pub fewer_places : (oldest stay : List ℕ) (h : ℕ) → length (oldest ++ stay) ≤ h
    → moved_down (length oldest) (length (oldest ++ stay)) ((oldest ++ stay) ++ replicate (h - length (oldest ++ stay)) 0)
    ≡ stay ++ replicate (h - length stay) 0
fewer_places oldest stay h fits = moved (replicate (h - length (oldest ++ stay)) 0) refl
  where
    left : length (oldest ++ stay) - length oldest ≡ length stay
    left = omega (arith, length-append oldest stay)

    all : length oldest + (h - length (oldest ++ stay)) ≡ h - length stay
    all = omega (arith, length-append oldest stay, fits)

    moved : (zeros : List ℕ) → zeros ≡ replicate (h - length (oldest ++ stay)) 0
        → moved_down (length oldest) (length (oldest ++ stay)) ((oldest ++ stay) ++ zeros) ≡ stay ++ replicate (h - length stay) 0
    moved zeros e =
        ap₂ ◌++◌
        (ap (λ (k : ℕ). part (length oldest) k ((oldest ++ stay) ++ zeros)) left
        ∙ ap (part (length oldest) (length stay)) (append_assoc oldest stay zeros)
        ∙ ap (take (length stay)) (drop_at oldest (stay ++ zeros) (length oldest) refl)
        ∙ take_at stay zeros (length stay) refl)
        (ap (λ (l : List ℕ). replicate (length oldest) 0 ++ l) (drop_at (oldest ++ stay) zeros (length (oldest ++ stay)) refl ∙ e)
        ∙ replicate-append-replicate (length oldest) (h - length (oldest ++ stay)) 0
        ∙ ap (λ (k : ℕ). replicate k 0) all)

-- ---- the cut

-- the places of a record's cells are passed
cut_pass : (n v u : ℕ) (h : List ℕ) → u ≡ n + v → cut_down n u h ≡ cut_down 0 v h
unfolding cut_down
cut_pass zero v u h e = let same : u ≡ v = omega arith in ap (λ (k : ℕ). cut_down 0 k h) same
cut_pass (suc n) v zero h e = absurd (let z : ⊥ = omega arith in z)
cut_pass (suc n) v (suc i) h e = cut_pass n v i h (omega arith)

-- a loop's turn: the record on top, and those below it; and its end
pub cut_next : (i : ℕ) (h : List ℕ) → step_count (get_or h i 0) ≤ i → cut_down 0 (suc i) h ≡ record_at i h ∷ cut_down 0 (i - step_count (get_or h i 0)) h
unfolding cut_down
cut_next i h within =
    ap (λ (ws : List HistoryRecord). record_at i h ∷ ws)
    (cut_pass (step_count (get_or h i 0)) (i - step_count (get_or h i 0)) i h (omega (arith, within)))

pub cut_none : (h : List ℕ) → cut_down 0 0 h ≡ []
unfolding cut_down
cut_none h = refl

-- where all are well formed, they take all the places: so what is below some of the newest is what the others take
pub taken_from : (n count passing u : ℕ) (h : List ℕ) → passing ≤ u → formed_records n count (cut_down passing u h) ≡ true
    → passing + places_taken (cut_down passing u h) ≡ u
unfolding cut_down
taken_from n count passing zero h low f = omega arith
taken_from n count zero (suc i) h low f =
    let c : ℕ = step_count (get_or h i 0) in
    let below : Bool = formed_records n count (cut_down c i h) in
    let within : c ≤ i = cells_within n count (record_at i h) (and_left (formed_record n count (record_at i h)) below f) in
    let rest : c + places_taken (cut_down c i h) ≡ i = taken_from n count c i h (omega arith) (and_right (formed_record n count (record_at i h)) below f) in
    omega (arith, rest)
taken_from n count (suc passing) (suc i) h low f =
    let rest : passing + places_taken (cut_down passing i h) ≡ i = taken_from n count passing i h (omega arith) f in omega (arith, rest)

-- the oldest take no more places than all do
pub taken_fewer : (i : ℕ) (ws : List HistoryRecord) → places_taken (drop i ws) ≤ places_taken ws
taken_fewer zero ws = omega arith
taken_fewer (suc i) [] = omega arith
taken_fewer (suc i) (w ∷ ws) = omega (arith, taken_fewer i ws)

-- one record: q and its cells cs, above what is before
module _ (before cs : List ℕ) (q : ℕ) (rest : List ℕ) (says : step_count q ≡ length cs) where
  abbrev whole : List ℕ
  whole = before ++ ((cs ++ (q ∷ [])) ++ rest)

  abbrev at : ℕ
  at = length before + length cs

  found_place : get_or whole at 0 ≡ q
  found_place =
      ap (λ (l : List ℕ). get_or l at 0) (ap (λ (l : List ℕ). before ++ l) (append_assoc cs (q ∷ []) rest) ∙ sym (append_assoc before cs (q ∷ rest)))
      ∙ get_or_at (before ++ cs) q rest 0 at (length-append before cs)

  found_cells : part (at - step_count q) (step_count q) whole ≡ cs
  found_cells =
      let from : at - length cs ≡ length before = omega arith in
      ap (λ (k : ℕ). part (at - k) k whole) says
      ∙ ap (λ (k : ℕ). part k (length cs) whole) from
      ∙ ap (take (length cs)) (drop_at before ((cs ++ (q ∷ [])) ++ rest) (length before) refl ∙ append_assoc cs (q ∷ []) rest)
      ∙ take_at cs (q ∷ rest) (length cs) refl

  abbrev found_record : HistoryRecord
  found_record = record { cells = cs; place = q; below = at }

  found : record_at at whole ≡ found_record
  found =
      ap {B = HistoryRecord} (λ (k : ℕ). record { cells = part (at - step_count k) (step_count k) whole; place = k; below = at }) found_place
      ∙ ap {B = HistoryRecord} (λ (k : List ℕ). record { cells = k; place = q; below = at }) found_cells

  cut_one : cut_down 0 (suc at) whole ≡ found_record ∷ cut_down 0 (length before) whole
  unfolding cut_down
  cut_one =
      ap₂ (λ (w : HistoryRecord) (ws : List HistoryRecord). w ∷ ws) found
      (ap (λ (k : ℕ). cut_down (step_count k) at whole) found_place
      ∙ cut_pass (step_count q) (length before) at whole (omega (arith, says)))

-- what cutting well-formed records finds: those records, each well formed, and of the same lengths from any of them on
pub record CutTo (n count : ℕ) (ls : List (List ℕ)) (ws : List HistoryRecord) : Type 0 where
  pub formed : formed_records n count ws ≡ true
  pub same : map whole_record ws ≡ ls
  pub many : length ws ≡ length ls
  pub taken : (i : ℕ) → places_taken (drop i ws) ≡ length (places_of (drop i ls))

module _ (n count : ℕ) where
  cut_more : (cs : List ℕ) (q : ℕ) (ls : List (List ℕ)) (ws : List HistoryRecord) (u : ℕ) → WellFormed n count cs q → length cs ≤ u → CutTo n count ls ws
      → CutTo n count ((cs ++ (q ∷ [])) ∷ ls) (record { cells = cs; place = q; below = u } ∷ ws)
  cut_more cs q ls ws u f lies w =
      record {
        formed = ap₂ ◌&&◌ (ap₂ ◌&&◌ (f.step u lies) f.restores) w.formed;
        same = ap (λ (k : List (List ℕ)). (cs ++ (q ∷ [])) ∷ k) w.same;
        many = ap suc w.many;
        taken = each;
      }
    where
      each : (i : ℕ) → places_taken (drop i (record { cells = cs; place = q; below = u } ∷ ws)) ≡ length (places_of (drop i ((cs ++ (q ∷ [])) ∷ ls)))
      each zero =
          let below : places_taken ws ≡ length (places_of ls) = w.taken 0 in
          omega (arith, below, f.says, length-append (places_of ls) (cs ++ (q ∷ [])), length-append cs (q ∷ []))
      each (suc i) = w.taken i

  pub cut_places : (ls : List (List ℕ)) → AllFormed n count ls → (rest : List ℕ) → CutTo n count ls (cut_down 0 (length (places_of ls)) (places_of ls ++ rest))
  unfolding cut_down
  cut_places [] f rest = record { formed = refl; same = refl; many = refl; taken = none }
    where
      none : (i : ℕ) → places_taken (drop i []) ≡ length (places_of (drop i []))
      none zero = refl
      none (suc i) = refl
  cut_places (l ∷ ls) f rest =
      let g : Formed n count l = f.0 in
      let before : List ℕ = places_of ls in
      let cs : List ℕ = g.cells in
      let q : ℕ = g.place in
      let long : length (before ++ (cs ++ (q ∷ []))) ≡ suc (length before + length cs) =
      length-append before (cs ++ (q ∷ [])) ∙ ap (λ (k : ℕ). length before + k) (length-append cs (q ∷ [])) ∙ omega arith in
      subst (λ (k : List ℕ). CutTo n count (k ∷ ls) (cut_down 0 (length (before ++ k)) ((before ++ k) ++ rest))) (sym g.is)
      (subst (CutTo n count ((cs ++ (q ∷ [])) ∷ ls))
      (sym (ap₂ (λ (u : ℕ) (h : List ℕ). cut_down 0 u h) long (append_assoc before (cs ++ (q ∷ [])) rest) ∙ cut_one before cs q rest g.well.says))
      (cut_more cs q ls (cut_down 0 (length before) (before ++ ((cs ++ (q ∷ [])) ++ rest))) (length before + length cs) g.well (omega arith)
      (cut_places ls f.1 ((cs ++ (q ∷ [])) ++ rest))))

-- ---- request g's count: where all are well formed, there are as many step places in use as records

steps_append : (xs ys : List ℕ) → step_places (xs ++ ys) ≡ step_places xs + step_places ys
steps_append [] ys = omega arith
steps_append (x ∷ xs) ys = go (step_places (xs ++ ys)) (step_places xs) (step_places ys) (eqb (mark x) 1) (steps_append xs ys)
  where
    go : (n k m : ℕ) (b : Bool) → n ≡ k + m → cond b (suc n) n ≡ cond b (suc k) k + m
    go n k m true e = omega (arith, e)
    go n k m false e = e

module _ (n count : ℕ) where
  cells_no_step : (low : ℕ) (cs : List ℕ) → formed_cells n count low cs ≡ true → step_places cs ≡ 0
  cells_no_step low [] f = refl
  cells_no_step low (q ∷ cs) f =
      let first : formed_cell n count low q ≡ true = and_left (formed_cell n count low q) (formed_cells n count (cell_address q + 1) cs) f in
      let unmarked : mark q ≡ 0 = eqb-true (mark q) 0 (every_at (cell_tests n count low q) 0 first) in
      rw unmarked (cells_no_step (cell_address q + 1) cs (and_right (formed_cell n count low q) (formed_cells n count (cell_address q + 1) cs) f))

  -- the places through a record that lies within them: those below it, its cells, and its step place
  through_record : (i c : ℕ) (h : List ℕ) → c ≤ i → i < length h → take (suc i) h ≡ take (i - c) h ++ (part (i - c) c h ++ (get_or h i 0 ∷ []))
  through_record i c h within inside =
      let all : i ≡ (i - c) + c = omega (arith, within) in
      take-suc h i 0 inside
      ∙ ap (λ (l : List ℕ). l ++ (get_or h i 0 ∷ [])) (ap (λ (k : ℕ). take k h) all ∙ take-add (i - c) c h)
      ∙ append_assoc (take (i - c) h) (part (i - c) c h) (get_or h i 0 ∷ [])

  -- the record on top
  steps_top : (i : ℕ) (h : List ℕ) → formed_records n count (cut_down 0 (suc i) h) ≡ true
      → (step_count (get_or h i 0) ≤ i) × (mark (get_or h i 0) ≡ 1)
      × (formed_cells n count 0 (part (i - step_count (get_or h i 0)) (step_count (get_or h i 0)) h) ≡ true)
  unfolding cut_down
  steps_top i h f =
      let top : formed_record n count (record_at i h) ≡ true =
      and_left (formed_record n count (record_at i h)) (formed_records n count (cut_down (step_count (get_or h i 0)) i h)) f in (
        cells_within n count (record_at i h) top,
        step_marked n count (record_at i h) top,
        cells_formed n count (record_at i h) top,
      )

  -- and those below it
  abbrev Counted : List ℕ → ℕ → Type 0
  Counted h u = u ≤ length h → formed_records n count (cut_down 0 u h) ≡ true → step_places (take u h) ≡ length (cut_down 0 u h)

  steps_next : (u : ℕ) (h : List ℕ) → ((v : ℕ) → v < u → Counted h v) → Counted h u
  steps_next zero h below inside f = ap length (sym (cut_none h))
  steps_next (suc i) h below inside f =
      let q : ℕ = get_or h i 0 in
      let c : ℕ = step_count q in
      let found = steps_top i h f in
      let cuts : cut_down 0 (suc i) h ≡ record_at i h ∷ cut_down 0 (i - c) h = cut_next i h found.0 in
      let rest : formed_records n count (cut_down 0 (i - c) h) ≡ true =
      and_right (formed_record n count (record_at i h)) (formed_records n count (cut_down 0 (i - c) h)) (ap (formed_records n count) (sym cuts) ∙ f) in
      let fewer : step_places (take (i - c) h) ≡ length (cut_down 0 (i - c) h) = below (i - c) (omega arith) (omega arith) rest in
      let one : step_places (q ∷ []) ≡ 1 = rw found.1 refl in
      ap step_places (through_record i c h found.0 (omega arith))
      ∙ steps_append (take (i - c) h) (part (i - c) c h ++ (q ∷ []))
      ∙ ap (λ (k : ℕ). step_places (take (i - c) h) + k) (steps_append (part (i - c) c h) (q ∷ []))
      ∙ omega (arith, fewer, cells_no_step 0 (part (i - c) c h) found.2, one)
      ∙ ap length (sym cuts)

  steps_within : (most u : ℕ) (h : List ℕ) → u ≤ most → Counted h u
  steps_within zero u h low = steps_next u h (λ v l. absurd (let z : ⊥ = omega arith in z))
  steps_within (suc most) u h low = steps_next u h (λ v l. steps_within most v h (omega arith))

  pub steps_cut : (u : ℕ) (h : List ℕ) → Counted h u
  steps_cut u h = steps_within u u h (omega arith)
