-- The look down the places: what its loop carries, one place more and none left. Assumes nothing.
use Rattle.std.specs.Prelude.{Some, None, Ok}
use Prim.Native.Nat.{ℕ, suc, ◌+◌, ◌-◌, ◌≤◌, ◌<◌}
use mathlib.Core.Path.{◌≡◌, refl, sym, ap, ◌∙◌, subst}
use mathlib.Core.Bool.{Bool, true, false, cond}
use mathlib.Core.List.{List, [], ◌∷◌, ◌++◌, append_assoc}
use native.Mathlib.Omega.{arith}
use lib.ListN.{length, get_or, take, drop, length-drop, length-append}
use lib.Dec.{ltb, eqb}
use lib.Seq.{take-suc, get_or-drop, get_or-take, get_or_at, length-take-le}
use Rattle.std.proofs.Common.{take-append-drop}
use borrow.Author.Tests.{ltb-true, ltb-false, eq-eqb, ne_eqb}
use Rattle.rules.specs.Lists.{part}
use Rattle.rules.specs.Places.{mark, cell_address, step_pc, step_count}
use Rattle.rules.specs.Records.{record_at, cut_down}
use Rattle.rules.specs.Why.{named_step, told_by, newest}
use Rattle.rules.specs.Answers.{Why}
use Rattle.rules.proofs.Tests.{by_test}
use Rattle.rules.proofs.Splice.{length_part}
use Rattle.rules.proofs.Records.{cut_next, cut_none}
use Rattle.why.specs.Readable.{Readable, AllReadable}

-- ---- the last of a record's cell places tells first
told_last : (cell : ℕ) (l : List ℕ) (q : ℕ) (told : ℕ → Why) (older : Why)
    → told_by cell (l ++ (q ∷ [])) told older ≡ cond (eqb (cell_address q) cell) (told q) (told_by cell l told older)
told_last cell [] q told older = refl
told_last cell (x ∷ l) q told older = told_last cell l q told (cond (eqb (cell_address x) cell) (told x) older)

abbrev pub tells : (table : List ℕ) → (back step : ℕ) → ℕ → Why
tells table back step q = Ok (Some (named_step table back step q))

module _ (table history : List ℕ) (used cell : ℕ) where
  -- the places `left` stand first in the history; so many step places were met, and `step` is the last of these; the places left from `low` on are cell places of its
  -- record, and what all tell is told by them, or by the records of the places below
  pub record Looking (left : List ℕ) (back step : ℕ) : Type 0 where
    pub after : List ℕ
    pub stand : left ++ after ≡ history
    pub low : ℕ
    pub under : low ≤ length left
    pub same : newest table cell 1 (cut_down 0 used history)
        ≡ told_by cell (part low (length left - low) history) (tells table back step) (newest table cell (back + 1) (cut_down 0 low history))
    pub unmarked : (k : ℕ) → low ≤ k → k < length left → mark (get_or history k 0) ≡ 0
    pub readable : AllReadable (length table) (cut_down 0 low history)
    pub pc : low < length left → step_pc step < length table
    pub within : back + length left ≤ used

  -- no place is met yet
  pub looking_none : (left : List ℕ) (step : ℕ) → left ≡ take used history → used ≤ length history → AllReadable (length table) (cut_down 0 used history)
      → Looking left 0 step
  looking_none left step is inside h =
      let all : length left ≡ used = ap length is ∙ length-take-le used history inside in
      let empty : length left - used ≡ 0 = omega (arith, all) in
      record {
        after = drop used history;
        stand = ap (λ (l : List ℕ). l ++ drop used history) is ∙ take-append-drop used history;
        low = used;
        under = omega (arith, all);
        same = ap (λ (n : ℕ). told_by cell (part used n history) (tells table 0 step) (newest table cell 1 (cut_down 0 used history))) (sym empty);
        unmarked = λ k above below. absurd (let z : ⊥ = omega (arith, all, above, below) in z);
        readable = h;
        pc = λ some. absurd (let z : ⊥ = omega (arith, all, some) in z);
        within = omega (arith, all);
      }

-- ---- a loop's turn: the last of the places left, place i
module _ {table history : List ℕ} {used cell back step : ℕ} {left : List ℕ} (rest : List ℕ) (x : ℕ) (w : Looking table history used cell left back step)
    (next : left ≡ rest ++ (x ∷ [])) where
  abbrev i : ℕ
  i = length rest

  long : length left ≡ suc i
  long = ap length next ∙ length-append rest (x ∷ []) ∙ omega arith

  stand : rest ++ (x ∷ w.after) ≡ history
  stand = sym (append_assoc rest (x ∷ []) w.after) ∙ ap (λ (l : List ℕ). l ++ w.after) (sym next) ∙ w.stand

  inside : i < length history
  inside = omega (arith, ap length stand, length-append rest (x ∷ w.after))

  here : get_or history i 0 ≡ x
  here = ap (λ (l : List ℕ). get_or l i 0) (sym stand) ∙ get_or_at rest x w.after 0 i refl

  -- where no cell place is left, it is the step place of the next older record
  module _ (none : w.low ≡ length left) where
    at : w.low ≡ suc i
    at = none ∙ long

    all_readable : AllReadable (length table) (cut_down 0 (suc i) history)
    all_readable = subst (λ (k : ℕ). AllReadable (length table) (cut_down 0 k history)) at w.readable

    top : Readable (length table) (record_at i history)
    unfolding cut_down
    top = all_readable.0

    abbrev place : ℕ
    place = get_or history i 0

    abbrev below : ℕ
    below = i - step_count place

    cuts : cut_down 0 (suc i) history ≡ record_at i history ∷ cut_down 0 below history
    cuts = cut_next i history top.within

    top_same : newest table cell 1 (cut_down 0 used history)
        ≡ told_by cell (part below (i - below) history) (tells table (back + 1) place) (newest table cell (back + 1 + 1) (cut_down 0 below history))
    top_same =
        let empty : length left - w.low ≡ 0 = omega (arith, none) in
        let all : step_count place ≡ i - below = omega (arith, top.within) in
        w.same
        ∙ ap (λ (n : ℕ). told_by cell (part w.low n history) (tells table back step) (newest table cell (back + 1) (cut_down 0 w.low history))) empty
        ∙ ap (λ (k : ℕ). newest table cell (back + 1) (cut_down 0 k history)) at
        ∙ ap (newest table cell (back + 1)) cuts
        ∙ ap (λ (n : ℕ). told_by cell (part below n history) (tells table (back + 1) place) (newest table cell (back + 1 + 1) (cut_down 0 below history))) all

    top_unmarked : (k : ℕ) → below ≤ k → k < i → mark (get_or history k 0) ≡ 0
    top_unmarked k above under =
        let at : below + (k - below) ≡ k = omega (arith, above) in
        let few : k - below < step_count place = omega (arith, above, under, top.within) in
        let all : length (part below (step_count place) history) ≡ step_count place =
        length_part below (step_count place) history (omega (arith, top.within, inside)) in
        ap mark
        (sym
        (get_or-take (step_count place) (drop below history) (k - below) 0 few ∙ get_or-drop below history (k - below) 0
        ∙ ap (λ (n : ℕ). get_or history n 0) at))
        ∙ top.unmarked (k - below) (omega (arith, few, all))

    opened : Looking table history used cell rest (back + 1) place
    opened =
        record {
          after = x ∷ w.after;
          stand = stand;
          low = below;
          under = omega arith;
          same = top_same;
          unmarked = top_unmarked;
          readable = (subst (AllReadable (length table)) cuts all_readable).1;
          pc = λ some. top.pc;
          within = omega (arith, w.within, long);
        }

  pub look_step : mark x ≡ 1 → Looking table history used cell rest (back + 1) x
  look_step marked = subst (Looking table history used cell rest (back + 1)) here (opened none)
    where
      outside : w.low < length left → ⊥
      outside some =
          let unmarked : mark x ≡ 0 = ap mark (sym here) ∙ w.unmarked i (omega (arith, some, long)) (omega (arith, long)) in
          omega (arith, marked, unmarked)

      none : w.low ≡ length left
      none =
          by_test (ltb w.low (length left)) (λ t. absurd (outside (ltb-true w.low (length left) t)))
          (λ t. omega (arith, ltb-false w.low (length left) t, w.under))

  -- one cell place more, of another cell; or of the cell
  module _ (unmarked : mark x ≡ 1 → ⊥) where
    some : w.low < length left
    some =
        by_test (ltb w.low (length left)) (λ t. ltb-true w.low (length left) t)
        (λ t. absurd (unmarked (ap mark (sym here) ∙ (top (omega (arith, ltb-false w.low (length left) t, w.under))).marked)))

    abbrev older : Why
    older = newest table cell (back + 1) (cut_down 0 w.low history)

    split : part w.low (length left - w.low) history ≡ part w.low (i - w.low) history ++ (x ∷ [])
    split =
        let more : length left - w.low ≡ suc (i - w.low) = omega (arith, some, long) in
        let at : w.low + (i - w.low) ≡ i = omega (arith, some, long) in
        ap (λ (n : ℕ). part w.low n history) more
        ∙ take-suc (drop w.low history) (i - w.low) 0 (omega (arith, some, long, length-drop w.low history, inside))
        ∙ ap (λ (q : ℕ). part w.low (i - w.low) history ++ (q ∷ []))
        (get_or-drop w.low history (i - w.low) 0 ∙ ap (λ (k : ℕ). get_or history k 0) at ∙ here)

    told : (b : Bool) → eqb (cell_address x) cell ≡ b
        → newest table cell 1 (cut_down 0 used history)
        ≡ cond b (tells table back step x) (told_by cell (part w.low (i - w.low) history) (tells table back step) older)
    told b e =
        w.same ∙ ap (λ (l : List ℕ). told_by cell l (tells table back step) older) split
        ∙ told_last cell (part w.low (i - w.low) history) x (tells table back step) older
        ∙ ap (λ (t : Bool). cond t (tells table back step x) (told_by cell (part w.low (i - w.low) history) (tells table back step) older)) e

    pub step_within : step_pc step < length table
    step_within = w.pc some

    pub look_found : cell_address x ≡ cell → tells table back step x ≡ newest table cell 1 (cut_down 0 used history)
    look_found of_cell = sym (told true (eq-eqb (cell_address x) cell of_cell))

    pub look_cell : (cell_address x ≡ cell → ⊥) → Looking table history used cell rest back step
    look_cell other =
        record {
          after = x ∷ w.after;
          stand = stand;
          low = w.low;
          under = omega (arith, some, long);
          same = told false (ne_eqb (cell_address x) cell other);
          unmarked = λ k above below. w.unmarked k above (omega (arith, below, long));
          readable = w.readable;
          pc = λ more. w.pc some;
          within = omega (arith, w.within, long);
        }

-- ---- its end
pub look_ended : {table history : List ℕ} {used cell back step : ℕ} {left : List ℕ} → Looking table history used cell left back step → length left ≡ 0
    → Ok None ≡ newest table cell 1 (cut_down 0 used history)
look_ended {table} {history} {used} {cell} {back} {step} {left} w none =
    let end : w.low ≡ 0 = omega (arith, none, w.under) in
    let empty : length left - w.low ≡ 0 = omega (arith, none) in
    sym
    (w.same
    ∙ ap (λ (n : ℕ). told_by cell (part w.low n history) (tells table back step) (newest table cell (back + 1) (cut_down 0 w.low history))) empty
    ∙ ap (λ (k : ℕ). newest table cell (back + 1) (cut_down 0 k history)) end
    ∙ ap (newest table cell (back + 1)) (cut_none history))
