-- The cells that an effect writes, and those that it leaves: what a record's cell places tell of a cell, and what the cell holds after. Assumes nothing.
use Prim.Native.Nat.{ℕ, suc, ◌+◌, ◌-◌, ◌≤◌, ◌<◌}
use mathlib.Core.Path.{◌≡◌, refl, sym, ap, ap₂, ◌∙◌}
use mathlib.Core.Bool.{Bool, true, false, cond}
use mathlib.Core.List.{List, [], ◌∷◌, ◌++◌}
use native.Mathlib.Omega.{arith}
use lib.Dec.{ltb, eqb}
use lib.ListN.{length, get_or, take, drop, length-append}
use lib.Seq.{get_or-take, get_or-drop, get_or_at, take_at}
use borrow.Author.Tests.{ltb-true, ltb-false, eqb-true, eqb-false, ne_eqb}
use Rattle.rules.specs.Lists.{part, splice}
use Rattle.rules.specs.Sizes.{max_cells}
use Rattle.rules.specs.Places.{cell_place}
use Rattle.rules.specs.Cells.{Cells, cell_at}
use Rattle.rules.specs.Commit.{block, cell_places, cells_kept, cells_after}
use Rattle.rules.specs.Why.{told_by}
use Rattle.rules.specs.declared.Cell.{Cell}
use Rattle.rules.specs.declared.Effect.{Effect}
use Rattle.rules.specs.Answers.{Why}
use Rattle.rules.proofs.Tests.{by_test}
use Rattle.rules.proofs.Places.{cell_address_of}
use Rattle.rules.proofs.Splice.{length_part, take_splice, rest_splice}
use Rattle.rules.proofs.Sound.{Each, length_block}
use Rattle.rules.proofs.Formed.{Keepable}

-- ---- a record as its cell places and its step place, in one way only

pub last_place : (xs ys : List ℕ) (x y : ℕ) → xs ++ (x ∷ []) ≡ ys ++ (y ∷ []) → (xs ≡ ys) × (x ≡ y)
last_place xs ys x y e = (
  sym (front xs x) ∙ ap (λ (l : List ℕ). take (length l - 1) l) e ∙ front ys y,
  sym (last xs x) ∙ ap (λ (l : List ℕ). get_or l (length l - 1) 0) e ∙ last ys y,
)
  where
    one_less : (l : List ℕ) (z : ℕ) → length l ≡ length (l ++ (z ∷ [])) - 1
    one_less l z = omega (arith, length-append l (z ∷ []))

    front : (l : List ℕ) (z : ℕ) → take (length (l ++ (z ∷ [])) - 1) (l ++ (z ∷ [])) ≡ l
    front l z = take_at l (z ∷ []) (length (l ++ (z ∷ [])) - 1) (one_less l z)

    last : (l : List ℕ) (z : ℕ) → get_or (l ++ (z ∷ [])) (length (l ++ (z ∷ [])) - 1) 0 ≡ z
    last l z = get_or_at l z [] 0 (length (l ++ (z ∷ [])) - 1) (one_less l z)

-- ---- the places of cells side by side, the first of them at address a

module _ (count cell : ℕ) (told : ℕ → Why) where
  -- the place at address a is that of the cell, or it is not
  at_address : (a t b : ℕ) (ts bs : List ℕ) (older : Why) → a < max_cells → Keepable count t b → (test : Bool) → eqb a cell ≡ test
      → told_by cell (cell_places a (t ∷ ts) (b ∷ bs)) told older ≡ told_by cell (cell_places (suc a) ts bs) told (cond test (told (cell_place a t b)) older)
  at_address a t b ts bs older low k test e =
      ap (λ (i : Bool). told_by cell (cell_places (suc a) ts bs) told (cond i (told (cell_place a t b)) older))
      (ap (λ (n : ℕ). eqb n cell) (cell_address_of a t b (omega arith) k.tag k.bits) ∙ e)

  told_outside : (a : ℕ) (ts bs : List ℕ) (older : Why) → length ts ≡ length bs → a + length bs ≤ max_cells → Each (Keepable count) ts bs
      → (a ≤ cell → cell < a + length bs → ⊥) → told_by cell (cell_places a ts bs) told older ≡ older
  told_outside a [] bs older even few k out = refl
  told_outside a (t ∷ ts) [] older even few k out = refl
  told_outside a (t ∷ ts) (b ∷ bs) older even few k out =
      let other : a ≡ cell → ⊥ = λ e. out (omega (arith, e)) (omega (arith, e)) in
      at_address a t b ts bs older (omega arith) (k 0) false (ne_eqb a cell other)
      ∙ told_outside (suc a) ts bs older (omega (arith, even)) (omega arith) (λ i. k (suc i)) (λ low high. out (omega (arith, low)) (omega (arith, high)))

  told_inside : (a : ℕ) (ts bs : List ℕ) (older : Why) → length ts ≡ length bs → a + length bs ≤ max_cells → Each (Keepable count) ts bs → a ≤ cell
      → cell < a + length bs → told_by cell (cell_places a ts bs) told older ≡ told (cell_place cell (get_or ts (cell - a) 0) (get_or bs (cell - a) 0))
  told_inside a [] [] older even few k low high = absurd (let z : ⊥ = omega arith in z)
  told_inside a [] (b ∷ bs) older even few k low high = absurd (let z : ⊥ = omega (arith, even) in z)
  told_inside a (t ∷ ts) [] older even few k low high = absurd (let z : ⊥ = omega (arith, even) in z)
  told_inside a (t ∷ ts) (b ∷ bs) older even few k low high =
      let small : a < max_cells = omega arith in
      by_test (eqb a cell)
      (λ e.
      let here : a ≡ cell = eqb-true a cell e in
      let first : cell - a ≡ 0 = omega arith in
      at_address a t b ts bs older small (k 0) true e
      ∙ told_outside (suc a) ts bs (told (cell_place a t b)) (omega (arith, even)) (omega arith) (λ i. k (suc i)) (λ l h. omega (arith, l, here))
      ∙ ap (λ (n : ℕ). told (cell_place n t b)) here
      ∙ ap (λ (n : ℕ). told (cell_place cell (get_or (t ∷ ts) n 0) (get_or (b ∷ bs) n 0))) (sym first))
      (λ e.
      let there : a ≡ cell → ⊥ = eqb-false a cell e in
      let above : a < cell = omega arith in
      let more : cell - a ≡ suc (cell - suc a) = omega arith in
      at_address a t b ts bs older small (k 0) false e
      ∙ told_inside (suc a) ts bs older (omega (arith, even)) (omega arith) (λ i. k (suc i)) above (omega arith)
      ∙ ap (λ (n : ℕ). told (cell_place cell (get_or (t ∷ ts) n 0) (get_or (b ∷ bs) n 0))) (sym more))

-- ---- an effect on N cells

module _ (cell n : ℕ) (c : Cells) (e : Effect) (bits : length c.bits ≡ n) (tags : length c.tags ≡ n) (fits : e.at + e.count ≤ n) where
  long_bits : length (part e.at e.count c.bits) ≡ e.count
  long_bits = length_part e.at e.count c.bits (omega (arith, fits, bits))

  even : length (part e.at e.count c.tags) ≡ length (part e.at e.count c.bits)
  even = length_part e.at e.count c.tags (omega (arith, fits, tags)) ∙ sym long_bits

  -- what its record tells of a cell
  module _ (count : ℕ) (few : n ≤ max_cells) (keepable : Each (Keepable count) (part e.at e.count c.tags) (part e.at e.count c.bits)) (told : ℕ → Why) (older : Why) where
    pub kept_inside : e.at ≤ cell → cell < e.at + e.count
        → told_by cell (cells_kept c e) told older ≡ told (cell_place cell (get_or c.tags cell 0) (get_or c.bits cell 0))
    kept_inside low high =
        told_inside count cell told e.at (part e.at e.count c.tags) (part e.at e.count c.bits) older even (omega (arith, long_bits, fits, few))
        keepable low (omega (arith, long_bits, high))
        ∙ ap₂ (λ (t b : ℕ). told (cell_place cell t b)) (in_part c.tags) (in_part c.bits)
      where
        in_part : (l : List ℕ) → get_or (part e.at e.count l) (cell - e.at) 0 ≡ get_or l cell 0
        in_part l =
            let place : e.at + (cell - e.at) ≡ cell = omega (arith, low) in
            get_or-take e.count (drop e.at l) (cell - e.at) 0 (omega (arith, low, high))
            ∙ get_or-drop e.at l (cell - e.at) 0 ∙ ap (λ (k : ℕ). get_or l k 0) place

    pub kept_outside : (e.at ≤ cell → cell < e.at + e.count → ⊥) → told_by cell (cells_kept c e) told older ≡ older
    kept_outside out =
        told_outside count cell told e.at (part e.at e.count c.tags) (part e.at e.count c.bits) older even
        (omega (arith, long_bits, fits, few)) keepable (λ low high. out low (omega (arith, long_bits, high)))

  -- a cell that it does not write stays
  beside : (l vs : List ℕ) → length l ≡ n → length vs ≡ e.count → (e.at ≤ cell → cell < e.at + e.count → ⊥)
      → get_or (splice l e.at vs) cell 0 ≡ get_or l cell 0
  beside l vs long size out =
      by_test (ltb cell e.at)
      (λ t.
      let low : cell < e.at = ltb-true cell e.at t in
      sym (get_or-take e.at (splice l e.at vs) cell 0 low)
      ∙ ap (λ (k : List ℕ). get_or k cell 0) (take_splice l e.at vs (omega (arith, long, size, fits)))
      ∙ get_or-take e.at l cell 0 low)
      (λ t.
      let low : e.at ≤ cell = ltb-false cell e.at t in
      let behind : e.at + e.count ≤ cell = past low in
      let place : e.at + e.count + (cell - (e.at + e.count)) ≡ cell = omega (arith, behind) in
      ap (λ (k : ℕ). get_or (splice l e.at vs) k 0) (sym place)
      ∙ sym (get_or-drop (e.at + e.count) (splice l e.at vs) (cell - (e.at + e.count)) 0)
      ∙ ap (λ (k : List ℕ). get_or k (cell - (e.at + e.count)) 0) (rest_splice l e.at vs (omega (arith, long, size, fits)) e.count size)
      ∙ get_or-drop (e.at + e.count) l (cell - (e.at + e.count)) 0
      ∙ ap (λ (k : ℕ). get_or l k 0) place)
    where
      past : e.at ≤ cell → e.at + e.count ≤ cell
      past low =
          by_test (ltb cell (e.at + e.count)) (λ t. absurd (out low (ltb-true cell (e.at + e.count) t))) (λ t. ltb-false cell (e.at + e.count) t)

  pub cell_stays : (e.at ≤ cell → cell < e.at + e.count → ⊥) → cell_at (cells_after c e) (record { 0 = cell }) ≡ cell_at c (record { 0 = cell })
  cell_stays out =
      ap₂ {C = Cell} (λ (b t : ℕ). record { bits = b; tag = t })
      (beside c.bits (block e.count e.first.bits e.second.bits) bits (length_block e.count e.first.bits e.second.bits) out)
      (beside c.tags (block e.count e.first.tag e.second.tag) tags (length_block e.count e.first.tag e.second.tag) out)
