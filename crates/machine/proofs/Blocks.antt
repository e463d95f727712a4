-- The blocks of a commit: its cells, its cell places and its record. Assumes nothing.
use Prim.Native.Nat.{ℕ, zero, suc, ◌+◌, ◌-◌, ◌≤◌, ◌<◌}
use mathlib.Core.Path.{◌≡◌, sym, ap, ap₂, ◌∙◌}
use mathlib.Core.Bool.{Bool}
use mathlib.Core.List.{List, [], ◌∷◌, ◌++◌}
use native.Mathlib.Nat.{le_of_suc-le-suc, not-suc-le-zero, add-zero}
use native.Mathlib.Omega.{arith}
use lib.ListN.{length, get_or, drop, set, replicate, length-set, length-replicate}
use lib.Dec.{ltb}
use borrow.Author.Tests.{lt-ltb, le-ltb}
use lib.Seq.{get_or-take, get_or-drop}
use Rattle.rules.specs.Lists.{part, splice}
use Rattle.rules.specs.Places.{cell_place}
use Rattle.rules.specs.Commit.{block, cell_places, grown, history_after}
use Rattle.rules.proofs.Sound.{length_places}
use Rattle.rules.proofs.Zeros.{take_zeros}
use Rattle.rules.proofs.Splice.{length_part, splice_beside, splice_none, sets_splice}

-- ---- the written cells: none, one, or more

block_more : (n x y : ℕ) → 2 ≤ n → block n x y ≡ x ∷ y ∷ replicate (n - 2) 0
block_more zero x y h = absurd (not-suc-le-zero h)
block_more (suc zero) x y h = absurd (not-suc-le-zero (le_of_suc-le-suc h))
block_more (suc (suc n)) x y h =
    let e : n ≡ suc (suc n) - 2 = omega arith in
    ap (λ (l : List ℕ). x ∷ y ∷ l) (take_zeros n (suc (suc n)) (omega arith) ∙ ap (λ (k : ℕ). replicate k 0) e)

pub put_none : (l : List ℕ) (at n x y : ℕ) → n ≡ 0 → l ≡ splice l at (block n x y)
put_none l at n x y e = sym (splice_none l at) ∙ ap (λ (k : ℕ). splice l at (block k x y)) (sym e)

module _ (l : List ℕ) (at n x y : ℕ) (h : at + n ≤ length l) where
  pub put_one : n ≡ 1 → set l at x ≡ splice l at (block n x y)
  put_one e = sets_splice (x ∷ []) l at (omega arith) ∙ ap (λ (k : ℕ). splice l at (block k x y)) (sym e)

  pub put_more : 2 ≤ n → splice (set (set l at x) (at + 1) y) (at + 1 + 1) (replicate (n - 2) 0) ≡ splice l at (block n x y)
  put_more two =
      let p : at + 1 ≡ suc at = omega arith in
      let q : at + 1 + 1 ≡ suc (suc at) = omega arith in
      let zeros : length (replicate {A = ℕ} (n - 2) 0) ≡ n - 2 = length-replicate (n - 2) 0 in
      let lx : length (set (set l at x) (suc at) y) ≡ length l = length-set (set l at x) (suc at) y ∙ length-set l at x in
      (λ i. splice (set (set l at x) (p i) y) (q i) (replicate (n - 2) 0))
      ∙ sym (sets_splice (replicate (n - 2) 0) (set (set l at x) (suc at) y) (suc (suc at)) (omega (arith, zeros, lx)))
      ∙ sets_splice (x ∷ y ∷ replicate (n - 2) 0) l at (omega (arith, zeros))
      ∙ ap (splice l at) (sym (block_more n x y two))

-- ---- the cell places

get_d_cells : (a : ℕ) (ts bs : List ℕ) (i : ℕ) → i < length ts → i < length bs → get_or (cell_places a ts bs) i 0 ≡ cell_place (a + i) (get_or ts i 0) (get_or bs i 0)
get_d_cells a [] bs i h k = absurd (not-suc-le-zero h)
get_d_cells a (t ∷ ts) [] i h k = absurd (not-suc-le-zero k)
get_d_cells a (t ∷ ts) (b ∷ bs) zero h k = ap (λ (n : ℕ). cell_place n t b) (sym (add-zero a))
get_d_cells a (t ∷ ts) (b ∷ bs) (suc i) h k =
    get_d_cells (suc a) ts bs i (le_of_suc-le-suc h) (le_of_suc-le-suc k) ∙ ap (λ (n : ℕ). cell_place n (get_or ts i 0) (get_or bs i 0)) (omega arith)

-- those of a block, n cells from `at` on
module _ (at n : ℕ) (tags bits : List ℕ) (ht : at + n ≤ length tags) (hb : at + n ≤ length bits) where
  pub kept_length : length (cell_places at (part at n tags) (part at n bits)) ≡ n
  kept_length = length_places at (part at n tags) (part at n bits) (length_part at n tags ht ∙ sym (length_part at n bits hb)) ∙ length_part at n bits hb

  pub kept_at : (i : ℕ) → i < n → get_or (cell_places at (part at n tags) (part at n bits)) i 0 ≡ cell_place (at + i) (get_or tags (at + i) 0) (get_or bits (at + i) 0)
  kept_at i h =
      get_d_cells at (part at n tags) (part at n bits) i (omega (arith, length_part at n tags ht)) (omega (arith, length_part at n bits hb))
      ∙ ap₂ (cell_place (at + i)) (get_or-take n (drop at tags) i 0 h ∙ get_or-drop at tags i 0) (get_or-take n (drop at bits) i 0 h ∙ get_or-drop at bits i 0)

-- ---- the record: cell places, then the step place

pub record_ends : (h l cells : List ℕ) (u n s : ℕ) → length cells ≡ n → u + (n + 1) ≤ length h → length l ≡ length h → l ≡ splice h u cells
    → set l (u + n) s ≡ splice h u (cells ++ (s ∷ []))
record_ends h l cells u n s e f g k =
    sets_splice (s ∷ []) l (u + n) (omega (arith, g))
    ∙ ap₂ (λ (z : List ℕ) (j : ℕ). splice z (u + j) (s ∷ [])) k (sym e)
    ∙ splice_beside h u cells (s ∷ []) (omega (arith, e))

-- ---- with H = 0 nothing is kept, with H above 0 the record

module _ (h u n : ℕ) where
  pub grown_none : h ≡ 0 → u ≡ grown (ltb 0 h) u n
  grown_none e = ap (λ (t : Bool). grown t u n) (sym (le-ltb 0 h (omega (arith, e))))

  pub grown_more : (h ≡ 0 → ⊥) → u + n ≡ grown (ltb 0 h) u n
  grown_more e = ap (λ (t : Bool). grown t u n) (sym (lt-ltb 0 h (omega (arith, e))))

module _ (h : ℕ) (l : List ℕ) (u : ℕ) (added : List ℕ) where
  pub history_none : h ≡ 0 → l ≡ history_after (ltb 0 h) l u added
  history_none e = ap (λ (t : Bool). history_after t l u added) (sym (le-ltb 0 h (omega (arith, e))))

  pub history_more : (h ≡ 0 → ⊥) → splice l u added ≡ history_after (ltb 0 h) l u added
  history_more e = ap (λ (t : Bool). history_after t l u added) (sym (lt-ltb 0 h (omega (arith, e))))
