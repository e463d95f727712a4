-- The laws of `splice`: what a block written over a list leaves, and how writes over and beside each other join. They serve cells, history and
-- images alike. Assumes nothing.
use Prim.Native.Nat.{ℕ, zero, suc, ◌+◌, ◌≤◌, min}
use mathlib.Core.Path.{◌≡◌, refl, sym, ap, ap₂, ◌∙◌}
use mathlib.Core.List.{List, [], ◌∷◌, ◌++◌, append_assoc}
use native.Mathlib.Nat.{add-zero}
use native.Mathlib.Omega.{arith}
use lib.ListN.{length, take, drop, length-append, length-take, length-drop, take-append-drop}
use lib.Seq.{sets, sets-eq, take_at, drop_at, drop-drop, length-take-le, take-append-le, drop-append-add, take-take}
use Rattle.rules.specs.Lists.{part, splice}

pub length_part : (i n : ℕ) (l : List ℕ) → i + n ≤ length l → length (part i n l) ≡ n
length_part i n l h = length-take n (drop i l) ∙ ap (λ (k : ℕ). min n k) (length-drop i l) ∙ omega arith

-- a part of a part
pub part_part : (i j n m : ℕ) (l : List ℕ) → j + m ≤ n → part j m (part i n l) ≡ part (i + j) m l
part_part i j n m l h = inner j n (drop i l) h ∙ ap (take m) (drop-drop j i l)
  where
    inner : (j n : ℕ) (l : List ℕ) → j + m ≤ n → part j m (take n l) ≡ part j m l
    inner zero n l h = take-take m n l (omega arith)
    inner (suc j) zero l h = absurd (let z : ⊥ = omega arith in z)
    inner (suc j) (suc n) [] h = refl
    inner (suc j) (suc n) (x ∷ l) h = inner j n l (omega arith)

-- ---- what stands before, at and behind the place
module _ (l : List ℕ) (i : ℕ) (ws : List ℕ) (h : i + length ws ≤ length l) where
  pub take_splice : take i (splice l i ws) ≡ take i l
  take_splice = take_at (take i l) (ws ++ drop (i + length ws) l) i (length-take-le i l (omega arith))

  pub drop_splice : drop i (splice l i ws) ≡ ws ++ drop (i + length ws) l
  drop_splice = drop_at (take i l) (ws ++ drop (i + length ws) l) i (length-take-le i l (omega arith))

  pub through_splice : (n : ℕ) → length ws ≡ n → take (i + n) (splice l i ws) ≡ take i l ++ ws
  through_splice n e =
      ap (take (i + n)) (sym (append_assoc (take i l) ws (drop (i + length ws) l)))
      ∙ take_at (take i l ++ ws) (drop (i + length ws) l) (i + n) (length-append (take i l) ws ∙ ap₂ ◌+◌ (length-take-le i l (omega arith)) e)

  pub rest_splice : (n : ℕ) → length ws ≡ n → drop (i + n) (splice l i ws) ≡ drop (i + n) l
  rest_splice n e =
      sym (drop-drop n i (splice l i ws)) ∙ ap (drop n) drop_splice ∙ drop_at ws (drop (i + length ws) l) n e
      ∙ ap (λ (k : ℕ). drop (i + k) l) e

  pub length_splice : length (splice l i ws) ≡ length l
  length_splice =
      length-append (take i l) (ws ++ drop (i + length ws) l)
      ∙ ap₂ ◌+◌ (length-take-le i l (omega arith)) (length-append ws (drop (i + length ws) l) ∙ ap (λ (k : ℕ). length ws + k) (length-drop (i + length ws) l))
      ∙ omega arith

-- ---- two writes

-- one over the other, of the same length
pub splice_over : (l : List ℕ) (i : ℕ) (ws vs : List ℕ) → length ws ≡ length vs → i + length vs ≤ length l
    → splice (splice l i ws) i vs ≡ splice l i vs
splice_over l i ws vs e h =
    let h' : i + length ws ≤ length l = omega arith in
    ap₂ (λ (a b : List ℕ). a ++ (vs ++ b)) (take_splice l i ws h') (rest_splice l i ws h' (length vs) e)

-- what stood there, written there again
pub splice_same : (l : List ℕ) (i n : ℕ) → i + n ≤ length l → splice l i (part i n l) ≡ l
splice_same l i n h =
    ap (λ (k : ℕ). take i l ++ (take n (drop i l) ++ drop (i + k) l)) (length_part i n l h)
    ∙ ap (λ (k : List ℕ). take i l ++ (take n (drop i l) ++ k)) (sym (drop-drop n i l))
    ∙ ap (λ (k : List ℕ). take i l ++ k) (take-append-drop n (drop i l)) ∙ take-append-drop i l

-- a write taken back
pub splice_back : (l : List ℕ) (i n : ℕ) (ws vs : List ℕ) → length ws ≡ n → i + n ≤ length l → vs ≡ part i n l → splice (splice l i ws) i vs ≡ l
splice_back l i n ws vs e h ev =
    let lv : length vs ≡ n = ap length ev ∙ length_part i n l h in
    splice_over l i ws vs (e ∙ sym lv) (omega arith) ∙ ap (splice l i) ev ∙ splice_same l i n h

-- side by side
pub splice_beside : (l : List ℕ) (i : ℕ) (f g : List ℕ) → i + length f ≤ length l → splice (splice l i f) (i + length f) g ≡ splice l i (f ++ g)
splice_beside l i f g h =
    let la : length (take i l ++ f) ≡ i + length f = length-append (take i l) f ∙ ap (λ (n : ℕ). n + length f) (length-take-le i l (omega arith)) in
    let lb : i + length f + length g ≡ i + length (f ++ g) = omega (arith, length-append f g) in
    let whole : splice l i f ≡ (take i l ++ f) ++ drop (i + length f) l = sym (append_assoc (take i l) f (drop (i + length f) l)) in
    ap₂ (λ (p q : List ℕ). p ++ (g ++ q))
    (ap (take (i + length f)) whole ∙ take_at (take i l ++ f) (drop (i + length f) l) (i + length f) la)
    (ap (drop (i + length f + length g)) whole
    ∙ ap (λ (n : ℕ). drop (n + length g) ((take i l ++ f) ++ drop (i + length f) l)) (sym la)
    ∙ drop-append-add (take i l ++ f) (drop (i + length f) l) (length g)
    ∙ drop-drop (length g) (i + length f) l ∙ ap (λ (n : ℕ). drop n l) lb)
    ∙ append_assoc (take i l) f (g ++ drop (i + length (f ++ g)) l)
    ∙ ap (λ (p : List ℕ). take i l ++ p) (sym (append_assoc f g (drop (i + length (f ++ g)) l)))

-- the one that stands before, written behind the other
pub splice_before : (l : List ℕ) (i : ℕ) (f g : List ℕ) → i + length f + length g ≤ length l → splice (splice l (i + length f) g) i f ≡ splice l i (f ++ g)
splice_before l i f g h =
    let k : ℕ = i + length f in
    let e : k + length g ≡ i + length (f ++ g) = omega (arith, length-append f g) in
    ap₂ (λ (p q : List ℕ). p ++ (f ++ q))
    (take-append-le i (take k l) (g ++ drop (k + length g) l) (omega (arith, length-take-le k l (omega arith))) ∙ take-take i k l (omega arith))
    (drop_splice l k g h ∙ ap (λ (n : ℕ). g ++ drop n l) e)
    ∙ ap (λ (p : List ℕ). take i l ++ p) (sym (append_assoc f g (drop (i + length (f ++ g)) l)))

-- written together with what stands before it and behind it
pub splice_within : (l : List ℕ) (i j n : ℕ) (f : List ℕ) → i + j + length f + n ≤ length l
    → splice l i (part i j l ++ (f ++ part (i + j + length f) n l)) ≡ splice l (i + j) f
splice_within l i j n f h =
    let k : ℕ = i + j + length f in
    let p : List ℕ = part i j l in
    let lp : length p ≡ j = length_part i j l (omega arith) in
    let hf : i + j + length f ≤ length l = omega arith in
    sym (splice_beside l i p (f ++ part k n l) (omega (arith, lp)))
    ∙ ap₂ (λ (m : List ℕ) (c : ℕ). splice m (i + c) (f ++ part k n l)) (splice_same l i j (omega arith)) lp
    ∙ sym (splice_beside l (i + j) f (part k n l) hf)
    ∙ ap (λ (m : List ℕ). splice (splice l (i + j) f) k (take n m)) (sym (rest_splice l (i + j) f hf (length f) refl))
    ∙ splice_same (splice l (i + j) f) k n (omega (arith, length_splice l (i + j) f hf))

-- nothing written
pub splice_none : (l : List ℕ) (i : ℕ) → splice l i [] ≡ l
splice_none l i = ap (λ (n : ℕ). take i l ++ drop n l) (add-zero i) ∙ take-append-drop i l

-- ---- a write in the middle
pub splice_mid : (p x s f : List ℕ) (i : ℕ) → length p ≡ i → length x ≡ length f → splice (p ++ (x ++ s)) i f ≡ p ++ (f ++ s)
splice_mid p x s f i e h =
    ap₂ (λ (a b : List ℕ). a ++ (f ++ b)) (take_at p (x ++ s) i e)
    (ap (drop (i + length f)) (sym (append_assoc p x s))
    ∙ drop_at (p ++ x) s (i + length f) (length-append p x ∙ ap₂ (λ (n m : ℕ). n + m) e h))

-- the kit's way to write a list over a list
pub sets_splice : (vs l : List ℕ) (i : ℕ) → i + length vs ≤ length l → sets l i vs ≡ splice l i vs
sets_splice vs l i h = sets-eq vs l i h ∙ append_assoc (take i l) vs (drop (i + length vs) l)
