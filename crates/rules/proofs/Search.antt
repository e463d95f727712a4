-- The laws of a search for a text: `same` byte by byte, and `code_named` name by name. Assumes nothing.
use Prim.Native.Nat.{ℕ, suc, ◌+◌, ◌≤◌, ◌<◌}
use mathlib.Core.Path.{◌≡◌, refl, sym, ap, ◌∙◌}
use mathlib.Core.Bool.{true, false, and-false}
use mathlib.Core.List.{List, [], ◌∷◌}
use native.Mathlib.Numerals.{add-one}
use native.Mathlib.Omega.{arith}
use lib.Dec.{eqb}
use lib.ListN.{length, drop, get_or, drop_of_length-le}
use lib.Seq.{drop-cons}
use borrow.Author.Tests.{eq-eqb, ne_eqb}
use Rattle.rules.specs.Lists.{text, same}
use Rattle.rules.specs.Instructions.{rows, codes, names, name_of}
use Rattle.rules.specs.Assemble.{place_in, code_named}
use Rattle.rules.proofs.Tests.{either}

-- ---- two texts

pub same_length : (s t : List ℕ) → (length s ≡ length t → ⊥) → same s t ≡ false
unfolding same
same_length [] [] h = absurd (h refl)
same_length [] (b ∷ t) h = refl
same_length (a ∷ s) [] h = refl
same_length (a ∷ s) (b ∷ t) h = rw (same_length s t (λ e. h (ap suc e))) (and-false (eqb a b))

-- from place i on: nothing left, a byte that differs, a byte that agrees
module _ (s t : List ℕ) (i : ℕ) where
  pub same_end : length s ≤ i → length t ≤ i → same (drop i s) (drop i t) ≡ true
  unfolding same
  same_end h k = rw (drop_of_length-le s h, drop_of_length-le t k)

  pub same_no : i < length s → i < length t → (get_or t i 0 ≡ get_or s i 0 → ⊥) → same (drop i s) (drop i t) ≡ false
  unfolding same
  same_no h k e = rw (drop-cons s i 0 h, drop-cons t i 0 k, ne_eqb (get_or s i 0) (get_or t i 0) (λ q. e (sym q)))

  pub same_more : i < length s → i < length t → get_or t i 0 ≡ get_or s i 0 → same (drop i s) (drop i t) ≡ same (drop (i + 1) s) (drop (i + 1) t)
  unfolding same
  same_more h k e = rw (drop-cons s i 0 h, drop-cons t i 0 k, add-one, eq-eqb (get_or s i 0) (get_or t i 0) (sym e))

-- ---- a text among the names

length_names : length names ≡ codes
unfolding names rows text
length_names = refl

-- from code i on: it is this name, it is not, no name is left
module _ (t : List ℕ) (i : ℕ) (h : i < codes) where
  open_place : place_in i (drop i names) t ≡ place_in i (name_of i ∷ drop (i + 1) names) t
  unfolding name_of
  open_place = ap (λ (l : List (List ℕ)). place_in i l t) (drop-cons names i [] (rw length_names h) ∙ rw add-one)

  pub named_yes : same (name_of i) t ≡ true → place_in i (drop i names) t ≡ i
  unfolding place_in
  named_yes k = open_place ∙ rw k

  pub named_no : same (name_of i) t ≡ false → place_in i (drop i names) t ≡ place_in (i + 1) (drop (i + 1) names) t
  unfolding place_in
  named_no k = open_place ∙ rw k

pub named_end : (t : List ℕ) → place_in codes (drop codes names) t ≡ codes
unfolding place_in
named_end t = rw (drop_of_length-le names {i = codes} (rw length_names (omega arith)))

-- ---- the place of a text is at most the end's

place_most : (k : ℕ) (l : List (List ℕ)) (t : List ℕ) → place_in k l t ≤ k + length l
unfolding place_in
place_most k [] t = omega arith
place_most k (n ∷ l) t = either (λ (i : ℕ). i ≤ k + suc (length l)) (same n t) (omega arith) (omega (arith, place_most (k + 1) l t))

pub named_most : (t : List ℕ) → code_named t ≤ codes
unfolding code_named
named_most t = omega (arith, place_most 0 names t, length_names)
