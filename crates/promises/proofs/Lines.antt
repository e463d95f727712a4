-- Request a: the line and the column of a place name the byte of that place. For every source and every place of it, the place behind its last byte
-- among them: the lines that the source is cut into have that line, the line has that column, as many bytes stand before the two as before the
-- place, and the byte there is the same (`same_byte`). No other line and column name that place (`one_position`). Assumes nothing.
use Prim.Native.Nat.{ℕ, zero, suc, ◌+◌, ◌-◌, ◌≤◌, ◌<◌}
use mathlib.Core.Path.{◌≡◌, refl, sym, ap, ◌∙◌}
use mathlib.Core.Bool.{Bool, true, false}
use mathlib.Core.List.{List, [], ◌∷◌}
use native.Mathlib.Nat.{not-suc-le-zero, le_of_suc-le-suc, add-sub_cancel}
use native.Mathlib.Omega.{arith}
use lib.Dec.{eqb, ltb}
use lib.ListN.{length, take, get_or}
use borrow.Author.Tests.{eqb-true, ltb-true, ltb-false}
use Rattle.rules.specs.Bytes.{LF}
use Rattle.rules.specs.Positions.{line_feeds, since_lf, position_of}
use Rattle.rules.specs.declared.Position.{Position}
use Rattle.rules.proofs.Positions.{feeds_lf, feeds_other, since_none, since_some}
use Rattle.rules.proofs.Tests.{by_test}
use Rattle.promises.specs.Refusals.{before, lines, bytes_of, SameByte}

-- ---- a byte among lines

-- the byte x has the place n, and stands in these lines at that line and column, both from 0
record Stands (ls : List (List ℕ)) (n x line column : ℕ) : Type 0 where
  has_line : line < length ls
  has_column : column ≤ length (get_or ls line [])
  arrives : bytes_of (take line ls) + column ≡ n
  byte : get_or (get_or ls line []) column LF ≡ x

-- the first byte of the first line
starts : (l : List ℕ) (ls : List (List ℕ)) (x : ℕ) → get_or l 0 LF ≡ x → Stands (l ∷ ls) 0 x 0 0
unfolding bytes_of
starts l ls x e = record { has_line = omega arith; has_column = omega arith; arrives = refl; byte = e }

before_starts : (b : ℕ) (ls : List (List ℕ)) → Stands (before b ls) 0 b 0 0
unfolding before
before_starts b [] = starts (b ∷ []) [] b refl
before_starts b (l ∷ ls) = starts (b ∷ l) ls b refl

module _ (n x column : ℕ) where
  -- an empty line more above all
  below_line : (line : ℕ) (ls : List (List ℕ)) → Stands ls n x line column → Stands ([] ∷ ls) (suc n) x (suc line) column
  unfolding bytes_of
  below_line line ls w =
      record { has_line = omega arith; has_column = w.has_column; arrives = omega (arith, w.arrives); byte = w.byte }

  -- a byte more in front of the first line: what stands there moves by a column
  in_first : (b : ℕ) (ls : List (List ℕ)) → Stands ls n x 0 column → Stands (before b ls) (suc n) x 0 (suc column)
  unfolding before bytes_of
  in_first b [] w = absurd (omega (arith, w.has_line))
  in_first b (l ∷ ls) w =
      record { has_line = omega arith; has_column = omega (arith, w.has_column); arrives = omega (arith, w.arrives); byte = w.byte }

  -- and what stands in a later line keeps its column
  in_later : (b line : ℕ) (ls : List (List ℕ)) → Stands ls n x (suc line) column → Stands (before b ls) (suc n) x (suc line) column
  unfolding before bytes_of
  in_later b line [] w = absurd (omega (arith, w.has_line))
  in_later b line (l ∷ ls) w =
      record { has_line = omega (arith, w.has_line); has_column = w.has_column; arrives = omega (arith, w.arrives); byte = w.byte }

-- ---- a byte in front of a source

lines_lf : (b : ℕ) (s : List ℕ) → eqb b LF ≡ true → lines (b ∷ s) ≡ [] ∷ lines s
unfolding lines
lines_lf b s e = rw e

lines_other : (b : ℕ) (s : List ℕ) → eqb b LF ≡ false → lines (b ∷ s) ≡ before b (lines s)
unfolding lines
lines_other b s e = rw e

-- ---- every place of a source

-- the byte x, of the place n, stands in the lines of s at the line and the column that are read off the text t before it
abbrev StandsAfter : List ℕ → ℕ → ℕ → List ℕ → Type 0
StandsAfter s n x t = Stands (lines s) n x (line_feeds t) (length (since_lf t))

stands_first : (s : List ℕ) → StandsAfter s 0 (get_or s 0 LF) []
unfolding lines line_feeds since_lf
stands_first [] = starts [] [] LF refl
stands_first (b ∷ s) =
    by_test (eqb b LF)
    (λ e. rw (lines_lf b s e) (starts [] (lines s) b (sym (eqb-true b LF e))))
    (λ e. rw (lines_other b s e) (before_starts b (lines s)))

module _ (b : ℕ) (s t : List ℕ) (n x : ℕ) where
  -- a byte b more in front: a LF moves all one line down, and any other moves what stands in the first line by a column
  stands_next : (e : Bool) → eqb b LF ≡ e → (k : ℕ) → line_feeds t ≡ k → StandsAfter s n x t → StandsAfter (b ∷ s) (suc n) x (b ∷ t)
  stands_next true e k f w =
      let g = feeds_lf b t e in
      rw (lines_lf b s e, g, since_some b t (line_feeds t) g) (below_line n x (length (since_lf t)) (line_feeds t) (lines s) w)
  stands_next false e zero f w =
      let g = feeds_other b t e ∙ f in
      rw (lines_other b s e, g, since_none (b ∷ t) g) (in_first n x (length t) b (lines s) (rw (f, since_none t f) at w))
  stands_next false e (suc k) f w =
      let g = feeds_other b t e ∙ f in
      rw (lines_other b s e, g, since_some b t k g) (in_later n x (length (since_lf t)) b k (lines s) (rw f at w))

stands : (s : List ℕ) (n : ℕ) → n ≤ length s → StandsAfter s n (get_or s n LF) (take n s)
stands s zero h = stands_first s
stands [] (suc n) h = absurd (not-suc-le-zero h)
stands (b ∷ s) (suc n) h =
    stands_next b s (take n s) n (get_or s n LF) (eqb b LF) refl (line_feeds (take n s)) refl (stands s n (le_of_suc-le-suc h))

pub same_byte : (source : List ℕ) (at : ℕ) → at ≤ length source → SameByte source (position_of source at)
unfolding position_of
same_byte source at h =
    let w = stands source at h in
    record {
      line_from = omega arith;
      line_to = omega (arith, w.has_line);
      column_from = omega arith;
      column_to = rw add-sub_cancel (omega (arith, w.has_column));
      arrives = simp add-sub_cancel w.arrives;
      byte = simp add-sub_cancel w.byte;
    }

-- ---- no other line and column name it

-- a line takes its bytes and its LF
bytes_next : (ls : List (List ℕ)) (k : ℕ) → k < length ls → bytes_of (take (suc k) ls) ≡ bytes_of (take k ls) + length (get_or ls k []) + 1
unfolding bytes_of
bytes_next [] k h = absurd (not-suc-le-zero h)
bytes_next (l ∷ ls) zero h = omega arith
bytes_next (l ∷ ls) (suc k) h = omega (arith, bytes_next ls k (le_of_suc-le-suc h))

-- a line further down begins no earlier
bytes_down : (ls : List (List ℕ)) (j k : ℕ) → j ≤ k → bytes_of (take j ls) ≤ bytes_of (take k ls)
unfolding bytes_of
bytes_down ls zero k h = omega arith
bytes_down [] (suc j) k h = omega arith
bytes_down (l ∷ ls) (suc j) zero h = absurd (not-suc-le-zero h)
bytes_down (l ∷ ls) (suc j) (suc k) h = omega (arith, bytes_down ls j k (le_of_suc-le-suc h))

module _ (source : List ℕ) where
  -- what stands in a line stands before the next
  not_above : (p q : Position) → SameByte source p → SameByte source q → p.place ≡ q.place → p.line < q.line → ⊥
  not_above p q v w e h =
      let ls = lines source in
      let k = p.line - 1 in
      let next = bytes_next ls k (omega (arith, v.line_from, v.line_to)) in
      let down = bytes_down ls (suc k) (q.line - 1) (omega (arith, v.line_from, h)) in
      omega (arith, v.column_from, v.column_to, v.arrives, w.arrives, e, next, down)

  pub one_position : (p q : Position) → SameByte source p → SameByte source q → p.place ≡ q.place → p ≡ q
  one_position p q v w e =
      let line : p.line ≡ q.line =
      by_test (ltb p.line q.line)
      (λ t. absurd (not_above p q v w e (ltb-true p.line q.line t)))
      (λ f.
      by_test (ltb q.line p.line)
      (λ t. absurd (not_above q p w v (sym e) (ltb-true q.line p.line t)))
      (λ g. omega (arith, ltb-false p.line q.line f, ltb-false q.line p.line g))) in
      let above = ap (λ (k : ℕ). bytes_of (take (k - 1) (lines source))) line in
      let column : p.column ≡ q.column =
      omega (arith, v.column_from, w.column_from, v.arrives, w.arrives, e, above) in
      λ i. record { place = e i; line = line i; column = column i }
