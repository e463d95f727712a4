-- Lines and columns: what a byte more in front of a text or behind it does to them, and so a place one byte further. Assumes nothing.
use Prim.Native.Nat.{ℕ, zero, suc, ◌+◌, ◌≤◌, ◌<◌}
use mathlib.Core.Path.{◌≡◌, refl, sym, ap, ◌∙◌}
use mathlib.Core.Bool.{true, false}
use mathlib.Core.List.{List, [], ◌∷◌, ◌++◌}
use native.Mathlib.Omega.{arith}
use lib.Dec.{eqb}
use lib.ListN.{length, take, get_or, length-append}
use lib.Seq.{take-suc, take_all}
use borrow.Author.Tests.{eq-eqb, ne_eqb}
use Rattle.rules.specs.Bytes.{LF}
use Rattle.rules.specs.Positions.{line_feeds, since_lf}
use Rattle.rules.proofs.Tests.{by_test}

-- ---- a byte in front

module _ (b : ℕ) (t : List ℕ) where
  pub feeds_lf : eqb b LF ≡ true → line_feeds (b ∷ t) ≡ suc (line_feeds t)
  unfolding line_feeds
  feeds_lf e = rw e

  pub feeds_other : eqb b LF ≡ false → line_feeds (b ∷ t) ≡ line_feeds t
  unfolding line_feeds
  feeds_other e = rw e

  -- an LF at b or behind it: b does not stand behind the last
  pub since_some : (k : ℕ) → line_feeds (b ∷ t) ≡ suc k → since_lf (b ∷ t) ≡ since_lf t
  unfolding since_lf
  since_some k e = rw (ne_eqb (line_feeds (b ∷ t)) 0 (λ z. omega (arith, e, z)))

-- no LF: all of it stands behind the last
pub since_none : (t : List ℕ) → line_feeds t ≡ 0 → since_lf t ≡ t
unfolding since_lf
since_none [] e = refl
since_none (b ∷ t) e = rw (eq-eqb (line_feeds (b ∷ t)) 0 e)

-- ---- a byte behind

module _ (b : ℕ) (h : eqb b LF ≡ true) where
  feeds_then_lf : (t : List ℕ) → line_feeds (t ++ b ∷ []) ≡ suc (line_feeds t)
  feeds_then_lf [] = feeds_lf b [] h
  feeds_then_lf (a ∷ t) =
      by_test (eqb a LF)
      (λ e. feeds_lf a (t ++ b ∷ []) e ∙ ap suc (feeds_then_lf t ∙ sym (feeds_lf a t e)))
      (λ e. feeds_other a (t ++ b ∷ []) e ∙ feeds_then_lf t ∙ ap suc (sym (feeds_other a t e)))

  since_then_lf : (t : List ℕ) → since_lf (t ++ b ∷ []) ≡ []
  unfolding since_lf
  since_then_lf [] = since_some b [] (line_feeds []) (feeds_then_lf [])
  since_then_lf (a ∷ t) = since_some a (t ++ b ∷ []) (line_feeds (a ∷ t)) (feeds_then_lf (a ∷ t)) ∙ since_then_lf t

module _ (b : ℕ) (h : eqb b LF ≡ false) where
  feeds_then_other : (t : List ℕ) → line_feeds (t ++ b ∷ []) ≡ line_feeds t
  feeds_then_other [] = feeds_other b [] h
  feeds_then_other (a ∷ t) =
      by_test (eqb a LF)
      (λ e. feeds_lf a (t ++ b ∷ []) e ∙ ap suc (feeds_then_other t) ∙ sym (feeds_lf a t e))
      (λ e. feeds_other a (t ++ b ∷ []) e ∙ feeds_then_other t ∙ sym (feeds_other a t e))

  module _ (a : ℕ) (t : List ℕ) where
    longer : (k : ℕ) → line_feeds (a ∷ t) ≡ k → since_lf (t ++ b ∷ []) ≡ since_lf t ++ b ∷ []
        → since_lf (a ∷ t ++ b ∷ []) ≡ since_lf (a ∷ t) ++ b ∷ []
    longer zero e i =
        since_none (a ∷ t ++ b ∷ []) (feeds_then_other (a ∷ t) ∙ e) ∙ ap (λ (l : List ℕ). l ++ b ∷ []) (sym (since_none (a ∷ t) e))
    longer (suc k) e i =
        since_some a (t ++ b ∷ []) k (feeds_then_other (a ∷ t) ∙ e) ∙ i ∙ ap (λ (l : List ℕ). l ++ b ∷ []) (sym (since_some a t k e))

  since_then_other : (t : List ℕ) → since_lf (t ++ b ∷ []) ≡ since_lf t ++ b ∷ []
  unfolding line_feeds since_lf
  since_then_other [] = since_none (b ∷ []) (feeds_then_other [])
  since_then_other (a ∷ t) = longer a t (line_feeds (a ∷ t)) refl (since_then_other t)

-- ---- a place and the next

module _ (s : List ℕ) (i : ℕ) (h : i < length s) where
  next : take (i + 1) s ≡ take i s ++ get_or s i 0 ∷ []
  next = let e : i + 1 ≡ suc i = omega arith in ap (λ (k : ℕ). take k s) e ∙ take-suc s i 0 h

  module _ (k : eqb (get_or s i 0) LF ≡ true) where
    pub line_lf : line_feeds (take (i + 1) s) ≡ suc (line_feeds (take i s))
    line_lf = ap line_feeds next ∙ feeds_then_lf (get_or s i 0) k (take i s)

    pub column_lf : length (since_lf (take (i + 1) s)) ≡ 0
    column_lf = ap (λ (t : List ℕ). length (since_lf t)) next ∙ ap length (since_then_lf (get_or s i 0) k (take i s))

  module _ (k : eqb (get_or s i 0) LF ≡ false) where
    pub line_other : line_feeds (take (i + 1) s) ≡ line_feeds (take i s)
    line_other = ap line_feeds next ∙ feeds_then_other (get_or s i 0) k (take i s)

    pub column_other : length (since_lf (take (i + 1) s)) ≡ length (since_lf (take i s)) + 1
    column_other =
        ap (λ (t : List ℕ). length (since_lf t)) next
        ∙ ap length (since_then_other (get_or s i 0) k (take i s))
        ∙ length-append (since_lf (take i s)) (get_or s i 0 ∷ [])

-- ---- the last place

-- no byte stands behind the end
pub before_end : (s : List ℕ) (i place : ℕ) → i ≤ place → length s ≤ i → take i s ≡ take place s
before_end s i place h k = take_all i s k ∙ sym (take_all place s (omega (arith, h, k)))
