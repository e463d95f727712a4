-- Laws of the tokens from a place of a source on: what stands there decides where they go on. Assumes nothing.
use mathlib.Core.Path.{◌≡◌, refl, ap, ◌∙◌}
use mathlib.Core.Bool.{true, false, ◌||◌}
use lib.Dec.{eqb}
use borrow.Author.Tests.{eq-eqb, ne_eqb}
use mathlib.Core.List.{List, [], ◌∷◌}
use Prim.Native.Nat.{ℕ, suc, ◌+◌, ◌-◌, ◌≤◌, ◌<◌}
use native.Mathlib.Omega.{arith}
use lib.ListN.{length, drop, get_or, drop_of_length-le}
use Rattle.rules.proofs.Tests.{by_test, drop_next}
use Rattle.rules.proofs.Tokens.{tokens_blank, tokens_comment, tokens_last, tokens_more}
use Rattle.rules.specs.Bytes.{blank}
use Rattle.rules.specs.Tokens.{opens, stops, last, extend, tokens, comment}
use Rattle.tokens.specs.Next.{from, inside, between, Ended}

module _ (src : List ℕ) (i : ℕ) where
  pub from_end : length src ≤ i → from src i ≡ []
  unfolding from tokens
  from_end h = rw (drop_of_length-le src h)

  pub from_blank : i < length src → blank (get_or src i 0) ≡ true → from src i ≡ from src (i + 1)
  unfolding from
  from_blank h k = ap (tokens i) (drop_next src i h) ∙ tokens_blank i (get_or src i 0) (drop (i + 1) src) k

  pub from_comment : i < length src → blank (get_or src i 0) ≡ false → opens (drop i src) ≡ true → from src i ≡ inside src (i + 1)
  unfolding from inside
  from_comment h k l =
      ap (tokens i) (drop_next src i h) ∙ tokens_comment i (get_or src i 0) (drop (i + 1) src) k (rw (drop_next src i h) at l)

  pub inside_end : length src ≤ i → inside src i ≡ []
  unfolding inside comment
  inside_end h = rw (drop_of_length-le src h)

  pub inside_lf : i < length src → get_or src i 0 ≡ 10 → inside src i ≡ from src (i + 1)
  unfolding from inside comment
  inside_lf h k = ap (comment i) (drop_next src i h) ∙ rw (eq-eqb (get_or src i 0) 10 k)

  pub inside_more : i < length src → (get_or src i 0 ≡ 10 → ⊥) → inside src i ≡ inside src (i + 1)
  unfolding inside comment
  inside_more h k = ap (comment i) (drop_next src i h) ∙ rw (ne_eqb (get_or src i 0) 10 k)

  pub part_one : i < length src → between src i (i + 1) ≡ get_or src i 0 ∷ []
  unfolding between
  part_one h =
      let e : i + 1 - i ≡ 1 = omega arith in
      rw (drop_next src i h, e)

  pub part_more : (e : ℕ) → i < e → i < length src → between src i e ≡ get_or src i 0 ∷ between src (i + 1) e
  unfolding between
  part_more e h k =
      let q : e - i ≡ suc (e - (i + 1)) = omega arith in
      rw (drop_next src i k, q)

  pub ended_last : i < length src → stops (drop i src) ≡ false → last (get_or src i 0) (drop (i + 1) src) ≡ true → Ended src i (i + 1)
  unfolding from
  ended_last h k l =
      record {
        low = omega arith;
        high = omega arith;
        first =
            rw (part_one h)
            (ap (tokens i) (drop_next src i h) ∙ tokens_last i (get_or src i 0) (drop (i + 1) src) (rw (drop_next src i h) at k) l);
      }

  pub ended_more : i < length src → stops (drop i src) ≡ false → last (get_or src i 0) (drop (i + 1) src) ≡ false → (e : ℕ) → Ended src (i + 1) e → Ended src i e
  unfolding from extend
  ended_more h k l e t =
      record {
        low = omega arith;
        high = t.high;
        first =
            rw (part_more e (omega arith) h)
            (ap (tokens i) (drop_next src i h)
            ∙ tokens_more i (get_or src i 0) (drop (i + 1) src) (rw (drop_next src i h) at k) l
            ∙ ap (extend i (get_or src i 0)) t.first);
      }

  pub stops_end : length src ≤ i → stops (drop i src) ≡ true
  unfolding stops
  stops_end h = rw (drop_of_length-le src h)

  pub stops_here : i < length src → stops (drop i src) ≡ (blank (get_or src i 0) || opens (drop i src))
  unfolding stops
  stops_here h = rw (drop_next src i h)

pub last_colon : (b : ℕ) (s : List ℕ) → b ≡ 58 → last b s ≡ true
unfolding last
last_colon b s h = rw (eq-eqb b 58 h)

pub last_stops : (b : ℕ) (s : List ℕ) → stops s ≡ true → last b s ≡ true
unfolding last
last_stops b s h = by_test (eqb b 58) (λ k. rw k refl) (λ k. rw (k, h) refl)

pub last_other : (b : ℕ) (s : List ℕ) → (b ≡ 58 → ⊥) → last b s ≡ stops s
unfolding last
last_other b s h = rw (ne_eqb b 58 h)

pub stops_other : (src : List ℕ) (i : ℕ) → i < length src → blank (get_or src i 0) ≡ false → stops (drop i src) ≡ opens (drop i src)
stops_other src i h k = stops_here src i h ∙ rw k
