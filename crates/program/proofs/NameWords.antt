-- The laws of words: each letter is found in its place, and two texts of capital letters with one word are the same. Assumes nothing.
use Prim.Native.Nat.{ℕ, zero, suc, ◌+◌, ◌-◌, ◌*◌, ◌/◌, ◌%◌, ◌^◌, ◌≤◌, ◌<◌}
use mathlib.Core.Path.{◌≡◌, refl, sym, ap, ap₂, ◌∙◌}
use mathlib.Core.Bool.{true, false, and-false}
use mathlib.Core.List.{List, [], ◌∷◌, ◌++◌}
use Rattle.std.proofs.Common.{Some, None, append_assoc, length-append, append-nil}
use native.Mathlib.Nat.{zero-div, pow-suc, one-le-pow, not-suc-le-zero, le_of_suc-le-suc}
use native.Mathlib.Omega.{arith}
use lib.Dec.{leb, ltb}
use lib.ListN.{length, drop, get_or, drop_of_length-le, get_or-eq_default}
use lib.Pow.{shr-shr}
use borrow.Author.Tests.{leb-true, le-leb, lt-leb, ltb-true, ltb-false}
use Rattle.rules.specs.Lists.{all}
use Rattle.rules.proofs.Tests.{and_left, and_right, by_test, all_at, drop_next}
use Rattle.std.proofs.lemmas.List.{nil_from_length}
use Rattle.program.specs.NameWords.{capital, word_of, name_like, text_word}

-- ---- capital letters

pub record AtoZ (b : ℕ) : Type 0 where
  pub low : 65 ≤ b
  pub high : b ≤ 90

pub a_to_z : (b : ℕ) → capital b ≡ true → AtoZ b
unfolding capital
a_to_z b h = record { low = leb-true 65 b (and_left (leb 65 b) (leb b 90) h); high = leb-true b 90 (and_right (leb 65 b) (leb b 90) h) }

module _ (b : ℕ) (s : List ℕ) (h : all capital (b ∷ s) ≡ true) where
  first : AtoZ b
  unfolding all
  first = a_to_z b (and_left (capital b) (all capital s) h)

  others : all capital s ≡ true
  unfolding all
  others = and_right (capital b) (all capital s) h

at_place : (s : List ℕ) (i : ℕ) → all capital s ≡ true → i < length s → AtoZ (get_or s i 0)
at_place s i h l = a_to_z (get_or s i 0) (all_at capital s i h l)

-- ---- a word and its letters

-- at most n letters make a word below 32 to the power of n
pub word_below : (n : ℕ) (s : List ℕ) → all capital s ≡ true → length s ≤ n → word_of s < 32 ^ n
unfolding word_of
word_below n [] h l = one-le-pow n 32 (omega arith)
word_below zero (b ∷ s) h l = absurd (not-suc-le-zero l)
word_below (suc n) (b ∷ s) h l = omega (arith, pow-suc 32 n, first b s h, word_below n s (others b s h) (le_of_suc-le-suc l))

-- the letter at place i
letter_at : (s : List ℕ) (i : ℕ) → all capital s ≡ true → word_of s / 2 ^ (i * 5) % 32 ≡ get_or s i 0 - 64
unfolding word_of
letter_at [] i h = rw (zero-div (2 ^ (i * 5)))
letter_at (b ∷ s) zero h = omega (arith, first b s h)
letter_at (b ∷ s) (suc i) h =
    let w : ℕ = (b - 64) + 32 * word_of s in
    let further : suc i * 5 ≡ 5 + i * 5 = omega arith in
    let rest : w / 2 ^ 5 ≡ word_of s = omega (arith, first b s h) in
    rw (further, ← shr-shr w 5 (i * 5), rest) (letter_at s i (others b s h))

-- it is 0 just where there is no byte
module _ (s : List ℕ) (i : ℕ) (h : all capital s ≡ true) {w : ℕ} (e : w ≡ word_of s) where
  pub no_letter : w / 2 ^ (i * 5) % 32 ≡ 0 → get_or s i 0 ≡ 0
  no_letter z =
      by_test (ltb i (length s))
      (λ l. absurd (omega (arith, letter_at s i h, rw e at z, at_place s i h (ltb-true i (length s) l))))
      (λ l. get_or-eq_default s 0 (ltb-false i (length s) l))

  pub a_letter : (w / 2 ^ (i * 5) % 32 ≡ 0 → ⊥) → 64 + w / 2 ^ (i * 5) % 32 ≡ get_or s i 0
  a_letter z =
      by_test (ltb i (length s))
      (λ l. rw e (omega (arith, letter_at s i h, at_place s i h (ltb-true i (length s) l))))
      (λ l. absurd (rw e at z (omega (arith, letter_at s i h, get_or-eq_default s 0 (ltb-false i (length s) l)))))

-- the first letter from place i on, and those after it
pub word_next : (s : List ℕ) (i : ℕ) → i < length s → word_of (drop i s) ≡ (get_or s i 0 - 64) + 32 * word_of (drop (i + 1) s)
unfolding word_of
word_next s i h = ap word_of (drop_next s i h)

-- a word is 0 just where no letter is left; without its first letter it is that of the others
module _ (s : List ℕ) (i : ℕ) (h : all capital s ≡ true) where
  pub word_done : word_of (drop i s) ≡ 0 → length s ≤ i
  word_done e =
      by_test (ltb i (length s))
      (λ l.
      let k : i < length s = ltb-true i (length s) l in
      absurd (omega (arith, word_next s i k, at_place s i h k)))
      (λ l. ltb-false i (length s) l)

  pub word_more : (word_of (drop i s) ≡ 0 → ⊥) → i < length s
  unfolding word_of
  word_more e =
      by_test (ltb i (length s))
      (λ l. ltb-true i (length s) l)
      (λ l. absurd (e (ap word_of (drop_of_length-le s (ltb-false i (length s) l)))))

  pub word_rest : i < length s → word_of (drop i s) / 32 ≡ word_of (drop (i + 1) s)
  word_rest k = omega (arith, word_next s i k, at_place s i h k)

-- ---- two texts with one word

pub word_equal : (s t : List ℕ) → all capital s ≡ true → all capital t ≡ true → word_of s ≡ word_of t → s ≡ t
unfolding word_of
word_equal [] [] h k e = refl
word_equal [] (y ∷ t) h k e = absurd (omega (arith, first y t k))
word_equal (x ∷ s) [] h k e = absurd (omega (arith, first x s h))
word_equal (x ∷ s) (y ∷ t) h k e =
    let p : x ≡ y = omega (arith, first x s h, first y t k) in
    let q : word_of s ≡ word_of t = omega (arith, p) in
    ap₂ ◌∷◌ p (word_equal s t (others x s h) (others y t k) q)

-- ---- the word of a text

module _ (t : List ℕ) where
  pub like_short : name_like t ≡ true → length t ≤ 9
  unfolding name_like
  like_short h = leb-true (length t) 9 (and_left (leb (length t) 9) (all capital t) h)

  pub like_capital : name_like t ≡ true → all capital t ≡ true
  unfolding name_like
  like_capital h = and_right (leb (length t) 9) (all capital t) h

  pub too_long_lem : 9 < length t → None ≡ text_word t
  unfolding name_like text_word
  too_long_lem l = rw (lt-leb (length t) 9 l)

  pub like_word : length t ≤ 9 → all capital t ≡ true → Some (word_of t) ≡ text_word t
  unfolding name_like text_word
  like_word l h = rw (le-leb (length t) 9 l, h)

  pub word_like : (w : ℕ) → text_word t ≡ Some w → (name_like t ≡ true) × (w ≡ word_of t)
  unfolding text_word
  word_like w e =
      by_test (name_like t)
      (λ h.
      let k = rw h at e in
      (h, cc))
      (λ h.
      let k = rw h at e in
      cc)

-- ---- a text read from its end: what is left of it, and capital letters after that, whose word is w

pub record ReadTo (t left : List ℕ) (w : ℕ) : Type 0 where
  pub done : List ℕ
  pub short : length t ≤ 9
  pub whole : t ≡ left ++ done
  pub letters : all capital done ≡ true
  pub word : w ≡ word_of done

pub nothing_read : (t left : List ℕ) → length t ≤ 9 → left ≡ t → ReadTo t left 0
unfolding all word_of
nothing_read t left h e = record { done = []; short = h; whole = sym e ∙ sym (append-nil left); letters = refl; word = refl }

capital_not : (front done : List ℕ) (b : ℕ) → capital b ≡ false → all capital (front ++ (b ∷ done)) ≡ false
unfolding all
capital_not [] done b h = rw h
capital_not (x ∷ front) done b h = rw (capital_not front done b h) (and-false (capital x))

module _ {t left : List ℕ} {w : ℕ} (r : ReadTo t left w) where
  -- there is room for one letter more
  pub word_room : w < 32 ^ 9
  word_room = rw r.word (word_below 9 r.done r.letters (omega (arith, ap length r.whole, length-append left r.done)))

  pub all_read : length left ≡ 0 → Some w ≡ text_word t
  all_read h =
      let e : t ≡ r.done = r.whole ∙ ap (λ (l : List ℕ). l ++ r.done) (nil_from_length left h) in
      rw r.word (rw e (like_word r.done (rw e at r.short) r.letters))

  module _ (front : List ℕ) (b : ℕ) (k : left ≡ front ++ (b ∷ [])) where
    split : t ≡ front ++ (b ∷ r.done)
    split = r.whole ∙ ap (λ (l : List ℕ). l ++ r.done) k ∙ append_assoc front (b ∷ []) r.done

    pub read_more : capital b ≡ true → ReadTo t front (w * 32 + (b - 64))
    unfolding all word_of
    read_more h = record { done = b ∷ r.done; short = r.short; whole = split; letters = rw h r.letters; word = omega (arith, r.word) }

    pub read_other : capital b ≡ false → None ≡ text_word t
    unfolding name_like text_word
    read_other h = rw (split, capital_not front r.done b h, and-false (leb (length (front ++ (b ∷ r.done))) 9))
