-- The names: each is at most nine capital letters, computed from the table, and a text that has the word of one is that name. Assumes nothing.
use Prim.Native.Nat.{ℕ, zero, suc, ◌+◌, ◌≤◌, ◌<◌}
use mathlib.Core.Path.{◌≡◌, refl, sym, ap, ◌∙◌}
use mathlib.Core.Bool.{Bool, true, false, true≢false}
use mathlib.Core.List.{List, []}
use native.Mathlib.Omega.{arith}
use lib.Dec.{ltb, eqb}
use lib.ListN.{length, drop, get_or-eq_default}
use lib.Arith.{lt_of_le-ne}
use borrow.Author.Tests.{ltb-true, ltb-false, eq-eqb, ne_eqb, lt-ltb}
use Rattle.std.proofs.Common.{Some, None}
use Rattle.std.specs.List.{find, range_with_len}
use Rattle.rules.specs.Assemble.{place_in, code_named}
use Rattle.rules.proofs.Search.{named_yes, named_no, named_end}
use Rattle.rules.specs.Lists.{text, all, same}
use Rattle.rules.specs.Instructions.{rows, codes, names, name_of}
use Rattle.rules.proofs.Tests.{by_test, below, at_below, same_refl, same_equal}
use Rattle.program.specs.NameWords.{capital, word_of, name_like, text_word, named}
use Rattle.program.proofs.NameWords.{word_equal, like_word, word_like, like_capital, like_short}

-- past the last code there is no name
name_past : (c : ℕ) → codes ≤ c → name_of c ≡ []
unfolding name_of names rows
name_past c h = get_or-eq_default names [] h

pub word_past : (c : ℕ) → codes ≤ c → word_of (name_of c) ≡ 0
unfolding word_of
word_past c h = ap word_of (name_past c h)

names_like : below (λ (c : ℕ). name_like (name_of c)) codes ≡ true
unfolding name_like all capital name_of names rows text
names_like = refl

name_like_lem : (c : ℕ) → name_like (name_of c) ≡ true
unfolding name_like all
name_like_lem c =
    by_test (ltb c codes)
    (λ h. at_below (λ (d : ℕ). name_like (name_of d)) codes names_like c (ltb-true c codes h))
    (λ h. ap name_like (name_past c (ltb-false c codes h)))

pub name_capital : (c : ℕ) → all capital (name_of c) ≡ true
name_capital c = like_capital (name_of c) (name_like_lem c)

pub name_short : (c : ℕ) → length (name_of c) ≤ 9
name_short c = like_short (name_of c) (name_like_lem c)

-- ---- what the `_` of a `match` knows of a code: it is none of those below n

abbrev pub NoneBelow : ℕ → ℕ → Type 0
NoneBelow zero c = Unit {0}
NoneBelow (suc n) c = NoneBelow n c × (c ≡ n → ⊥)

pub none_below : (n c : ℕ) → NoneBelow n c → n ≤ c
none_below zero c r = omega arith
none_below (suc n) c r = lt_of_le-ne (none_below n c r.0) (λ (e : n ≡ c). r.1 (sym e))

-- ---- a text is the name that has its word: it is found among the codes by a test that tells it

module _ (t : List ℕ) (p : ℕ → Bool) (tells : (c : ℕ) → c < codes → same (name_of c) t ≡ p c) where
  find_from : (n i : ℕ) → i + n ≡ codes → find p (range_with_len i n) ≡ named (place_in i (drop i names) t)
  find_from zero i h =
      let e : i ≡ codes = omega arith in
      rw (e, named_end t) refl
  find_from (suc n) i h =
      let l : i < codes = omega arith in
      by_test (p i)
      (λ k. rw (k, named_yes t i l (tells i l ∙ k), lt-ltb i codes l) refl)
      (λ k. rw (k, named_no t i l (tells i l ∙ k)) (find_from n (i + 1) (omega arith)))

  find_named : find p (range_with_len 0 codes) ≡ named (code_named t)
  unfolding code_named
  find_named = find_from codes 0 refl

-- the test of a text that has a word
abbrev pub has_word : ℕ → ℕ → Bool
has_word w c = eqb (word_of (name_of c)) w

word_tells : (t : List ℕ) (w : ℕ) → text_word t ≡ Some w → (c : ℕ) → same (name_of c) t ≡ has_word w c
word_tells t w e c =
    let l = word_like t w e in
    by_test (same (name_of c) t)
    (λ k. k ∙ sym (eq-eqb _ w (ap word_of (same_equal (name_of c) t k) ∙ sym l.1)))
    (λ k. k ∙ sym (ne_eqb _ w (λ q.
    let s : same (name_of c) t ≡ true = rw (word_equal (name_of c) t (name_capital c) (like_capital t l.0) (q ∙ l.1)) (same_refl t) in
    true≢false (sym s ∙ k))))

pub word_found : (t : List ℕ) (w : ℕ) → text_word t ≡ Some w → find (has_word w) (range_with_len 0 codes) ≡ named (code_named t)
word_found t w e = find_named t (has_word w) (λ c h. word_tells t w e c)

-- a text with no word is no name
unlike_tells : (t : List ℕ) → text_word t ≡ None → (c : ℕ) → same (name_of c) t ≡ false
unlike_tells t e c =
    by_test (same (name_of c) t)
    (λ k.
    let f = rw (← same_equal (name_of c) t k) at e in
    let g = like_word (name_of c) (name_short c) (name_capital c) in
    cc)
    (λ k. k)

pub none_found : (t : List ℕ) → text_word t ≡ None → named (code_named t) ≡ None
none_found t e = sym (find_named t (λ c. false) (λ c h. unlike_tells t e c))
