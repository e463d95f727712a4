-- Laws of the bytes of a token: the first that is not allowed, words, labels and pieces. Assumes nothing.
use Rattle.std.proofs.Common.{◌≡◌, ℕ, suc, ◌+◌, ◌-◌, ◌<◌, ◌≤◌, Bool, true, false, cond, not, ◌&&◌, eqb, ltb, List, [], ◌∷◌, ◌++◌, length, get_or, take, drop, Bor, Option, Some, None, refl, sym, ap, ◌∙◌, ⊎_elim, arith}
use Rattle.std.specs.Prelude.{position, MatchOption}
use Rattle.std.specs.Bool.{then_some}
use Rattle.std.specs.List.{position_or_len, list_all}
use Rattle.std.specs.Cmp.Lexicographic.{pointwise}
use Rattle.std.proofs.lemmas.Bool.{ltb-true, ltb-false, eq-eqb, ne_eqb, cases_lt}
use Rattle.std.proofs.lemmas.List.{take_at, get_or_at, length_push, length-take-le, take-take, take_more, take_all, get_or_past}
use Rattle.std.proofs.lemmas.List.Recursion.{same_from_clauses, is_position_or_len}
use Rattle.std.proofs.lemmas.Option.{cond_some}
use Rattle.rules.specs.Lists.{same}
use Rattle.rules.specs.Bytes.{letter, word_byte, allowed, all_word, is_word}
use Rattle.rules.specs.Assemble.{allowed_run, body, is_label}
use Rattle.tokens.specs.Next.{between}
use Rattle.tokens.proofs.Unique.{length_between}
use Rattle.assembler.specs.Held.{piece}
use Rattle.assembler.proofs.Options.{none_false}

-- ---- the rules' tests are std's

pub same_is : (s t : List ℕ) → same s t ≡ pointwise eqb s t
unfolding same
same_is [] [] = refl
same_is [] (y ∷ ys) = refl
same_is (x ∷ xs) [] = refl
same_is (x ∷ xs) (y ∷ ys) = ap (λ b. eqb x y && b) (same_is xs ys)

all_word_is : (t : List ℕ) → all_word t ≡ list_all word_byte t
unfolding all_word
all_word_is = same_from_clauses all_word (list_all word_byte) (λ b r. word_byte b && r) refl (λ b s. refl) (λ b s. refl)

-- ---- the first byte that is not allowed

cond_not : (b : Bool) (x y : ℕ) → cond b x y ≡ cond (not b) y x
cond_not true x y = refl
cond_not false x y = refl

run_is : (t : List ℕ) → allowed_run t ≡ position_or_len (λ b. not (allowed b)) t
unfolding allowed_run
run_is = is_position_or_len allowed_run (λ b. not (allowed b)) refl (λ b s. cond_not (allowed b) (suc (allowed_run s)) 0 ∙ ap (cond (not (allowed b)) 0) (omega arith))

pub run_at : (t : List ℕ) (k : ℕ) → position (λ b. not (allowed b)) t ≡ Some k → (allowed_run t < length t) × (allowed_run t ≡ k)
run_at t k e =
    let h = cond_some (ltb (position_or_len (λ b. not (allowed b)) t) (length t)) (position_or_len (λ b. not (allowed b)) t) k e in
    (rw run_is (ltb-true _ _ h.0), run_is t ∙ h.1)

pub run_all : (t : List ℕ) → position (λ b. not (allowed b)) t ≡ None → length t ≤ allowed_run t
run_all t e = rw run_is (ltb-false _ _ (none_false _ _ e))

-- ---- words and labels

pub word_none : (t : List ℕ) → length t < 1 → is_word t ≡ false
unfolding is_word
word_none [] h = refl
word_none (b ∷ s) h = absurd (omega arith)

pub word_yes : (t : List ℕ) → 1 ≤ length t → letter (get_or t 0 0) ≡ true → is_word t ≡ list_all word_byte (drop 1 t)
unfolding is_word
word_yes [] h k = absurd (omega arith)
word_yes (b ∷ s) h k = rw (k, all_word_is)

module _ (t name : List ℕ) (e : t ≡ name ++ 58 ∷ []) where
  last : get_or t (length t - 1) 0 ≡ 58
  last =
      let n : length name ≡ length t - 1 = omega (arith, length_push name 58, ap length e) in
      ap (λ s. get_or s (length t - 1) 0) e ∙ get_or_at name 58 [] 0 (length t - 1) n

  body_is : body t ≡ name
  unfolding body
  body_is =
      let n : length name ≡ length t - 1 = omega (arith, length_push name 58, ap length e) in
      ap (take (length t - 1)) e ∙ take_at name (58 ∷ []) (length t - 1) n

  label_is : is_label t ≡ is_word name
  unfolding is_label
  label_is = rw (eq-eqb _ _ last, body_is)

label_none : (t : List ℕ) → ((front : List ℕ) → t ≡ front ++ 58 ∷ [] → ⊥) → is_label t ≡ false
unfolding is_label
label_none t h =
    let other : get_or t (length t - 1) 0 ≡ 58 → ⊥ = λ e.
    ⊎_elim
    (λ l.
    let n : length t - 1 + 1 ≡ length t = omega arith in
    h (take (length t - 1) t)
    (sym (take_all (length t - 1 + 1) t (omega arith)) ∙ take_more t (length t - 1) 0 (omega arith) ∙ ap (λ b. take (length t - 1) t ++ b ∷ []) e))
    (λ l. omega (arith, e, get_or_past t (length t - 1) 0 (omega arith)))
    (cases_lt 0 (length t)) in
    rw (ne_eqb _ _ other)

-- what a word with a colon behind it leaves of the text before the colon
pub named_is : (t : List ℕ) (before named : Option (Bor (List ℕ))) (P : Bor (List ℕ) → Bool → Type 0)
    → ((x : Bor (List ℕ)) (b : Bool) → P x b → b ≡ is_word x.now)
    → MatchOption before ((front : List ℕ) → t ≡ front ++ 58 ∷ [] → ⊥) (λ x. t ≡ x.now ++ 58 ∷ [])
    → MatchOption before (named ≡ None) (λ x. (b : Bool) × P x b × (named ≡ then_some b x))
    → MatchOption named (is_label t ≡ false) (λ name. (is_label t ≡ true) × (name.now ≡ body t))
named_is t None named P h e k = rw k (label_none t e)
named_is t (Some x) named P h e (true, p, k) = rw k (label_is t x.now e ∙ sym (h x true p), sym (body_is t x.now e))
named_is t (Some x) named P h e (false, p, k) = rw k (label_is t x.now e ∙ sym (h x false p))

-- ---- the bytes of a token where they stand in the source

module _ (src : List ℕ) (a e : ℕ) (h : a ≤ e) (k : e ≤ length src) where
  size : length (between src a e) ≡ e - a
  size = length_between src a e h k

  pub piece_token : piece src a (length (between src a e)) ≡ between src a e
  unfolding piece between
  piece_token = ap (λ n. take n (drop a src)) size

  pub piece_body : piece src a (length (body (between src a e))) ≡ body (between src a e)
  unfolding piece between body
  piece_body =
      let t : List ℕ = between src a e in
      let n : length t - 1 ≤ e - a = omega (arith, size) in
      let m : length (take (length t - 1) t) ≡ length t - 1 = length-take-le (length t - 1) t (omega arith) in
      rw m (sym (take-take (length t - 1) (e - a) (drop a src) n))
