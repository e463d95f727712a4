-- The tokens of plain bytes: those that neither end a token nor open a comment. Assumes nothing.
use Prim.Native.Nat.{ℕ, ◌+◌}
use mathlib.Core.Path.{◌≡◌, refl, ap, ◌∙◌}
use mathlib.Core.Bool.{Bool, true, false, not, ◌&&◌, ◌||◌, or-true}
use mathlib.Core.List.{List, [], ◌∷◌, ◌++◌}
use native.Mathlib.Omega.{arith}
use lib.Dec.{eqb}
use lib.ListN.{length}
use borrow.Author.Tests.{not-true}
use Rattle.rules.specs.Bytes.{LF, space, slash, colon, blank}
use Rattle.rules.specs.Tokens.{Token, opens, stops, last, extend, tokens, comment}
use Rattle.rules.proofs.Tests.{and_left, and_right, or_left, or_right}

-- ---- what stands in front decides where the tokens go on

pub tokens_blank : (at b : ℕ) (s : List ℕ) → blank b ≡ true → tokens at (b ∷ s) ≡ tokens (at + 1) s
unfolding tokens
tokens_blank at b s h = rw h

pub tokens_comment : (at b : ℕ) (s : List ℕ) → blank b ≡ false → opens (b ∷ s) ≡ true → tokens at (b ∷ s) ≡ comment (at + 1) s
unfolding tokens
tokens_comment at b s h k = rw (h, k)

pub tokens_last : (at b : ℕ) (s : List ℕ) → stops (b ∷ s) ≡ false → last b s ≡ true → tokens at (b ∷ s) ≡ record { at = at; text = b ∷ [] } ∷ tokens (at + 1) s
unfolding tokens stops
tokens_last at b s h k = rw (or_left (blank b) (opens (b ∷ s)) h, or_right (blank b) (opens (b ∷ s)) h, k)

pub tokens_more : (at b : ℕ) (s : List ℕ) → stops (b ∷ s) ≡ false → last b s ≡ false → tokens at (b ∷ s) ≡ extend at b (tokens (at + 1) s)
unfolding tokens stops
tokens_more at b s h k = rw (or_left (blank b) (opens (b ∷ s)) h, or_right (blank b) (opens (b ∷ s)) h, k)

-- ---- plain bytes

-- a byte that neither ends a token nor can open a comment
unfoldable pub plain : ℕ → Bool
plain b = not (blank b || eqb b slash || eqb b colon)

unfoldable pub all_plain : List ℕ → Bool
all_plain [] = true
all_plain (b ∷ s) = plain b && all_plain s

module _ (b : ℕ) (h : plain b ≡ true) where
  none : (blank b || eqb b slash || eqb b colon) ≡ false
  unfolding plain
  none = not-true (blank b || eqb b slash || eqb b colon) h

  no_blank : blank b ≡ false
  no_blank = or_left (blank b) (eqb b slash) (or_left (blank b || eqb b slash) (eqb b colon) none)

  no_slash : eqb b slash ≡ false
  no_slash = or_right (blank b) (eqb b slash) (or_left (blank b || eqb b slash) (eqb b colon) none)

  no_colon : eqb b colon ≡ false
  no_colon = or_right (blank b || eqb b slash) (eqb b colon) none

  goes_on_lem : (s : List ℕ) → stops (b ∷ s) ≡ false
  unfolding stops opens
  goes_on_lem [] = rw no_blank
  goes_on_lem (a ∷ s) = rw (no_blank, no_slash)

  not_last : (a : ℕ) (s : List ℕ) → stops (a ∷ s) ≡ false → last b (a ∷ s) ≡ false
  unfolding last
  not_last a s k = rw (no_colon, k)

last_stop : (b : ℕ) (s : List ℕ) → stops s ≡ true → last b s ≡ true
unfolding last
last_stop b s h = rw h (or-true (eqb b colon))

extend_word : (at n b : ℕ) (w : List ℕ) (ts : List Token) → extend at b (record { at = n; text = w } ∷ ts) ≡ record { at = at; text = b ∷ w } ∷ ts
unfolding extend
extend_word at n b w ts = refl

-- plain bytes before what ends a token are one token
pub tokens_word : (at b : ℕ) (w rest : List ℕ) → all_plain (b ∷ w) ≡ true → stops rest ≡ true → tokens at (b ∷ (w ++ rest)) ≡ record { at = at; text = b ∷ w } ∷ tokens (at + length (b ∷ w)) rest
unfolding all_plain
tokens_word at b [] rest h k =
    let p = and_left (plain b) true h in
    tokens_last at b rest (goes_on_lem b p rest) (last_stop b rest k)
tokens_word at b (a ∷ w) rest h k =
    let p = and_left (plain b) (all_plain (a ∷ w)) h in
    let q = and_right (plain b) (all_plain (a ∷ w)) h in
    let e : at + 1 + length (a ∷ w) ≡ at + length (b ∷ a ∷ w) = omega arith in
    tokens_more at b (a ∷ (w ++ rest)) (goes_on_lem b p (a ∷ (w ++ rest))) (not_last b p a (w ++ rest) (goes_on_lem a (and_left (plain a) (all_plain w) q) (w ++ rest)))
    ∙ ap (extend at b) (tokens_word (at + 1) a w rest q k)
    ∙ extend_word at (at + 1) b (a ∷ w) (tokens (at + 1 + length (a ∷ w)) rest)
    ∙ ap (λ (n : ℕ). record { at = at; text = b ∷ a ∷ w } ∷ tokens n rest) e

-- a word and a LF, and two words with a space between and a LF: the lines of a listing
pub tokens_alone : (at b : ℕ) (w rest : List ℕ) → all_plain (b ∷ w) ≡ true → tokens at (b ∷ (w ++ LF ∷ rest)) ≡ record { at = at; text = b ∷ w } ∷ tokens (at + length (b ∷ w) + 1) rest
unfolding stops blank
tokens_alone at b w rest h =
    tokens_word at b w (LF ∷ rest) h refl
    ∙ ap (λ (ts : List Token). record { at = at; text = b ∷ w } ∷ ts) (tokens_blank (at + length (b ∷ w)) LF rest refl)

pub tokens_line : (at b d : ℕ) (w v rest : List ℕ) → all_plain (b ∷ w) ≡ true → all_plain (d ∷ v) ≡ true → tokens at (b ∷ (w ++ space ∷ d ∷ (v ++ LF ∷ rest))) ≡ record { at = at; text = b ∷ w } ∷ record { at = at + length (b ∷ w) + 1; text = d ∷ v } ∷ tokens (at + length (b ∷ w) + 1 + length (d ∷ v) + 1) rest
unfolding stops blank
tokens_line at b d w v rest h k =
    tokens_word at b w (space ∷ d ∷ (v ++ LF ∷ rest)) h refl
    ∙ ap (λ (ts : List Token). record { at = at; text = b ∷ w } ∷ ts)
    (tokens_blank (at + length (b ∷ w)) space (d ∷ (v ++ LF ∷ rest)) refl ∙ tokens_alone (at + length (b ∷ w) + 1) d v rest k)
