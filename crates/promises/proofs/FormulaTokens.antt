-- Request m: the tokens of a tree, as bytes with a space behind each, are read as those tokens, and are not too many for a source. Assumes nothing.
use Prim.Native.Nat.{ℕ, ◌+◌, ◌-◌, ◌*◌, ◌^◌, ◌≤◌, ◌<◌}
use mathlib.Core.Path.{◌≡◌, refl, sym, ap, ◌∙◌, subst}
use mathlib.Core.Bool.{Bool, true, false, cond, ◌&&◌, false≢true}
use mathlib.Core.List.{List, [], ◌∷◌, ◌++◌}
use native.Mathlib.Omega.{arith}
use lib.Dec.{leb, ltb}
use lib.ListN.{length, length-append}
use borrow.Author.Tests.{le-leb, leb-true, ltb-true, lt-leb, ne_eqb}
use Rattle.rules.specs.Sizes.{max_source, max_program, max_integer, name_cells}
use Rattle.rules.specs.Bytes.{space, zero_digit}
use Rattle.rules.specs.Operands.{digit_of, all_digits, numeral}
use Rattle.rules.specs.Listing.{decimal}
use Rattle.rules.specs.Grammar.{Tree, number, name, negative, joined, Token, digits, letter, sign, opening, closing, forbidden, sorted, digit, before, tokens, number_then, is_sum}
use Rattle.rules.specs.Translate.{cost}
use Rattle.rules.specs.declared.Operator.{Operator}
use Rattle.rules.specs.declared.Operator.TheVariants.{Add, Subtract, Multiply, Divide}
use Rattle.rules.proofs.Tests.{by_test, and_left, and_right}
use Rattle.rules.proofs.Texts.{length_decimal, decimal_some, numeral_decimal, digits_decimal}
use Rattle.formula.specs.Trees.{Proper}
use Rattle.formula.proofs.Readings.{Lettered, tokens_lettered}
use Rattle.promises.specs.FormulaTexts.{Level, as_sum, as_operand, enclosed, left_of, right_of, brackets, tokens_of, sign_byte, bytes_of, spelled, text_of}

-- ---- digits

-- a byte that counts for less than ten is one of 0 to 9
digit_byte : (b : ℕ) → ltb (digit_of b) 10 ≡ true → (digit b ≡ true) × (digit_of b ≡ b - zero_digit)
unfolding digit_of digit
digit_byte b h =
    by_test (leb 48 b && leb b 57) (λ e. (e, rw e))
    (λ e. absurd (no_digit (leb 65 b && leb b 70) refl (leb 97 b && leb b 102) refl (rw e at h)))
  where
    no_digit : (c : Bool) → (leb 65 b && leb b 70) ≡ c → (d : Bool) → (leb 97 b && leb b 102) ≡ d → ltb (cond c (b - 55) (cond d (b - 87) 16)) 10 ≡ true → ⊥
    no_digit true q d r h = let l = leb-true 65 b (and_left (leb 65 b) (leb b 70) q) in let k = ltb-true (b - 55) 10 h in omega arith
    no_digit false q true r h = let l = leb-true 97 b (and_left (leb 97 b) (leb b 102) r) in let k = ltb-true (b - 87) 10 h in omega arith
    no_digit false q false r h = false≢true h

-- digits up to a space, after those that made n
number_run : (ds : List ℕ) → all_digits 10 ds ≡ true → (n : ℕ) (s : List ℕ) → number_then n (ds ++ (space ∷ s)) ≡ digits (numeral 10 n ds) ∷ tokens s
unfolding tokens before digit all_digits numeral
number_run [] h n s = refl
number_run (b ∷ ds) h n s =
    let d = digit_byte b (and_left (ltb (digit_of b) 10) (all_digits 10 ds) h) in
    rw (d.0, d.1) (number_run ds (and_right (ltb (digit_of b) 10) (all_digits 10 ds) h) (n * 10 + (b - zero_digit)) s)

-- a number's digits and a space
number_token : (ds : List ℕ) → all_digits 10 ds ≡ true → 0 < length ds → (s : List ℕ) → tokens (ds ++ (space ∷ s)) ≡ digits (numeral 10 0 ds) ∷ tokens s
unfolding tokens all_digits numeral
number_token [] h some s = absurd (let y : ⊥ = omega arith in y)
number_token (b ∷ ds) h some s =
    let d = digit_byte b (and_left (ltb (digit_of b) 10) (all_digits 10 ds) h) in
    let e : 0 * 10 + (b - zero_digit) ≡ b - zero_digit = omega arith in
    rw (d.0, d.1)
    (number_run ds (and_right (ltb (digit_of b) 10) (all_digits 10 ds) h) (b - zero_digit) s
    ∙ ap (λ (n : ℕ). digits (numeral 10 n ds) ∷ tokens s) (sym e))

-- ---- tokens as bytes

-- with numbers and names in their ranges
abbrev Spelt : List Token → Type 0
Spelt [] = Unit
Spelt (digits n ∷ ts) = (n ≤ max_integer) × Spelt ts
Spelt (letter k ∷ ts) = (k < name_cells) × Spelt ts
Spelt (sign o ∷ ts) = Spelt ts
Spelt (opening ∷ ts) = Spelt ts
Spelt (closing ∷ ts) = Spelt ts
Spelt (forbidden ∷ ts) = Spelt ts

letter_token : (k : ℕ) → k < name_cells → (s : List ℕ) → tokens ((97 + k) ∷ (space ∷ s)) ≡ letter k ∷ tokens s
unfolding tokens before digit sorted
letter_token k h s =
    let e : 97 + k - 97 ≡ k = omega arith in
    rw (
      le-leb 48 (97 + k) (omega arith),
      lt-leb (97 + k) 57 (omega arith),
      ne_eqb (97 + k) 32 (λ q. let y : ⊥ = omega arith in y),
      le-leb 97 (97 + k) (omega arith),
      le-leb (97 + k) 104 (omega arith),
    ) (ap (λ (n : ℕ). letter n ∷ tokens s) e)

sign_token : (o : Operator) (s : List ℕ) → tokens (sign_byte o ∷ (space ∷ s)) ≡ sign o ∷ tokens s
unfolding tokens before digit sorted
sign_token Add s = refl
sign_token Subtract s = refl
sign_token Multiply s = refl
sign_token Divide s = refl

tokens_spelled : (ts : List Token) → Spelt ts → tokens (spelled ts) ≡ ts
unfolding tokens before digit sorted spelled
tokens_spelled [] h = refl
tokens_spelled (digits n ∷ ts) h =
    let small : n < 10 ^ (9 + 1) = omega (arith, h.0) in
    number_token (decimal 9 n) (digits_decimal 9 n) (decimal_some 9 n) (spelled ts)
    ∙ ap (λ (v : ℕ). digits v ∷ tokens (spelled ts)) (numeral_decimal 9 n small) ∙ ap (λ (us : List Token). digits n ∷ us) (tokens_spelled ts h.1)
tokens_spelled (letter k ∷ ts) h = letter_token k h.0 (spelled ts) ∙ ap (λ (us : List Token). letter k ∷ us) (tokens_spelled ts h.1)
tokens_spelled (sign o ∷ ts) h = sign_token o (spelled ts) ∙ ap (λ (us : List Token). sign o ∷ us) (tokens_spelled ts h)
tokens_spelled (opening ∷ ts) h = ap (λ (us : List Token). opening ∷ us) (tokens_spelled ts h)
tokens_spelled (closing ∷ ts) h = ap (λ (us : List Token). closing ∷ us) (tokens_spelled ts h)
tokens_spelled (forbidden ∷ ts) h = ap (λ (us : List Token). forbidden ∷ us) (tokens_spelled ts h)

-- ---- the tokens of a tree

spelt_append : (ts us : List Token) → Spelt ts → Spelt us → Spelt (ts ++ us)
spelt_append [] us h k = k
spelt_append (digits n ∷ ts) us h k = (h.0, spelt_append ts us h.1 k)
spelt_append (letter v ∷ ts) us h k = (h.0, spelt_append ts us h.1 k)
spelt_append (sign o ∷ ts) us h k = spelt_append ts us h k
spelt_append (opening ∷ ts) us h k = spelt_append ts us h k
spelt_append (closing ∷ ts) us h k = spelt_append ts us h k
spelt_append (forbidden ∷ ts) us h k = spelt_append ts us h k

brackets_spelt : (b : Bool) (ts : List Token) → Spelt ts → Spelt (brackets b ts)
brackets_spelt true ts h = spelt_append ts (closing ∷ []) h tt
brackets_spelt false ts h = h

tree_spelt : (l : Level) (t : Tree) → Proper t → Spelt (tokens_of l t)
unfolding tokens_of
tree_spelt l (number n) p = (p, tt)
tree_spelt l (name k) p = (p, tt)
tree_spelt l (negative t) p = tree_spelt as_operand t p
tree_spelt l (joined o left right) p =
    brackets_spelt (enclosed (is_sum o) l) (tokens_of (left_of o) left ++ (sign o ∷ tokens_of (right_of o) right))
    (spelt_append (tokens_of (left_of o) left) (sign o ∷ tokens_of (right_of o) right) (tree_spelt (left_of o) left p.0)
    (tree_spelt (right_of o) right p.1))

pub tree_tokens : (l : Level) (t : Tree) → Proper t → tokens (spelled (tokens_of l t)) ≡ tokens_of l t
tree_tokens l t p = tokens_spelled (tokens_of l t) (tree_spelt l t p)

-- so its names are in their range, as those of every text are
pub tree_lettered : (l : Level) (t : Tree) → Proper t → Lettered (tokens_of l t)
tree_lettered l t p = subst Lettered (tree_tokens l t p) (tokens_lettered (spelled (tokens_of l t)))

-- ---- how long a text is

token_short : (t : Token) → length (bytes_of t) ≤ 10
token_short (digits n) = length_decimal 9 n
token_short (letter k) = omega arith
token_short (sign o) = omega arith
token_short opening = omega arith
token_short closing = omega arith
token_short forbidden = omega arith

spelled_short : (ts : List Token) → length (spelled ts) ≤ 11 * length ts
unfolding spelled
spelled_short [] = omega arith
spelled_short (t ∷ ts) = omega (arith, length-append (bytes_of t) (space ∷ spelled ts), token_short t, spelled_short ts)

brackets_few : (b : Bool) (ts : List Token) → length (brackets b ts) ≤ length ts + 2
brackets_few true ts = omega (arith, length-append ts (closing ∷ []))
brackets_few false ts = omega arith

-- three tokens an instruction are enough: an operator is a sign and two brackets at most
tree_few : (l : Level) (t : Tree) → length (tokens_of l t) ≤ 3 * cost t
unfolding tokens_of cost
tree_few l (number n) = omega arith
tree_few l (name k) = omega arith
tree_few l (negative t) = omega (arith, tree_few as_operand t)
tree_few l (joined o left right) =
    let a = tree_few (left_of o) left in
    let b = tree_few (right_of o) right in
    let c = length-append (tokens_of (left_of o) left) (sign o ∷ tokens_of (right_of o) right) in
    let d = brackets_few (enclosed (is_sum o) l) (tokens_of (left_of o) left ++ (sign o ∷ tokens_of (right_of o) right)) in
    omega arith

-- so 33 bytes for each of 1,023 instructions are within a source
pub tree_short : (t : Tree) → cost t + 1 ≤ max_program → length (text_of t) ≤ max_source
tree_short t h = omega (arith, spelled_short (tokens_of as_sum t), tree_few as_sum t)
