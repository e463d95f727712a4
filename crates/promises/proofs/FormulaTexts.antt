-- Request m: the text of a tree is translated to the code of that tree, where its numbers and names, its nesting and its cost are within their bounds. So the call
-- turns no such tree away, and reads what the words of the request say. Assumes nothing.
use Rattle.std.specs.Prelude.{Ok}
use Prim.Native.Nat.{ℕ, zero, suc, ◌+◌, ◌≤◌, max}
use mathlib.Core.Path.{◌≡◌, refl, sym, ap, ◌∙◌}
use mathlib.Core.Bool.{Bool, true, false, cond}
use mathlib.Core.List.{List, [], ◌∷◌, ◌++◌, append_assoc, append-nil}
use native.Mathlib.Omega.{arith}
use lib.ListN.{length, length-append}
use borrow.Author.Tests.{le-leb, eq-eqb}
use Rattle.rules.specs.Sizes.{max_source, max_program, max_integer, max_nesting}
use Rattle.rules.specs.Grammar.{Tree, number, name, negative, joined, Token, digits, letter, sign, opening, closing, forbidden, read, Reader, after, is_product, is_sum, operator, none, following, chain, chained, sum, closed_by, operand, formula, whole, parse}
use Rattle.rules.specs.Translate.{cost, depth, table_for, Translation, translation}
use Rattle.rules.specs.declared.Operator.{Operator}
use Rattle.rules.specs.declared.Operator.TheVariants.{Add, Subtract, Multiply, Divide}
use Rattle.formula.specs.Trees.{Proper}
use Rattle.formula.proofs.Readings.{Lettered, GoodReader, deepest, operand_good, chained_good}
use Rattle.formula.proofs.Costs.{program_length, then_parsed}
use Rattle.formula.proofs.Turns.{chain_ends, chain_more, chain_enough}
use Rattle.promises.specs.FormulaTexts.{Level, as_sum, as_product, as_operand, enclosed, brackets, tokens_of, one_more, nesting, text_of, Bounded, Translatable}
use Rattle.promises.proofs.FormulaTokens.{tree_tokens, tree_lettered, tree_short}

-- ---- how tokens are read, with any tokens behind them

lettered_append : (ts us : List Token) → Lettered ts → Lettered us → Lettered (ts ++ us)
lettered_append [] us h k = k
lettered_append (digits n ∷ ts) us h k = lettered_append ts us h k
lettered_append (letter v ∷ ts) us h k = (h.0, lettered_append ts us h.1 k)
lettered_append (sign o ∷ ts) us h k = lettered_append ts us h k
lettered_append (opening ∷ ts) us h k = lettered_append ts us h k
lettered_append (closing ∷ ts) us h k = lettered_append ts us h k
lettered_append (forbidden ∷ ts) us h k = lettered_append ts us h k

module _ (d : ℕ) where
  abbrev product : Reader
  product = chained is_product (operand d)

  -- as an operand; as the first of a product, and of a sum, that may go on
  abbrev AsOperand : Tree → List Token → Type 0
  AsOperand t ts =
      (spent : ℕ) (rest : List Token) → spent + cost t ≤ max_program → Lettered rest → operand d spent (ts ++ rest) ≡ read t (spent + cost t) rest

  abbrev AsProduct : Tree → List Token → Type 0
  AsProduct t ts =
      (spent : ℕ) (rest : List Token) → spent + cost t ≤ max_program → Lettered rest
      → product spent (ts ++ rest) ≡ chain is_product (operand d) (length rest) t (spent + cost t) rest

  abbrev AsSum : Tree → List Token → Type 0
  AsSum t ts =
      (spent : ℕ) (rest : List Token) → spent + cost t ≤ max_program → Lettered rest → following is_product rest ≡ none
      → sum (operand d) spent (ts ++ rest) ≡ chain is_sum product (length rest) t (spent + cost t) rest

  -- the turns that are left over do not matter
  fewer : (these : Operator → Bool) (most : ℕ) (f : Reader) → GoodReader most f → (t : Tree) (n : ℕ) (ts rest : List Token) → Lettered rest
      → chain these f (length (ts ++ rest)) t n rest ≡ chain these f (length rest) t n rest
  fewer these most f good t n ts rest l =
      let e = length-append ts rest in chain_enough these most f good (length (ts ++ rest)) (length rest) t n rest l (omega arith) (omega arith)

  product_of_operand : (t : Tree) (ts : List Token) → AsOperand t ts → AsProduct t ts
  product_of_operand t ts h spent rest c l =
      ap (after (chain is_product (operand d) (length (ts ++ rest)))) (h spent rest c l)
      ∙ fewer is_product (deepest d) (operand d) (operand_good d) t (spent + cost t) ts rest l

  -- a product, where none of its operators follows
  product_read : (t : Tree) (ts : List Token) → AsProduct t ts → (spent : ℕ) (rest : List Token) → spent + cost t ≤ max_program → Lettered rest
      → following is_product rest ≡ none → product spent (ts ++ rest) ≡ read t (spent + cost t) rest
  product_read t ts h spent rest c l q = h spent rest c l ∙ chain_ends is_product (operand d) t (spent + cost t) rest (length rest) q

  sum_of_product : (t : Tree) (ts : List Token) → AsProduct t ts → AsSum t ts
  sum_of_product t ts h spent rest c l q =
      ap (after (chain is_sum product (length (ts ++ rest)))) (product_read t ts h spent rest c l q)
      ∙ fewer is_sum (deepest d + 1) product (chained_good is_product (deepest d) (operand d) (operand_good d)) t (spent + cost t) ts rest l

  module _ (o : Operator) (left right : Tree) (ts us : List Token) (lus : Lettered us) where
    abbrev both : List Token
    both = ts ++ (sign o ∷ us)

    again : (rest : List Token) → both ++ rest ≡ ts ++ (sign o ∷ (us ++ rest))
    again rest = append_assoc ts (sign o ∷ us) rest

    spends : (spent : ℕ) → spent + cost left + 1 + cost right ≡ spent + cost (joined o left right)
    unfolding cost
    spends spent = omega arith

    -- * or / between a product and an operand
    product_joined : is_product o ≡ true → AsProduct left ts → AsOperand right us → AsProduct (joined o left right) both
    unfolding cost
    product_joined p hl hr spent rest c l =
        let lr : Lettered (us ++ rest) = lettered_append us rest lus l in
        let f : following is_product (sign o ∷ (us ++ rest)) ≡ operator o (us ++ rest) = ap (λ (b : Bool). cond b (operator o (us ++ rest)) none) p in
        ap (product spent) (again rest) ∙ hl spent (sign o ∷ (us ++ rest)) (omega arith) lr
        ∙ chain_more is_product (operand d) left (spent + cost left) (sign o ∷ (us ++ rest)) o (us ++ rest) f (length (us ++ rest))
        (le-leb (spent + cost left + 1) max_program (omega arith)) right (spent + cost left + 1 + cost right) rest
        (hr (spent + cost left + 1) rest (omega arith) l)
        ∙ fewer is_product (deepest d) (operand d) (operand_good d) (joined o left right) (spent + cost left + 1 + cost right) us rest l
        ∙ ap (λ (n : ℕ). chain is_product (operand d) (length rest) (joined o left right) n rest) (spends spent)

    -- + or - between a sum and a product
    sum_joined : is_sum o ≡ true → is_product o ≡ false → AsSum left ts → AsProduct right us → AsSum (joined o left right) both
    unfolding cost
    sum_joined s p hl hr spent rest c l q =
        let lr : Lettered (us ++ rest) = lettered_append us rest lus l in
        let f : following is_sum (sign o ∷ (us ++ rest)) ≡ operator o (us ++ rest) = ap (λ (b : Bool). cond b (operator o (us ++ rest)) none) s in
        let g : following is_product (sign o ∷ (us ++ rest)) ≡ none = ap (λ (b : Bool). cond b (operator o (us ++ rest)) none) p in
        ap (sum (operand d) spent) (again rest) ∙ hl spent (sign o ∷ (us ++ rest)) (omega arith) lr g
        ∙ chain_more is_sum product left (spent + cost left) (sign o ∷ (us ++ rest)) o (us ++ rest) f (length (us ++ rest))
        (le-leb (spent + cost left + 1) max_program (omega arith)) right (spent + cost left + 1 + cost right) rest
        (product_read right us hr (spent + cost left + 1) rest (omega arith) l q)
        ∙ fewer is_sum (deepest d + 1) product (chained_good is_product (deepest d) (operand d) (operand_good d)) (joined o left right)
        (spent + cost left + 1 + cost right) us rest l
        ∙ ap (λ (n : ℕ). chain is_sum product (length rest) (joined o left right) n rest) (spends spent)

-- ---- behind a sign, and in brackets, one deeper

operand_of_operand : (d : ℕ) (t : Tree) (ts : List Token) → AsOperand d t ts → AsOperand (suc d) (negative t) (sign Subtract ∷ ts)
unfolding operand cost
operand_of_operand d t ts h spent rest c l =
    let e : spent + 2 + cost t ≡ spent + (cost t + 2) = omega arith in
    rw (le-leb (spent + 2) max_program (omega arith), h (spent + 2) rest (omega arith) l) (ap (λ (n : ℕ). read (negative t) n rest) e)

operand_of_sum : (d : ℕ) (t : Tree) (ts : List Token) → AsSum d t ts → AsOperand (suc d) t (opening ∷ (ts ++ (closing ∷ [])))
unfolding operand
operand_of_sum d t ts h spent rest c l =
    ap (after closed_by)
    (ap (sum (operand d) spent) (append_assoc ts (closing ∷ []) rest) ∙ h spent (closing ∷ rest) c l refl
    ∙ chain_ends is_sum (chained is_product (operand d)) t (spent + cost t) (closing ∷ rest) (length (closing ∷ rest)) refl)

-- ---- every tree

abbrev ReadAs : Level → ℕ → Tree → List Token → Type 0
ReadAs as_sum d t ts = AsSum d t ts
ReadAs as_product d t ts = AsProduct d t ts
ReadAs as_operand d t ts = AsOperand d t ts

-- what is read as an operand is so in every place
every_level : (l : Level) (d : ℕ) (t : Tree) (ts : List Token) → AsOperand d t ts → ReadAs l d t ts
every_level as_sum d t ts h = sum_of_product d t ts (product_of_operand d t ts h)
every_level as_product d t ts h = product_of_operand d t ts h
every_level as_operand d t ts h = h

number_read : (d n : ℕ) → n ≤ max_integer → AsOperand d (number n) (digits n ∷ [])
unfolding operand cost
number_read zero n p spent rest c l = rw (le-leb n max_integer p, le-leb (spent + 1) max_program c)
number_read (suc d) n p spent rest c l = rw (le-leb n max_integer p, le-leb (spent + 1) max_program c)

name_read : (d k : ℕ) → AsOperand d (name k) (letter k ∷ [])
unfolding operand cost
name_read zero k spent rest c l = rw (le-leb (spent + 1) max_program c)
name_read (suc d) k spent rest c l = rw (le-leb (spent + 1) max_program c)

-- in brackets
enclosed_read : (t : Tree) (ts : List Token) (n : ℕ) → ((e : ℕ) → n ≤ e → AsSum e t ts) → (d : ℕ) → suc n ≤ d
    → AsOperand d t (opening ∷ (ts ++ (closing ∷ [])))
enclosed_read t ts n h zero l = absurd (let y : ⊥ = omega arith in y)
enclosed_read t ts n h (suc e) l = operand_of_sum e t ts (h e (omega arith))

-- an operator of sums, and one of products, in each place
sum_levels : (t : Tree) (ts : List Token) (n : ℕ) → ((e : ℕ) → n ≤ e → AsSum e t ts) → (l : Level) (d : ℕ) → one_more (enclosed true l) n ≤ d
    → ReadAs l d t (brackets (enclosed true l) ts)
sum_levels t ts n h as_sum d k = h d k
sum_levels t ts n h as_product d k = product_of_operand d t (opening ∷ (ts ++ (closing ∷ []))) (enclosed_read t ts n h d k)
sum_levels t ts n h as_operand d k = enclosed_read t ts n h d k

product_levels : (t : Tree) (ts : List Token) (n : ℕ) → ((e : ℕ) → n ≤ e → AsProduct e t ts) → (l : Level) (d : ℕ) → one_more (enclosed false l) n ≤ d
    → ReadAs l d t (brackets (enclosed false l) ts)
product_levels t ts n h as_sum d k = sum_of_product d t ts (h d k)
product_levels t ts n h as_product d k = h d k
product_levels t ts n h as_operand d k = enclosed_read t ts n (λ e q. sum_of_product e t ts (h e q)) d k

negative_read : (t : Tree) (d : ℕ) → ((e : ℕ) → nesting as_operand t ≤ e → AsOperand e t (tokens_of as_operand t)) → suc (nesting as_operand t) ≤ d
    → AsOperand d (negative t) (sign Subtract ∷ tokens_of as_operand t)
negative_read t zero h l = absurd (let y : ⊥ = omega arith in y)
negative_read t (suc e) h l = operand_of_operand e t (tokens_of as_operand t) (h e (omega arith))

-- a tree, written for the place where it stands, is read there as that tree
tree_read : (t : Tree) → Proper t → (l : Level) (d : ℕ) → nesting l t ≤ d → ReadAs l d t (tokens_of l t)
unfolding tokens_of nesting
tree_read (number n) p l d k = every_level l d (number n) (digits n ∷ []) (number_read d n p)
tree_read (name v) p l d k = every_level l d (name v) (letter v ∷ []) (name_read d v)
tree_read (negative t) p l d k =
    every_level l d (negative t) (sign Subtract ∷ tokens_of as_operand t) (negative_read t d (tree_read t p as_operand) k)
tree_read (joined Add left right) p l d k =
    sum_levels (joined Add left right) (tokens_of as_sum left ++ (sign Add ∷ tokens_of as_product right)) (max (nesting as_sum left) (nesting as_product right))
    (λ e q.
    sum_joined e Add left right (tokens_of as_sum left) (tokens_of as_product right) (tree_lettered as_product right p.1) refl refl
    (tree_read left p.0 as_sum e (omega arith)) (tree_read right p.1 as_product e (omega arith))) l d k
tree_read (joined Subtract left right) p l d k =
    sum_levels (joined Subtract left right) (tokens_of as_sum left ++ (sign Subtract ∷ tokens_of as_product right)) (max (nesting as_sum left) (nesting as_product right))
    (λ e q.
    sum_joined e Subtract left right (tokens_of as_sum left) (tokens_of as_product right) (tree_lettered as_product right p.1) refl refl
    (tree_read left p.0 as_sum e (omega arith)) (tree_read right p.1 as_product e (omega arith))) l d k
tree_read (joined Multiply left right) p l d k =
    product_levels (joined Multiply left right) (tokens_of as_product left ++ (sign Multiply ∷ tokens_of as_operand right))
    (max (nesting as_product left) (nesting as_operand right))
    (λ e q.
    product_joined e Multiply left right (tokens_of as_product left) (tokens_of as_operand right) (tree_lettered as_operand right p.1) refl
    (tree_read left p.0 as_product e (omega arith)) (tree_read right p.1 as_operand e (omega arith))) l d k
tree_read (joined Divide left right) p l d k =
    product_levels (joined Divide left right) (tokens_of as_product left ++ (sign Divide ∷ tokens_of as_operand right))
    (max (nesting as_product left) (nesting as_operand right))
    (λ e q.
    product_joined e Divide left right (tokens_of as_product left) (tokens_of as_operand right) (tree_lettered as_operand right p.1) refl
    (tree_read left p.0 as_product e (omega arith)) (tree_read right p.1 as_operand e (omega arith))) l d k

-- ---- a whole formula

-- within the bounds of a formula its text is read as that tree
text_read : (t : Tree) → Bounded t → parse (text_of t) ≡ formula t
unfolding parse chain
text_read t b =
    let c : cost t + 1 ≤ max_program = b.fits in
    ap (λ (ts : List Token). whole (sum (operand max_nesting) 1 ts)) (tree_tokens as_sum t b.proper ∙ sym (append-nil (tokens_of as_sum t)))
    ∙ ap whole (tree_read t b.proper as_sum max_nesting b.nested 1 [] (omega arith) tt refl)

-- and is short enough for the call, which then writes the code of that tree
pub every_tree_translated : (t : Tree) → Translatable t
every_tree_translated t b =
    let short : length (text_of t) ≤ max_source = tree_short t b.fits in
    record {
      read = text_read t b;
      short = short;
      taken =
          λ lent right.
          then_parsed (text_of t) lent (eq-eqb (length lent) max_program right) (le-leb (length (text_of t)) max_source short)
          ∙ ap (translation lent) (text_read t b)
          ∙ ap {B = Translation} (λ (n : ℕ). record { answer = Ok (record { length = n; depth = depth t }); table = table_for t }) (program_length t);
    }
