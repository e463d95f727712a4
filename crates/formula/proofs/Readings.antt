-- What the grammar accepts: a tree with numbers and names in their ranges, whose cost is what was spent, at most 1,024 with STOP, whose depth is
-- at most 35; and fewer tokens are left.
-- Assumes nothing.
use Prim.Native.Nat.{ℕ, zero, suc, ◌+◌, ◌-◌, ◌*◌, ◌≤◌, ◌<◌}
use mathlib.Core.Path.{◌≡◌, refl, subst}
use mathlib.Core.Bool.{Bool, true, false, cond, ◌&&◌}
use mathlib.Core.List.{List, [], ◌∷◌}
use native.Mathlib.Omega.{arith}
use lib.Dec.{leb, eqb}
use lib.ListN.{length}
use borrow.Author.Tests.{leb-true}
use Rattle.rules.specs.Sizes.{max_program, max_nesting}
use Rattle.rules.specs.Bytes.{space, zero_digit}
use Rattle.rules.specs.Grammar.{Tree, number, name, negative, joined, Token, digits, letter, sign, opening, closing, forbidden, sorted, digit, before, tokens, number_then, Reading, read, refused, Reader, require, affordable, after, is_product, is_sum, chain, chained, sum, minus, closed_by, bracketed, too_deep, operand_by, operand, formula, whole, parse}
use Rattle.rules.specs.declared.Operator.{Operator}
use Rattle.rules.specs.declared.Operator.TheVariants.{Add, Subtract, Multiply, Divide}
use Rattle.rules.specs.Sizes.{max_integer, name_cells}
use Rattle.rules.specs.Translate.{cost, depth}
use Rattle.rules.specs.declared.FormulaRefusal.{FormulaRefusal}
use Rattle.rules.specs.declared.FormulaRefusal.TheVariants.{CostTooHigh}
use Rattle.formula.specs.Trees.{Proper}
use Rattle.rules.proofs.Tests.{by_test, and_left, and_right}

-- ---- tokens

-- each letter among them is one of a to h
abbrev pub Lettered : List Token → Type 0
Lettered [] = Unit
Lettered (digits n ∷ ts) = Lettered ts
Lettered (letter k ∷ ts) = (k < name_cells) × Lettered ts
Lettered (sign o ∷ ts) = Lettered ts
Lettered (opening ∷ ts) = Lettered ts
Lettered (closing ∷ ts) = Lettered ts
Lettered (forbidden ∷ ts) = Lettered ts

-- the token of a byte is no number, and a letter is a name
abbrev pub Single : Token → Type 0
Single (digits n) = ⊥
Single (letter k) = k < name_cells
Single (sign o) = Unit
Single opening = Unit
Single closing = Unit
Single forbidden = Unit

pub sorted_single : (b : ℕ) → Single (sorted b)
unfolding sorted
sorted_single b =
    by_test (leb 97 b && leb b 104)
    (λ e.
    let low : 97 ≤ b = leb-true 97 b (and_left (leb 97 b) (leb b 104) e) in
    let high : b ≤ 104 = leb-true b 104 (and_right (leb 97 b) (leb b 104) e) in
    rw e (omega arith))
    (λ e. rw e (signs (eqb b 43) (eqb b 45) (eqb b 42) (eqb b 47) (eqb b 40) (eqb b 41)))
  where
    signs : (p q r s t u : Bool)
        → Single (cond p (sign Add) (cond q (sign Subtract) (cond r (sign Multiply) (cond s (sign Divide) (cond t opening (cond u closing forbidden))))))
    signs true q r s t u = tt
    signs false true r s t u = tt
    signs false false true s t u = tt
    signs false false false true t u = tt
    signs false false false false true u = tt
    signs false false false false false true = tt
    signs false false false false false false = tt

single_lettered : (k : Token) (ts : List Token) → Single k → Lettered ts → Lettered (k ∷ ts)
single_lettered (digits n) ts s h = h
single_lettered (letter k) ts s h = (s, h)
single_lettered (sign o) ts s h = h
single_lettered opening ts s h = h
single_lettered closing ts s h = h
single_lettered forbidden ts s h = h

before_lettered : (b : ℕ) (ts : List Token) → Lettered ts → Lettered (before b ts)
unfolding before
before_lettered b ts h = by_test (eqb b space) (λ e. rw e h) (λ e. rw e (single_lettered (sorted b) ts (sorted_single b) h))

mutual
  unfolding tokens number_then

  pub tokens_lettered : (s : List ℕ) → Lettered (tokens s)
  tokens_lettered [] = tt
  tokens_lettered (b ∷ s) =
      let run = number_lettered (b - zero_digit) s in
      let rest = before_lettered b (tokens s) (tokens_lettered s) in
      by_test (digit b) (λ e. rw e run) (λ e. rw e rest)

  pub number_lettered : (n : ℕ) (s : List ℕ) → Lettered (number_then n s)
  number_lettered n [] = tt
  number_lettered n (b ∷ s) =
      let run = number_lettered (n * 10 + (b - zero_digit)) s in
      let rest = before_lettered b (tokens s) (tokens_lettered s) in
      by_test (digit b) (λ e. rw e run) (λ e. rw e rest)

-- ---- what a reader reads

-- from these tokens, where so much was spent; it is no deeper than `most`
pub record Good (most spent : ℕ) (ts : List Token) (t : Tree) (n : ℕ) (rest : List Token) : Type 0 where
  pub costs : n ≡ spent + cost t
  pub fits : n ≤ max_program
  pub proper : Proper t
  pub deep : depth t ≤ most
  pub shorter : length rest < length ts
  pub lettered : Lettered rest

abbrev pub GoodReading : (most spent : ℕ) → List Token → Reading → Type 0
GoodReading most spent ts (read t n rest) = Good most spent ts t n rest
GoodReading most spent ts (refused e) = Unit

abbrev pub GoodReader : ℕ → Reader → Type 0
GoodReader most f = (spent : ℕ) (ts : List Token) → Lettered ts → GoodReading most spent ts (f spent ts)

good_within : {most spent : ℕ} {ts : List Token} {t : Tree} {n : ℕ} {rest : List Token} (more : ℕ) → Good most spent ts t n rest → most ≤ more
    → Good more spent ts t n rest
good_within more g l =
    record {
      costs = g.costs;
      fits = g.fits;
      proper = g.proper;
      deep = omega (arith, g.deep);
      shorter = g.shorter;
      lettered = g.lettered;
    }

require_good : (most spent : ℕ) (ts : List Token) (b : Bool) (e : FormulaRefusal) (r : Reading) → (b ≡ true → GoodReading most spent ts r)
    → GoodReading most spent ts (require b e r)
require_good most spent ts true e r h = h refl
require_good most spent ts false e r h = tt

after_good : (d₁ d₂ s₁ s₂ : ℕ) (ts₁ ts₂ : List Token) (f : Tree → ℕ → List Token → Reading) (r : Reading) → GoodReading d₁ s₁ ts₁ r
    → ((t : Tree) (n : ℕ) (rest : List Token) → Good d₁ s₁ ts₁ t n rest → GoodReading d₂ s₂ ts₂ (f t n rest)) → GoodReading d₂ s₂ ts₂ (after f r)
after_good d₁ d₂ s₁ s₂ ts₁ ts₂ f (read t n rest) g h = h t n rest g
after_good d₁ d₂ s₁ s₂ ts₁ ts₂ f (refused e) g h = tt

module _ (these : Operator → Bool) (most : ℕ) (f : Reader) (good : GoodReader most f) (spent : ℕ) (ts₀ : List Token) where
  -- an operator and its right side
  turn_good : (o : Operator) (left : Tree) (n : ℕ) (rest : List Token) → Good (most + 1) spent ts₀ left n (sign o ∷ rest)
      → (k : Tree → Reader) → ((t : Tree) (n : ℕ) (ts : List Token) → Good (most + 1) spent ts₀ t n ts → GoodReading (most + 1) spent ts₀ (k t n ts))
      → GoodReading (most + 1) spent ts₀ (require (affordable (n + 1)) CostTooHigh (after (λ right. k (joined o left right)) (f (n + 1) rest)))
  unfolding cost depth
  turn_good o left n rest g k h =
      require_good (most + 1) spent ts₀ (affordable (n + 1)) CostTooHigh _
      (λ e.
      after_good most (most + 1) (n + 1) spent rest ts₀ (λ right. k (joined o left right)) (f (n + 1) rest) (good (n + 1) rest g.lettered)
      (λ right n' rest' w.
      h (joined o left right) n' rest'
      (record {
        costs = omega (arith, w.costs, g.costs);
        fits = w.fits;
        proper = (g.proper, w.proper);
        deep = omega (arith, w.deep, g.deep);
        shorter = omega (arith, w.shorter, g.shorter);
        lettered = w.lettered;
      })))

  chain_good : (turns : ℕ) (left : Tree) (n : ℕ) (ts : List Token) → Good (most + 1) spent ts₀ left n ts
      → GoodReading (most + 1) spent ts₀ (chain these f turns left n ts)
  unfolding chain
  chain_good zero left n ts g = g
  chain_good (suc turns) left n [] g = g
  chain_good (suc turns) left n (digits v ∷ ts) g = g
  chain_good (suc turns) left n (letter v ∷ ts) g = g
  chain_good (suc turns) left n (sign o ∷ ts) g =
      let more = turn_good o left n ts g (chain these f turns) (chain_good turns) in
      by_test (these o) (λ e. rw e more) (λ e. rw e g)
  chain_good (suc turns) left n (opening ∷ ts) g = g
  chain_good (suc turns) left n (closing ∷ ts) g = g
  chain_good (suc turns) left n (forbidden ∷ ts) g = g

-- the left side of an operator is one value more, owed under its right side
pub chained_good : (these : Operator → Bool) (most : ℕ) (f : Reader) → GoodReader most f → GoodReader (most + 1) (chained these f)
chained_good these most f good spent ts l =
    after_good most (most + 1) spent spent ts ts (chain these f (length ts)) (f spent ts) (good spent ts l)
    (λ t n rest g. chain_good these most f good spent ts (length ts) t n rest (good_within (most + 1) g (omega arith)))

pub sum_good : (most : ℕ) (f : Reader) → GoodReader most f → GoodReader (most + 1 + 1) (sum f)
sum_good most f good = chained_good is_sum (most + 1) (chained is_product f) (chained_good is_product most f good)

-- ---- an operand

-- what stands behind a token, as read of the whole
abbrev Behind : ℕ → Reader → Type 0
Behind most f = (k : Token) (spent : ℕ) (ts : List Token) → Lettered ts → GoodReading most spent (k ∷ ts) (f spent ts)

minus_good : (most : ℕ) (f : Reader) → GoodReader most f → Behind (most + 1 + 1) (minus f)
unfolding cost depth
minus_good most f good k spent ts l =
    require_good (most + 1 + 1) spent (k ∷ ts) (affordable (spent + 2)) CostTooHigh _
    (λ e.
    after_good most (most + 1 + 1) (spent + 2) spent ts (k ∷ ts) (λ t. read (negative t)) (f (spent + 2) ts) (good (spent + 2) ts l)
    (λ t n rest g.
    record {
      costs = omega (arith, g.costs);
      fits = g.fits;
      proper = g.proper;
      deep = omega (arith, g.deep);
      shorter = omega (arith, g.shorter);
      lettered = g.lettered;
    }))

closed_good : (most : ℕ) (k : Token) (spent : ℕ) (ts : List Token) (t : Tree) (n : ℕ) (rest : List Token) → Good most spent ts t n rest
    → GoodReading most spent (k ∷ ts) (closed_by t n rest)
closed_good most k spent ts t n [] g = tt
closed_good most k spent ts t n (digits v ∷ rest) g = tt
closed_good most k spent ts t n (letter v ∷ rest) g = tt
closed_good most k spent ts t n (sign o ∷ rest) g = tt
closed_good most k spent ts t n (opening ∷ rest) g = tt
closed_good most k spent ts t n (closing ∷ rest) g =
    record { costs = g.costs; fits = g.fits; proper = g.proper; deep = g.deep; shorter = omega (arith, g.shorter); lettered = g.lettered }
closed_good most k spent ts t n (forbidden ∷ rest) g = tt

bracketed_good : (most : ℕ) (f : Reader) → GoodReader most f → Behind (most + 1 + 1) (bracketed f)
bracketed_good most f good k spent ts l =
    after_good (most + 1 + 1) (most + 1 + 1) spent spent ts (k ∷ ts) closed_by (sum f spent ts) (sum_good most f good spent ts l)
    (closed_good (most + 1 + 1) k spent ts)

by_good : (most : ℕ) (s b : Reader) → 1 ≤ most → Behind most s → Behind most b → GoodReader most (operand_by s b)
unfolding cost depth
by_good most s b some hs hb spent [] l = tt
by_good most s b some hs hb spent (digits n ∷ ts) l =
    require_good most spent (digits n ∷ ts) (leb n max_integer) _ _
    (λ e. require_good most spent (digits n ∷ ts) (affordable (spent + 1)) CostTooHigh (read (number n) (spent + 1) ts)
    (λ a. record { costs = refl; fits = leb-true _ _ a; proper = leb-true _ _ e; deep = some; shorter = omega arith; lettered = l }))
by_good most s b some hs hb spent (letter k ∷ ts) l =
    require_good most spent (letter k ∷ ts) (affordable (spent + 1)) CostTooHigh (read (name k) (spent + 1) ts)
    (λ a. record { costs = refl; fits = leb-true _ _ a; proper = l.0; deep = some; shorter = omega arith; lettered = l.1 })
by_good most s b some hs hb spent (sign Add ∷ ts) l = tt
by_good most s b some hs hb spent (sign Subtract ∷ ts) l = hs (sign Subtract) spent ts l
by_good most s b some hs hb spent (sign Multiply ∷ ts) l = tt
by_good most s b some hs hb spent (sign Divide ∷ ts) l = tt
by_good most s b some hs hb spent (opening ∷ ts) l = hb opening spent ts l
by_good most s b some hs hb spent (closing ∷ ts) l = tt
by_good most s b some hs hb spent (forbidden ∷ ts) l = tt

-- a bracket is a sum and a product more
abbrev pub deepest : ℕ → ℕ
deepest zero = 1
deepest (suc nesting) = deepest nesting + 1 + 1

pub operand_good : (nesting : ℕ) → GoodReader (deepest nesting) (operand nesting)
unfolding operand
operand_good zero spent ts l = by_good 1 too_deep too_deep (omega arith) (λ k s r h. tt) (λ k s r h. tt) spent ts l
operand_good (suc nesting) spent ts l =
    by_good (deepest nesting + 1 + 1) (minus (operand nesting)) (bracketed (operand nesting)) (omega arith)
    (minus_good (deepest nesting) (operand nesting) (operand_good nesting)) (bracketed_good (deepest nesting) (operand nesting) (operand_good nesting)) spent ts l

-- ---- an accepted formula

pub record Accepted (t : Tree) : Type 0 where
  pub proper : Proper t
  -- with STOP
  pub fits : cost t + 1 ≤ max_program
  -- two values more for each of sixteen brackets, and three
  pub shallow : depth t ≤ 35

whole_accepted : (ts : List Token) (r : Reading) (t : Tree) → GoodReading 35 1 ts r → whole r ≡ formula t → Accepted t
whole_accepted ts (read u n []) t g q =
    let same : u ≡ t = cc in
    subst Accepted same (record { proper = g.proper; fits = omega (arith, g.costs, g.fits); shallow = g.deep })
whole_accepted ts (read u n (k ∷ rest)) t g q = let z : ◌≡◌ {A = ℕ} 0 1 = cc in absurd (let y : ⊥ = omega arith in y)
whole_accepted ts (refused e) t g q = let z : ◌≡◌ {A = ℕ} 0 1 = cc in absurd (let y : ⊥ = omega arith in y)

pub parse_accepted : (source : List ℕ) (t : Tree) → parse source ≡ formula t → Accepted t
unfolding parse
parse_accepted source t q =
    whole_accepted (tokens source) (sum (operand max_nesting) 1 (tokens source)) t
    (sum_good (deepest max_nesting) (operand max_nesting) (operand_good max_nesting) 1 (tokens source) (tokens_lettered source)) q
