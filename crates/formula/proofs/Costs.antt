-- The code of a tree: its length is the tree's cost, and it holds no more values than it has instructions; and the order of the call's refusals. Assumes nothing.
use Prim.Native.Nat.{ℕ, ◌+◌, ◌≤◌}
use mathlib.Core.Path.{◌≡◌, refl, ap, ap₂, ◌∙◌}
use mathlib.Core.Bool.{true, false}
use mathlib.Core.List.{List, [], ◌∷◌, ◌++◌}
use native.Mathlib.Nat.{le-max_right, max-le}
use native.Mathlib.Omega.{arith}
use lib.Dec.{leb, eqb}
use lib.ListN.{length, length-append}
use Rattle.rules.specs.Lists.{splice}
use Rattle.rules.specs.Sizes.{max_source, max_program}
use Rattle.rules.specs.Grammar.{Tree, number, name, negative, joined, parse}
use Rattle.rules.specs.Translate.{stop, operation, negation, code_for, instructions_for, cost, depth, no_translation, translation, translate}
use Rattle.rules.specs.declared.FormulaRefusal.TheVariants.{TableLength, FormulaTooLong}
use Rattle.rules.proofs.Splice.{splice_beside}

-- ---- length and cost

pub code_length : (t : Tree) → length (code_for t) ≡ cost t
unfolding code_for cost
code_length (number n) = refl
code_length (name k) = refl
code_length (negative t) = length-append (code_for t) negation ∙ ap (λ (n : ℕ). n + 2) (code_length t)
code_length (joined o left right) =
    let l = code_length left in
    let r = code_length right in
    let e = length-append (code_for left) (code_for right ++ (operation o ∷ [])) in
    let f = length-append (code_for right) (operation o ∷ []) in
    omega arith

-- "STOP one"
pub program_length : (t : Tree) → length (instructions_for t) ≡ cost t + 1
program_length t = length-append (code_for t) (stop ∷ []) ∙ ap (λ (n : ℕ). n + 1) (code_length t)

-- what is written where a code ends stands behind it
pub code_beside : (before after code more : List ℕ) (w at : ℕ) → after ≡ splice before w code → at ≡ w + length code → at + length more ≤ length before
    → splice after at more ≡ splice before w (code ++ more)
code_beside before after code more w at e n h =
    ap₂ (λ (l : List ℕ) (i : ℕ). splice l i more) e n ∙ splice_beside before w code more (omega arith)

-- ---- depth

pub depth_some : (t : Tree) → 1 ≤ depth t
unfolding depth
depth_some (number n) = omega arith
depth_some (name k) = omega arith
depth_some (negative t) = omega (arith, le-max_right (depth t) 2)
depth_some (joined o left right) = omega (arith, le-max_right (depth left) (1 + depth right))

pub cost_some : (t : Tree) → 1 ≤ cost t
unfolding cost
cost_some (number n) = omega arith
cost_some (name k) = omega arith
cost_some (negative t) = omega arith
cost_some (joined o left right) = omega arith

-- no more values than instructions
pub depth_cost : (t : Tree) → depth t ≤ cost t
unfolding depth cost
depth_cost (number n) = omega arith
depth_cost (name k) = omega arith
depth_cost (negative t) = let h = depth_cost t in let s = cost_some t in max-le (omega arith) (omega arith)
depth_cost (joined o left right) =
    let l = depth_cost left in
    let r = depth_cost right in
    let s = cost_some left in
    max-le (omega arith) (omega arith)

-- ---- "31 comes first and 21 next"

module _ (source table : List ℕ) where
  pub lent_first : eqb (length table) max_program ≡ false → translate source table ≡ no_translation table TableLength
  unfolding translate
  lent_first h = rw h

  pub long_next : eqb (length table) max_program ≡ true → leb (length source) max_source ≡ false → translate source table ≡ no_translation table FormulaTooLong
  unfolding translate
  long_next h l = rw (h, l)

  pub then_parsed : eqb (length table) max_program ≡ true → leb (length source) max_source ≡ true → translate source table ≡ translation table (parse source)
  unfolding translate
  then_parsed h l = rw (h, l)
