-- A chain of operands, one operator at a time. Assumes nothing.
use Prim.Native.Nat.{ℕ, zero, suc, ◌+◌, ◌≤◌, ◌<◌}
use mathlib.Core.Path.{◌≡◌, refl, sym, ap, ◌∙◌}
use mathlib.Core.Bool.{Bool, true}
use mathlib.Core.List.{List, [], ◌∷◌}
use native.Mathlib.Omega.{arith}
use lib.ListN.{length}
use Rattle.rules.specs.Grammar.{Tree, joined, Token, digits, letter, sign, opening, closing, forbidden, Reading, read, refused, Reader, require, affordable, after, operator, none, following, chain}
use Rattle.rules.specs.declared.Operator.{Operator}
use Rattle.rules.specs.declared.FormulaRefusal.TheVariants.{CostTooHigh}
use Rattle.rules.proofs.Tests.{by_test}
use Rattle.formula.proofs.Readings.{Lettered, GoodReading, GoodReader}

-- ---- a chain, one operator at a time

module _ (these : Operator → Bool) (f : Reader) (left : Tree) (spent : ℕ) (ts : List Token) where
  -- no operator of these follows
  pub chain_ends : (turns : ℕ) → following these ts ≡ none → chain these f turns left spent ts ≡ read left spent ts
  unfolding chain
  chain_ends zero q = refl
  chain_ends (suc turns) q = rw q

  module _ (o : Operator) (rest : List Token) (q : following these ts ≡ operator o rest) (turns : ℕ) where
    pub chain_more : affordable (spent + 1) ≡ true → (right : Tree) (n : ℕ) (behind : List Token) → f (spent + 1) rest ≡ read right n behind
        → chain these f (suc turns) left spent ts ≡ chain these f turns (joined o left right) n behind
    unfolding chain
    chain_more a right n behind h = rw (q, a, h)

-- as many turns as there are tokens are enough: with more there is no other reading
module _ (these : Operator → Bool) (most : ℕ) (f : Reader) (good : GoodReader most f) where
  abbrev Same : ℕ → ℕ → Type 0
  Same a b =
      (left : Tree) (spent : ℕ) (ts : List Token) → Lettered ts → length ts ≤ a → length ts ≤ b → chain these f a left spent ts ≡ chain these f b left spent ts

  same_after : (a b : ℕ) → Same a b → (o : Operator) (left : Tree) (spent : ℕ) (ts : List Token) → length ts ≤ a → length ts ≤ b → (x : Reading)
      → GoodReading most spent ts x → after (λ right. chain these f a (joined o left right)) x ≡ after (λ right. chain these f b (joined o left right)) x
  same_after a b h o left spent ts la lb (read right n rest) g =
      let l : length rest < length ts = g.shorter in h (joined o left right) n rest g.lettered (omega arith) (omega arith)
  same_after a b h o left spent ts la lb (refused e) g = refl

  same_turn : (a b : ℕ) → Same a b → Same (suc a) (suc b)
  unfolding chain
  same_turn a b h left spent [] l la lb = refl
  same_turn a b h left spent (digits n ∷ ts) l la lb = refl
  same_turn a b h left spent (letter k ∷ ts) l la lb = refl
  same_turn a b h left spent (sign o ∷ ts) l la lb =
      let e = same_after a b h o left (spent + 1) ts (omega arith) (omega arith) (f (spent + 1) ts) (good (spent + 1) ts l) in
      by_test (these o) (λ t. rw t (ap (require (affordable (spent + 1)) CostTooHigh) e)) (λ t. rw t)
  same_turn a b h left spent (opening ∷ ts) l la lb = refl
  same_turn a b h left spent (closing ∷ ts) l la lb = refl
  same_turn a b h left spent (forbidden ∷ ts) l la lb = refl

  none_left : (a : ℕ) (left : Tree) (spent : ℕ) (ts : List Token) → length ts ≤ 0 → chain these f a left spent ts ≡ read left spent ts
  none_left a left spent [] l = chain_ends these f left spent [] a refl
  none_left a left spent (k ∷ ts) l = absurd (let y : ⊥ = omega arith in y)

  pub chain_enough : (a b : ℕ) → Same a b
  chain_enough zero b left spent ts l la lb = none_left zero left spent ts la ∙ sym (none_left b left spent ts la)
  chain_enough (suc a) zero left spent ts l la lb = none_left (suc a) left spent ts lb ∙ sym (none_left zero left spent ts lb)
  chain_enough (suc a) (suc b) left spent ts l la lb = same_turn a b (chain_enough a b) left spent ts l la lb
