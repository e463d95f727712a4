-- The first place that fails a test: a loop's turn and its ends; and what it says of the places before it. Assumes nothing.
use Prim.Native.Nat.{ℕ, zero, suc, ◌+◌, ◌-◌, ◌≤◌, ◌<◌, zero-le}
use mathlib.Core.Path.{◌≡◌, sym, ap, ◌∙◌}
use mathlib.Core.Bool.{Bool, true, false, cond}
use mathlib.Core.Logic.{⊎_elim}
use native.Mathlib.Nat.{zero-add, eq-or-lt_of_le}
use native.Mathlib.Numerals.{add-one}
use native.Mathlib.Omega.{arith}
use lib.Dec.{eqb}
use borrow.Author.Tests.{eqb-true, eqb-false}
use Rattle.rules.specs.DepthList.{first_failing}
use Rattle.rules.proofs.Tests.{by_test, never}

-- ---- a loop

module _ (test : ℕ → Bool) (count i : ℕ) where
  pub failing_end : count ≤ i → first_failing test (count - i) i ≡ i
  unfolding first_failing
  failing_end h =
      let none : count - i ≡ 0 = omega (arith, h) in
      ap (λ (k : ℕ). first_failing test k i) none

  module _ (h : i < count) where
    more : count - i ≡ suc (count - (i + 1))
    more = omega (arith, h)

    pub failing_here : test i ≡ false → first_failing test (count - i) i ≡ i
    unfolding first_failing
    failing_here t =
        ap (λ (k : ℕ). first_failing test k i) more ∙ ap (λ (b : Bool). cond b (first_failing test (count - (i + 1)) (suc i)) i) t

    pub failing_next : test i ≡ true → first_failing test (count - i) i ≡ first_failing test (count - (i + 1)) (i + 1)
    unfolding first_failing
    failing_next t =
        ap (λ (k : ℕ). first_failing test k i) more ∙ ap (λ (b : Bool). cond b (first_failing test (count - (i + 1)) (suc i)) i) t
        ∙ ap (first_failing test (count - (i + 1))) (sym (add-one i))

-- ---- it is the first: those before it pass, it fails unless it is the one behind them all, and it is no further

pub record IsFirst (test : ℕ → Bool) (from to k : ℕ) : Type 0 where
  pub within : k ≤ to
  pub before : (j : ℕ) → from ≤ j → j < k → test j ≡ true
  pub fails : k < to → test k ≡ false

pub is_first : (test : ℕ → Bool) (left from : ℕ) → IsFirst test from (from + left) (first_failing test left from)
unfolding first_failing
is_first test zero from = record { within = omega arith; before = λ j l h. absurd (let z : ⊥ = omega arith in z); fails = λ h. absurd (let z : ⊥ = omega arith in z) }
is_first test (suc left) from = by_test (test from) (on (is_first test left (suc from))) here
  where
    behind : from + suc left ≡ suc from + left
    behind = omega arith

    on : IsFirst test (suc from) (suc from + left) (first_failing test left (suc from)) → test from ≡ true
        → IsFirst test from (from + suc left) (cond (test from) (first_failing test left (suc from)) from)
    on rest t =
        rw (t, behind)
        (record {
          within = rest.within;
          before = λ j l h. by_test (eqb j from) (λ e. ap test (eqb-true j from e) ∙ t) (λ e. let d : j ≡ from → ⊥ = eqb-false j from e in rest.before j (omega arith) h);
          fails = rest.fails;
        })

    here : test from ≡ false → IsFirst test from (from + suc left) (cond (test from) (first_failing test left (suc from)) from)
    here t = rw t (record { within = omega arith; before = λ j l h. absurd (let z : ⊥ = omega arith in z); fails = λ h. t })

-- where it is the one behind them all, none fails; and the other way round
pub none_fails : (test : ℕ → Bool) (count : ℕ) → first_failing test count 0 ≡ count → (k : ℕ) → k < count → test k ≡ true
none_fails test count q k h = (is_first test count 0).before k zero-le (omega (arith, q, h))

pub all_pass : (test : ℕ → Bool) (count : ℕ) → ((k : ℕ) → k < count → test k ≡ true) → first_failing test count 0 ≡ count
all_pass test count h =
    let first : IsFirst test 0 (0 + count) (first_failing test count 0) = is_first test count 0 in
    ⊎_elim (λ q. q ∙ zero-add count)
    (λ l. never (sym (h (first_failing test count 0) (omega (arith, l))) ∙ first.fails l)) (eq-or-lt_of_le first.within)

-- it is never further than that
pub failing_most : (test : ℕ → Bool) (count k : ℕ) → k ≡ first_failing test count 0 → count ≤ k → first_failing test count 0 ≡ count
failing_most test count k q h = omega (arith, q, h, (is_first test count 0).within)
