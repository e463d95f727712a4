-- The first place that fails a test, if any, as a loop finds it and as the library does. Assumes nothing.
use Rattle.std.specs.Prelude.{Some, None, position}
use Rattle.std.specs.List.{position_or_len}
use Rattle.std.proofs.lemmas.List.Sums.{position_or_len_is}
use Rattle.std.proofs.lemmas.List.{length-take-le, get_or-take}
use Prim.Native.Nat.{ℕ, ◌+◌, ◌≤◌, ◌<◌, zero-le}
use mathlib.Core.Path.{◌≡◌, refl, sym, ap, ◌∙◌}
use mathlib.Core.Bool.{Bool, true, false, not}
use mathlib.Core.List.{List}
use native.Mathlib.Omega.{arith}
use lib.Dec.{eqb, ltb}
use lib.ListN.{length, get_or, take}
use borrow.Author.Tests.{eq-eqb, ne_eqb, eqb-true, eqb-false, lt-ltb, le-ltb, ltb-true, ltb-false, not-true, not-false}
use Rattle.rules.specs.DepthList.{first_failing}
use Rattle.rules.proofs.Tests.{by_test, never}
use Rattle.rules.proofs.Failing.{IsFirst, is_first, all_pass, none_fails}
use Rattle.depths.specs.Judged.{failing}

module _ (test : ℕ → Bool) (count : ℕ) where
  abbrev least : ℕ
  least = first_failing test count 0

  first : IsFirst test 0 (0 + count) least
  first = is_first test count 0

  pub failing_none : ((k : ℕ) → k < count → test k ≡ true) → None ≡ failing test count
  failing_none each = rw (eq-eqb least count (all_pass test count each)) refl

  pub none_failing : failing test count ≡ None → (k : ℕ) → k < count → test k ≡ true
  none_failing e = none_fails test count (by_test (eqb least count) (eqb-true least count) (λ d. let z = rw d at e in cc))

  -- ---- the one found, before which all pass
  module _ (k : ℕ) (inside : k < count) (fails : test k ≡ false) (before : (j : ℕ) → j < k → test j ≡ true) where
    not_below : least < k → ⊥
    not_below h = never (sym (before least h) ∙ first.fails (omega (arith, h, inside)))

    not_above : k < least → ⊥
    not_above h = never (sym (first.before k zero-le h) ∙ fails)

    same : least ≡ k
    same =
        by_test (ltb least k) (λ h. absurd (not_below (ltb-true least k h)))
        (λ h. by_test (ltb k least) (λ g. absurd (not_above (ltb-true k least g))) (λ g. omega (arith, ltb-false least k h, ltb-false k least g)))

    pub failing_some : Some k ≡ failing test count
    failing_some = rw (ne_eqb least count (λ e. absurd (let z : ⊥ = omega (arith, e, same, inside) in z))) (ap Some (sym same))

  -- ---- where the test is of the numbers of a list
  module _ (bad : ℕ → Bool) (l : List ℕ) (fits : count ≤ length l) (reads : (k : ℕ) → k < count → test k ≡ not (bad (get_or l k 0))) where
    long : length (take count l) ≡ count
    long = length-take-le count l fits

    at : (k : ℕ) → k < count → bad (get_or (take count l) k 0) ≡ bad (get_or l k 0)
    at k h = ap bad (get_or-take count l k 0 h)

    least_is : position_or_len bad (take count l) ≡ least
    least_is =
        position_or_len_is bad (take count l) least 0 (omega (arith, first.within, long))
        (λ k h. let low : k < count = omega (arith, h, first.within) in at k low ∙ not-true _ (sym (reads k low) ∙ first.before k zero-le h))
        (λ h. let low : least < count = omega (arith, h, long) in at least low ∙ not-false _ (sym (reads least low) ∙ first.fails (omega (arith, low))))

    pub position_failing : position bad (take count l) ≡ failing test count
    position_failing =
        rw (least_is, long)
        (by_test (eqb least count)
        (λ e. rw (e, le-ltb least count (omega (arith, eqb-true least count e))) refl)
        (λ e. let d : least ≡ count → ⊥ = eqb-false least count e in rw (e, lt-ltb least count (omega (arith, d, first.within))) refl))
