-- Request j: "Accept exactly if ..": a list is accepted where it is acceptable, and only there; and 65 and 66 tell the first place that fails. Assumes nothing.
use Rattle.std.specs.Prelude.{Ok, Err}
use Prim.Native.Nat.{ℕ, ◌+◌, ◌<◌, zero-le}
use mathlib.Core.Path.{◌≡◌, refl, sym, ap, subst, ◌∙◌}
use mathlib.Core.Bool.{Bool, true, false, not, ◌&&◌, ◌||◌, cond}
use mathlib.Core.List.{List, [], ◌∷◌}
use native.Mathlib.Omega.{arith}
use lib.Dec.{leb, ltb, eqb}
use lib.ListN.{length}
use borrow.Author.Tests.{leb-true, le-leb, ltb-true, lt-ltb, eqb-true, eqb-false, eq-eqb, ne_eqb, not-true}
use Rattle.rules.specs.Lists.{all, every}
use Rattle.rules.specs.Sizes.{max_cells, not_reached}
use Rattle.rules.specs.Table.{Program, sound_table}
use Rattle.rules.specs.DepthList.{allowed_at, listed, rule_tests, rule, first_failing, accept_if, check}
use Rattle.rules.specs.Numbers.{depth_number, number_of_checked, place_of_checked}
use Rattle.rules.specs.declared.DepthRefusal.{DepthRefusal}
use Rattle.rules.specs.declared.DepthRefusal.TheVariants.{UnsoundTable, OutsideCells, ListLength, ForbiddenInstruction, RuleFailed}
use Rattle.rules.specs.Answers.{Checked}
use Rattle.rules.proofs.Tests.{by_test, never, and_left, and_right, every_at}
use Rattle.rules.proofs.Enough.{enough_le, le_enough}
use Rattle.rules.proofs.Failing.{IsFirst, is_first, none_fails, all_pass}
use Rattle.promises.specs.Each.{Each}
use Rattle.promises.specs.Delivered.{depth_at, HasDepth, action_at, operand_at, AllowedAt, RuleAt, Acceptable, FirstNot}

-- ---- the tests, and what they say

module _ (p : Program) (depths : List ℕ) (depth : ℕ) where
  pub listed_has : (place : ℕ) → listed p.count depths depth place ≡ true → HasDepth p depths depth place
  unfolding listed
  listed_has place h =
      record {
        inside = ltb-true place p.count (and_left (ltb place p.count) (eqb (depth_at depths place) depth) h);
        listed = eqb-true (depth_at depths place) depth (and_right (ltb place p.count) (eqb (depth_at depths place) depth) h);
      }

  has_listed : (place : ℕ) → HasDepth p depths depth place → listed p.count depths depth place ≡ true
  unfolding listed
  has_listed place h = rw (lt-ltb place p.count h.inside, eq-eqb (depth_at depths place) depth h.listed) refl

  all_have : (l : List ℕ) → all (listed p.count depths depth) l ≡ true → Each (HasDepth p depths depth) l
  unfolding all
  all_have [] h = tt
  all_have (x ∷ l) h = (listed_has x (and_left _ _ h), all_have l (and_right (listed p.count depths depth x) _ h))

  pub have_all : (l : List ℕ) → Each (HasDepth p depths depth) l → all (listed p.count depths depth) l ≡ true
  unfolding all
  have_all [] h = refl
  have_all (x ∷ l) h = rw (has_listed x h.0, have_all l h.1) refl

module _ (p : Program) (n : ℕ) (depths : List ℕ) (place : ℕ) where
  abbrev tests : List Bool
  tests = rule_tests p.count n depths (action_at p place) (operand_at p place) place (depth_at depths place)

  rule_own : rule p n depths place ≡ true → RuleAt p n depths place
  unfolding rule
  rule_own h some =
      let passed : every tests ≡ true = sym (ap (λ (b : Bool). b || every tests) (ne_eqb (depth_at depths place) not_reached some)) ∙ h in
      record {
        enough = enough_le _ (depth_at depths place) (every_at tests 0 passed);
        low = ltb-true _ n (every_at tests 1 passed);
        follow = all_have p depths _ _ (every_at tests 2 passed);
      }

  own_rule : RuleAt p n depths place → rule p n depths place ≡ true
  unfolding rule
  own_rule own =
      by_test (eqb (depth_at depths place) not_reached)
      (λ e. ap (λ (b : Bool). b || every tests) e)
      (λ e.
      let o = own (eqb-false (depth_at depths place) not_reached e) in
      ap (λ (b : Bool). b || every tests) e
      ∙ rw (le_enough _ (depth_at depths place) o.enough, lt-ltb _ n o.low, have_all p depths _ _ o.follow) refl)

module _ (p : Program) (place : ℕ) where
  allowed_at_lem : allowed_at p place ≡ true → AllowedAt p place
  unfolding allowed_at
  allowed_at_lem h = not-true _ h

  at_allowed : AllowedAt p place → allowed_at p place ≡ true
  unfolding allowed_at
  at_allowed h = ap not h

-- ---- "Accept exactly if"

not_accepted : {A : Type 0} (e : DepthRefusal) (place : ℕ) → ◌≡◌ {A = Checked} (Err (record { refusal = e; place = place })) (Ok tt) → A
not_accepted e place q = let z : ◌≡◌ {A = ℕ} 0 1 = cc in absurd (let y : ⊥ = omega arith in y)

passed : (test : Bool) (e : DepthRefusal) (place : ℕ) (d : Checked) → accept_if test e place d ≡ Ok tt → (test ≡ true) × (d ≡ Ok tt)
passed true e place d q = (refl, q)
passed false e place d q = not_accepted e place q

pub accepted_acceptable : (p : Program) (n : ℕ) (depths : List ℕ) → check p n depths ≡ Ok tt → Acceptable p n depths
unfolding check
accepted_acceptable p n depths q =
    let a = passed _ _ _ _ q in
    let b = passed _ _ _ _ a.1 in
    let c = passed _ _ _ _ b.1 in
    let d = passed _ _ _ _ c.1 in
    let e = passed _ _ _ _ d.1 in
    let f = passed _ _ _ _ e.1 in
    record {
      table = a.0;
      some = leb-true _ _ (and_left (leb 1 n) (leb n max_cells) b.0);
      few = leb-true _ _ (and_right (leb 1 n) (leb n max_cells) b.0);
      long = eqb-true _ _ c.0;
      allows = λ k h. allowed_at_lem p k (none_fails (allowed_at p) p.count (eqb-true _ _ d.0) k h);
      start = listed_has p depths 0 0 e.0;
      rules = λ k h. rule_own p n depths k (none_fails (rule p n depths) p.count (eqb-true _ _ f.0) k h);
    }

pub acceptable_accepted : (p : Program) (n : ℕ) (depths : List ℕ) → Acceptable p n depths → check p n depths ≡ Ok tt
unfolding check
acceptable_accepted p n depths a =
    let allows : first_failing (allowed_at p) p.count 0 ≡ p.count = all_pass (allowed_at p) p.count (λ k h. at_allowed p k (a.allows k h)) in
    let rules : first_failing (rule p n depths) p.count 0 ≡ p.count =
    all_pass (rule p n depths) p.count (λ k h. own_rule p n depths k (a.rules k h)) in
    rw (
      a.table,
      le-leb 1 n a.some,
      le-leb n max_cells a.few,
      eq-eqb (length depths) p.count a.long,
      eq-eqb (first_failing (allowed_at p) p.count 0) p.count allows,
      has_listed p depths 0 0 a.start,
      eq-eqb (first_failing (rule p n depths) p.count 0) p.count rules,
    ) refl

-- ---- "both with their first place"

-- the six tests in their order, with the places that the fourth and the last are told with
abbrev in_order : (table cells long allows start rules : Bool) (forbidden failing : ℕ) → Checked
in_order table cells long allows start rules forbidden failing =
    accept_if table UnsoundTable 0
    (accept_if cells OutsideCells 0
    (accept_if long ListLength 0
    (accept_if allows ForbiddenInstruction forbidden (accept_if start RuleFailed 0 (accept_if rules RuleFailed failing (Ok tt))))))

other : {A : Type 0} (d : Checked) (e : DepthRefusal) (k : ℕ) → d ≡ Err (record { refusal = e; place = k }) → (number_of_checked d ≡ depth_number e → ⊥) → A
other d e k q h = absurd (h (ap number_of_checked q))

by_forbidden : (a b c d e f : Bool) (i j k : ℕ) → in_order a b c d e f i j ≡ Err (record { refusal = ForbiddenInstruction; place = k }) → (d ≡ false) × (i ≡ k)
by_forbidden false b c d e f i j k q = other _ _ k q (λ z. omega (arith, z))
by_forbidden true false c d e f i j k q = other _ _ k q (λ z. omega (arith, z))
by_forbidden true true false d e f i j k q = other _ _ k q (λ z. omega (arith, z))
by_forbidden true true true false e f i j k q = (refl, ap place_of_checked q)
by_forbidden true true true true false f i j k q = other _ _ k q (λ z. omega (arith, z))
by_forbidden true true true true true false i j k q = other _ _ k q (λ z. omega (arith, z))
by_forbidden true true true true true true i j k q = other _ _ k q (λ z. omega (arith, z))

by_rule : (a b c d e f : Bool) (i j k : ℕ) → in_order a b c d e f i j ≡ Err (record { refusal = RuleFailed; place = k }) → cond e ((f ≡ false) × (j ≡ k)) (k ≡ 0)
by_rule false b c d e f i j k q = other _ _ k q (λ z. omega (arith, z))
by_rule true false c d e f i j k q = other _ _ k q (λ z. omega (arith, z))
by_rule true true false d e f i j k q = other _ _ k q (λ z. omega (arith, z))
by_rule true true true false e f i j k q = other _ _ k q (λ z. omega (arith, z))
by_rule true true true true false f i j k q = sym (ap place_of_checked q)
by_rule true true true true true false i j k q = (refl, ap place_of_checked q)
by_rule true true true true true true i j k q = other _ _ k q (λ z. omega (arith, z))

-- the first that fails a test is the first at which what the test asks for does not hold
first_of : (p : Program) (Holds : (place : ℕ) → Type 0) (test : ℕ → Bool) (k : ℕ) → ((j : ℕ) → test j ≡ true → Holds j) → ((j : ℕ) → Holds j → test j ≡ true)
    → eqb (first_failing test p.count 0) p.count ≡ false → first_failing test p.count 0 ≡ k → FirstNot p Holds k
first_of p Holds test k to from h q =
    let first : IsFirst test 0 (0 + p.count) (first_failing test p.count 0) = is_first test p.count 0 in
    let not-all : first_failing test p.count 0 ≡ p.count → ⊥ = eqb-false _ _ h in
    let low : first_failing test p.count 0 < p.count = omega (arith, not-all, first.within) in
    subst (FirstNot p Holds) q
    (record {
      inside = low;
      fails = λ holds. never (sym (from _ holds) ∙ first.fails (omega (arith, low)));
      before = λ j l. to j (first.before j zero-le l);
    })

module _ (p : Program) (n : ℕ) (depths : List ℕ) (place : ℕ) where
  abbrev forbidden_at : ℕ
  forbidden_at = first_failing (allowed_at p) p.count 0

  abbrev failing_at : ℕ
  failing_at = first_failing (rule p n depths) p.count 0

  -- the place of 65 is the first with a forbidden instruction
  pub first_forbidden : check p n depths ≡ Err (record { refusal = ForbiddenInstruction; place = place }) → FirstNot p (AllowedAt p) place
  unfolding check
  first_forbidden q =
      let from =
      by_forbidden (sound_table p) (leb 1 n && leb n max_cells) (eqb (length depths) p.count) (eqb forbidden_at p.count) (listed p.count depths 0 0)
      (eqb failing_at p.count) forbidden_at failing_at place q in
      first_of p (AllowedAt p) (allowed_at p) place (allowed_at_lem p) (at_allowed p) from.0 from.1

  -- where 66 comes from, by whether place 0 has depth 0
  abbrev From : Bool → Type 0
  From b = cond b ((eqb failing_at p.count ≡ false) × (failing_at ≡ place)) (place ≡ 0)

  from_rule : check p n depths ≡ Err (record { refusal = RuleFailed; place = place }) → From (listed p.count depths 0 0)
  unfolding check
  from_rule q =
      by_rule (sound_table p) (leb 1 n && leb n max_cells) (eqb (length depths) p.count) (eqb forbidden_at p.count) (listed p.count depths 0 0)
      (eqb failing_at p.count) forbidden_at failing_at place q

  -- the place of 66 is the first whose rule fails, where place 0 has depth 0
  pub first_failing_lem : check p n depths ≡ Err (record { refusal = RuleFailed; place = place }) → HasDepth p depths 0 0 → FirstNot p (RuleAt p n depths) place
  first_failing_lem q start =
      let from : From true = subst From (has_listed p depths 0 0 start) (from_rule q) in
      first_of p (RuleAt p n depths) (rule p n depths) place (rule_own p n depths) (own_rule p n depths) from.0 from.1

  -- and else it is 0
  pub failing_start : check p n depths ≡ Err (record { refusal = RuleFailed; place = place }) → (HasDepth p depths 0 0 → ⊥) → place ≡ 0
  failing_start q start =
      by_test (listed p.count depths 0 0) (λ e. absurd (start (listed_has p depths 0 0 e))) (λ e. subst From e (from_rule q))
