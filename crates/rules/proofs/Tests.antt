-- The laws of tests: two together, over lists (`all`, `every` and `same`, for the loops and the early returns that make them), and over the
-- numbers below a bound. Assumes nothing.
use Prim.Native.Nat.{ℕ, zero, suc, ◌+◌, ◌≤◌, ◌<◌}
use mathlib.Core.Path.{◌≡◌, refl, sym, ap, ◌∙◌}
use mathlib.Core.Bool.{Bool, true, false, cond, not, ◌&&◌, ◌||◌, false≢true, true≢false, and-false}
use mathlib.Core.List.{List, [], ◌∷◌}
use native.Mathlib.Nat.{not-suc-le-zero, le_of_suc-le-suc}
use native.Mathlib.Numerals.{add-one}
use native.Mathlib.Omega.{arith}
use lib.ListN.{length, get_or, drop, drop_of_length-le}
use lib.Seq.{drop-cons}
use lib.Dec.{eqb}
use borrow.Author.Tests.{eq-eqb, eqb-true, eqb-false}
use Rattle.rules.specs.Lists.{all, every, same}

-- ---- one test, either way that it goes

pub by_test : {P : Type 0} (b : Bool) → (b ≡ true → P) → (b ≡ false → P) → P
by_test true f g = f refl
by_test false f g = g refl

-- a test that fails does not hold
pub never : {A : Type 0} → true ≡ false → A
never h = absurd (true≢false h)

-- what holds of both branches holds of the one that a test takes
pub either : {A : Type 0} (P : A → Type 0) (b : Bool) {x y : A} → P x → P y → P (cond b x y)
either P true h k = h
either P false h k = k

-- ---- two tests

pub and_left : (a b : Bool) → (a && b) ≡ true → a ≡ true
and_left true b h = refl
and_left false b h = absurd (false≢true h)

pub and_right : (a b : Bool) → (a && b) ≡ true → b ≡ true
and_right true b h = h
and_right false b h = absurd (false≢true h)

-- early returns: the second is reached where the first holds
pub and_then : {a b c : Bool} → a ≡ true → b ≡ c → (a && b) ≡ c
and_then {a} {b} h k = ap (λ (t : Bool). t && b) h ∙ k

pub or_left : (a b : Bool) → (a || b) ≡ false → a ≡ false
or_left true b h = absurd (true≢false h)
or_left false b h = refl

pub or_right : (a b : Bool) → (a || b) ≡ false → b ≡ false
or_right true b h = absurd (true≢false h)
or_right false b h = h

-- `not a || b`: the second is asked for only where the first holds
pub implies_true : (a b : Bool) → (not a || b) ≡ true → a ≡ true → b ≡ true
implies_true true b h q = h
implies_true false b h q = absurd (false≢true q)

pub to_implies : (a b : Bool) → (a ≡ true → b ≡ true) → (not a || b) ≡ true
to_implies true b h = h refl
to_implies false b h = refl

-- both hold, or neither does
abbrev pub alike : Bool → Bool → Bool
alike true b = b
alike false b = not b

pub alike_equal : (a b : Bool) → alike a b ≡ true → a ≡ b
alike_equal true b h = sym h
alike_equal false true h = absurd (false≢true h)
alike_equal false false h = refl

-- ---- every test of a list

pub every_at : (l : List Bool) (k : ℕ) → every l ≡ true → get_or l k true ≡ true
every_at [] k h = refl
every_at (t ∷ ts) zero h = and_left t (every ts) h
every_at (t ∷ ts) (suc k) h = every_at ts k (and_right t (every ts) h)

-- one that fails is enough
pub every_false : (l : List Bool) (k : ℕ) → get_or l k true ≡ false → every l ≡ false
every_false [] k h = h
every_false (t ∷ ts) zero h = ap (λ (u : Bool). u && every ts) h
every_false (t ∷ ts) (suc k) h = ap (λ (u : Bool). t && u) (every_false ts k h) ∙ and-false t

-- ---- one test of every number

-- the element after
pub drop_next : (l : List ℕ) (i : ℕ) → i < length l → drop i l ≡ get_or l i 0 ∷ drop (i + 1) l
drop_next l i h = rw add-one (drop-cons l i 0 h)

-- one number more, and no number left: a loop's turn and its end
pub all_next : (p : ℕ → Bool) (l : List ℕ) (i : ℕ) → i < length l → all p (drop i l) ≡ (p (get_or l i 0) && all p (drop (i + 1) l))
unfolding all
all_next p l i h = ap (all p) (drop_next l i h)

pub all_done : (p : ℕ → Bool) (l : List ℕ) (i : ℕ) → length l ≤ i → all p (drop i l) ≡ true
unfolding all
all_done p l i h = ap (all p) (drop_of_length-le l h)

-- what holds of every number holds of each
pub all_at : (p : ℕ → Bool) (l : List ℕ) (k : ℕ) → all p l ≡ true → k < length l → p (get_or l k 0) ≡ true
unfolding all
all_at p [] k h kl = absurd (not-suc-le-zero kl)
all_at p (x ∷ l) zero h kl = and_left (p x) (all p l) h
all_at p (x ∷ l) (suc k) h kl = all_at p l k (and_right (p x) (all p l) h) (le_of_suc-le-suc kl)

-- ---- two lists that are the same

pub same_refl : (xs : List ℕ) → same xs xs ≡ true
unfolding same
same_refl [] = refl
same_refl (x ∷ xs) = rw (eq-eqb x x refl, same_refl xs) refl

pub same_equal : (xs ys : List ℕ) → same xs ys ≡ true → xs ≡ ys
unfolding same
same_equal [] [] h = refl
same_equal [] (y ∷ ys) h = absurd (false≢true h)
same_equal (x ∷ xs) [] h = absurd (false≢true h)
same_equal (x ∷ xs) (y ∷ ys) h =
    ap (λ (z : ℕ). z ∷ xs) (eqb-true x y (and_left (eqb x y) (same xs ys) h))
    ∙ ap (λ (zs : List ℕ). y ∷ zs) (same_equal xs ys (and_right (eqb x y) (same xs ys) h))

-- ---- one test of every number below a bound: a table's rule is computed once

abbrev pub below : (ℕ → Bool) → ℕ → Bool
below f zero = true
below f (suc n) = f n && below f n

pub at_below : (f : ℕ → Bool) (n : ℕ) → below f n ≡ true → (k : ℕ) → k < n → f k ≡ true
at_below f zero t k h = absurd (not-suc-le-zero h)
at_below f (suc n) t k h =
    by_test (eqb k n)
    (λ e. rw (eqb-true k n e) (and_left (f n) (below f n) t))
    (λ e.
    let d : k ≡ n → ⊥ = eqb-false k n e in
    at_below f n (and_right (f n) (below f n) t) k (omega arith))
