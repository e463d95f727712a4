-- The laws of a loop that writes a list over a slice from some place on, one element each turn; and of one that writes zeros over it all.
-- Assumes nothing.
use Prim.Native.Nat.{ℕ, suc, ◌+◌, ◌≤◌, ◌<◌}
use mathlib.Core.Path.{◌≡◌, refl, sym, ap, ◌∙◌, subst}
use mathlib.Core.List.{List, ◌++◌, append-nil}
use native.Mathlib.Nat.{add-zero, zero-add}
use native.Mathlib.Omega.{arith}
use lib.ListN.{length, get_or, drop, set, replicate, length-set, length-replicate, drop_of_length-le}
use lib.Seq.{sets, drop-cons}
use Rattle.rules.specs.Lists.{splice}
use Rattle.rules.proofs.Zeros.{zeros_at_lem}
use Rattle.rules.proofs.Splice.{sets_splice}

-- what is left to write, written over l, gives what all of vs written over l₀ gives
pub record Stored (l₀ l vs : List ℕ) (at i : ℕ) : Type 0 where
  pub len : length l ≡ length l₀
  pub rest : sets l (at + i) (drop i vs) ≡ sets l₀ at vs

pub stored_none : (l₀ vs : List ℕ) (at : ℕ) → Stored l₀ l₀ vs at 0
stored_none l₀ vs at = record { len = refl; rest = ap (λ (k : ℕ). sets l₀ k vs) (add-zero at) }

pub stored_more : {l₀ l vs : List ℕ} {at i : ℕ} (v : ℕ) → Stored l₀ l vs at i → i < length vs → v ≡ get_or vs i 0
    → Stored l₀ (set l (at + i) v) vs at (i + 1)
stored_more {l₀} {l} {vs} {at} {i} v S h e =
    record {
      len = length-set l (at + i) v ∙ S.len;
      rest =
          let p : at + (i + 1) ≡ suc (at + i) = omega arith in
          let q : i + 1 ≡ suc i = omega arith in
          (λ j. sets (set l (at + i) (e j)) (p j) (drop (q j) vs)) ∙ ap (sets l (at + i)) (sym (drop-cons vs i 0 h)) ∙ S.rest;
    }

pub stored_all : {l₀ l vs : List ℕ} {at i : ℕ} → Stored l₀ l vs at i → length vs ≤ i → at + length vs ≤ length l₀ → l ≡ splice l₀ at vs
stored_all {l₀} {l} {vs} {at} {i} S h f = ap (sets l (at + i)) (sym (drop_of_length-le vs h)) ∙ S.rest ∙ sets_splice vs l₀ at f

-- ---- zeros over the whole slice

abbrev pub Cleared : List ℕ → List ℕ → ℕ → Type 0
Cleared l₀ l i = Stored l₀ l (replicate (length l₀) 0) 0 i

pub cleared_none : (l₀ : List ℕ) → Cleared l₀ l₀ 0
cleared_none l₀ = stored_none l₀ (replicate (length l₀) 0) 0

module _ (l₀ l : List ℕ) (i : ℕ) (S : Cleared l₀ l i) where
  zeros_length : length (replicate {A = ℕ} (length l₀) 0) ≡ length l₀
  zeros_length = length-replicate (length l₀) 0

  pub cleared_more : i < length l → Cleared l₀ (set l i 0) (i + 1)
  cleared_more h =
      subst (λ (k : ℕ). Cleared l₀ (set l k 0) (i + 1)) (zero-add i)
      (stored_more 0 S (omega (arith, zeros_length, S.len)) (sym (zeros_at_lem (length l₀) i)))

  pub cleared_all : length l ≤ i → l ≡ replicate (length l₀) 0
  cleared_all h =
      stored_all S (omega (arith, zeros_length, S.len)) (omega (arith, zeros_length))
      ∙ ap (λ (r : List ℕ). replicate (length l₀) 0 ++ r) (drop_of_length-le l₀ {i = 0 + length (replicate {A = ℕ} (length l₀) 0)} (omega (arith, zeros_length)))
      ∙ append-nil (replicate (length l₀) 0)
