-- Registers as a lent slice has them: a slice of nine numbers is the list of the registers that are read of it. Assumes nothing.
use Prim.Native.Nat.{ℕ, zero, suc, ◌+◌, ◌≤◌}
use mathlib.Core.Path.{◌≡◌, sym, ap, ◌∙◌}
use mathlib.Core.List.{List, [], ◌∷◌}
use native.Mathlib.Omega.{arith}
use native.Mathlib.Nat.{add-zero, add-suc, suc-add}
use lib.ListN.{length, get_or, drop}
use lib.Seq.{drop-cons, drop-length}
use Rattle.sam_c.specs.Calls.{register_count, list_of, registers_of}

-- k numbers of the list from place i on, one by one
abbrev spelled : ℕ → ℕ → List ℕ → List ℕ
spelled zero i l = []
spelled (suc k) i l = get_or l i 0 ∷ spelled k (suc i) l

spelled_all : (k i : ℕ) (l : List ℕ) → i + k ≡ length l → spelled k i l ≡ drop i l
spelled_all zero i l h = sym (ap (λ (j : ℕ). drop j l) (sym (add-zero i) ∙ h) ∙ drop-length l)
spelled_all (suc k) i l h =
    let below : suc i ≤ length l = omega (arith, add-suc i k) in
    ap (λ (t : List ℕ). get_or l i 0 ∷ t) (spelled_all k (suc i) l (omega (arith, add-suc i k, suc-add i k))) ∙ sym (drop-cons l i 0 below)

-- a list of so many is what its registers are as a list, so a refused call that writes them again changes nothing
pub listed : (l : List ℕ) → length l ≡ register_count → list_of (registers_of l) ≡ l
listed l h = spelled_all register_count 0 l (sym h)
