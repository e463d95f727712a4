-- ADDSP's moves, by the half that its operand lies in, and those past the last code. Assumes nothing.
use Prim.Native.Nat.{ℕ, suc, ◌+◌, ◌-◌, ◌^◌, ◌≤◌, ◌<◌}
use mathlib.Core.Path.{◌≡◌, sym, ap, ◌∙◌}
use native.Mathlib.Omega.{arith}
use lib.IntN.{ℤ, pos, negsuc, ◌+ℤ◌}
use lib.ListN.{get_or-eq_default}
use borrow.Author.Tests.{le-ltb}
use Rattle.rules.specs.Effects.{memory_address}
use Rattle.rules.specs.Actions.{taken, add_sp}
use Rattle.rules.specs.Instructions.{Row, codes, rows, row_of, action_of}
use Rattle.rules.specs.DepthList.{depth_after}
use Rattle.rules.proofs.Readings.{signed_plus, signed_minus}
use Rattle.program.specs.Moves.{moves_of}
use Rattle.program.specs.declared.moves.Moves.{Moves}

abbrev moves : (needs leaves : ℕ) → Moves
moves k l = record { needs = k; leaves = l }

-- those of ADDSP, by the number that its operand stands for
abbrev moves_by : ℤ → Moves
moves_by z = moves (taken z) (memory_address (pos (taken z) +ℤ z)).0

taken_away : (a : ℕ) → moves (suc a) 0 ≡ moves_by (negsuc a)
taken_away a =
    let none : 0 ≡ suc a - suc a = omega arith in
    rw (le-ltb (suc a) (suc a) (omega arith)) (ap (moves (suc a)) none)

pub adds : (n : ℕ) → n < 2147483648 → moves 0 n ≡ moves_of add_sp n
unfolding depth_after
adds n h =
    let same : n ≡ 0 + n = omega arith in
    ap (moves 0) same ∙ ap moves_by (sym (signed_plus n h))

pub takes : (n : ℕ) → 2147483648 ≤ n → n < 4294967296 → moves (4294967295 - n + 1) 0 ≡ moves_of add_sp n
unfolding depth_after
takes n h f =
    let same : 4294967295 - n + 1 ≡ suc (2 ^ 32 - suc n) = omega arith in
    ap (λ (k : ℕ). moves k 0) same ∙ taken_away (2 ^ 32 - suc n) ∙ ap moves_by (sym (signed_minus n h))

pub stays_past : (c n : ℕ) → codes ≤ c → moves_of (action_of c) n ≡ moves 0 0
unfolding action_of row_of rows depth_after
stays_past c n h = ap (λ (r : Row). moves_of r.action n) (get_or-eq_default rows _ h)
